-- Products of numbers of 16 binary digits, and sums of their halves.
use Rattle.std.proofs.Common.{◌≡◌, ℕ, ◌+◌, ◌*◌, ◌%◌, ◌<◌, ◌≤◌, List, length, get_or, set, sym, ◌∙◌, add-zero, mod-eq_of_lt, mul-le-mul, arith, length-set}
use Rattle.lists.specs.Padded.{zeros}
use Rattle.lists.proofs.Fill.{length_zeros}
use Rattle.lists.proofs.Numbers.{below_at, below_set}
use Rattle.lists.proofs.Padding.{below_zeros}
use Rattle.kernel.specs.Inner.Halves.{wrapped, DigitSums}
use Rattle.kernel.proofs.Lanes.{length_lanewise, get_or_lanewise, lanewise_same}

pub product16 : (a b : ℕ) → a < 65536 → b < 65536 → a * b ≤ 4294836225
product16 a b ha hb =
    let la : a ≤ 65535 = omega arith in
    let lb : b ≤ 65535 = omega arith in
    omega (arith, mul-le-mul la lb)

pub lane_sums_zeros : (n : ℕ) → DigitSums n (zeros n)
lane_sums_zeros n = record { long = length_zeros n; below = below_zeros 65536 n (omega arith) }

-- one sum replaced
pub lane_sums_set : {n : ℕ} (s : List ℕ) (t x : ℕ) → DigitSums n s → x < 65536 → DigitSums n (set s t x)
lane_sums_set s t x h small = record { long = simp length-set h.long; below = below_set 65536 s t x small h.below }

module _ {n : ℕ} (f : ℕ → ℕ) (s : List ℕ) (h : DigitSums n s) where
  pub get_or_wrapped : (t : ℕ) → t < n → get_or (wrapped f s) t 0 ≡ (get_or s t 0 + f t) % 65536
  unfolding wrapped
  get_or_wrapped t lane = get_or_lanewise (λ t y. (y + f t) % 65536) s t (omega (arith, h.long))

  pub length_wrapped : length (wrapped f s) ≡ n
  unfolding wrapped
  length_wrapped = length_lanewise (λ t y. (y + f t) % 65536) s ∙ h.long

  -- nothing is added
  pub wrapped_none : ((t : ℕ) → f t ≡ 0) → s ≡ wrapped f s
  unfolding wrapped
  wrapped_none none =
      sym (lanewise_same _ s (λ t inside. rw (none t, add-zero) (mod-eq_of_lt (below_at 65536 s h.below t inside))))
