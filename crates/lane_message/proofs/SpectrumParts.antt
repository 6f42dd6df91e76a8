-- The check sums and the coefficients' sums as parts of a spectrum.
use mathlib.Core.Path.{◌≡◌, refl, sym, ◌∙◌}
use mathlib.Core.List.{List, [], ◌∷◌}
use Prim.Native.Nat.{ℕ, zero, suc, ◌+◌, ◌-◌, ◌%◌, ◌≤◌, ◌<◌}
use native.Mathlib.Nat as Nat
use native.Mathlib.Omega.{arith}
use lib.ListN.{length, get_or, take, drop}
use lib.Seq.{ext_get_or}
use Rattle.lists.specs.Padded.{padded}
use Rattle.lists.proofs.Padding.{length_padded, get_or_padded}
use Rattle.lists.proofs.Rows.{from_ext, length_from, get_or_from, part_length, get_d_part}
use Rattle.generator.specs.declared.Header.{Header}
use Rattle.generator.specs.Records.{Sound}
use Rattle.generator.specs.Shifts.{negative}
use Rattle.generator.specs.Codewords.{check_from}
use Rattle.check_sums.specs.Inner.Sums.{check_sums}
use Rattle.spectrum.specs.Inner.Spectrum.{spectrum_of}
use Rattle.spectrum.proofs.Arrays.{value_at}
use Rattle.lane_message.specs.Inner.Symbols.{coefficient_sums, coefficients_of}

module _ (h : Header) (ws : List ℕ) where
  pub length_spectrum : length (spectrum_of h ws) ≡ h.n
  unfolding spectrum_of
  length_spectrum = length_from (λ e. check_from h e 0 ws) 0 h.n

  -- sum e of the spectrum
  pub sum_at : (e : ℕ) → e < h.n → get_or (spectrum_of h ws) e 0 ≡ check_from h e 0 ws
  unfolding spectrum_of
  sum_at e low = value_at (λ e. check_from h e 0 ws) h.n e low

  -- the check sums are the sums from 1 on, as code lends them
  pub check_part : Sound h → h.n ≤ 255 → take (h.n - h.k + 1 - 1) (drop 1 (padded 255 (spectrum_of h ws))) ≡ check_sums h ws
  unfolding check_sums
  check_part s few =
      let checks = h.n - h.k in
      let turned : checks + 1 ≡ 1 + checks = omega arith in
      let small : 1 + checks ≤ h.n = omega (arith, s.some, s.fits) in
      let room : 1 + checks ≤ length (padded 255 (spectrum_of h ws)) = omega (arith, length_padded 255 (spectrum_of h ws) (omega (arith, length_spectrum)), length_spectrum) in
      let long = part_length 1 checks (padded 255 (spectrum_of h ws)) room in
      rw turned
      (ext_get_or 0 _ (check_sums h ws) (long ∙ sym (length_from (λ e. check_from h e 0 ws) 1 checks))
      (λ i l.
      let inside : i < checks = omega arith in
      get_d_part 1 checks (padded 255 (spectrum_of h ws)) i inside
      ∙ get_or_padded 255 (spectrum_of h ws) (1 + i) (omega (arith, length_spectrum))
      ∙ sum_at (1 + i) (omega arith)
      ∙ sym (get_or_from (λ e. check_from h e 0 ws) 1 checks i 0 inside)))

-- check sum n is check sum 0
whole_round : (h : Header) (j : ℕ) (ws : List ℕ) → check_from h h.n j ws ≡ check_from h 0 j ws
unfolding check_from
whole_round h j [] = refl
whole_round h j (w ∷ ws) = rw (Nat.mul-mod_left j h.n, Nat.mul-zero j, Nat.zero-mod h.n, whole_round h (j + 1) ws)

-- the coefficients' sums, read from the spectrum
pub coefficients_are : (h : Header) → Sound h → (ws : List ℕ) → coefficients_of h (spectrum_of h ws) ≡ coefficient_sums h ws
unfolding coefficients_of coefficient_sums negative
coefficients_are h s ws = from_ext _ _ 0 h.k (λ c low high. at c (omega arith))
  where
    at : (c : ℕ) → c < h.k → get_or (spectrum_of h ws) ((h.n - c) % h.n) 0 ≡ check_from h (h.n - c) 0 ws
    at zero inside = rw (Nat.sub-zero h.n, Nat.mod_self h.n) (sum_at h ws 0 (omega (arith, s.two)) ∙ sym (whole_round h 0 ws))
    at (suc c) inside = let low : h.n - suc c < h.n = omega (arith, s.fits) in rw (Nat.mod-eq_of_lt low) (sum_at h ws (h.n - suc c) low)
