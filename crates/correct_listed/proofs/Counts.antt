-- For each place of the list, in how many of the lanes before t it is wrong: one lane more, and all.
use mathlib.Core.Path.{◌≡◌, refl, sym, ap, ap₂, ◌∙◌}
use mathlib.Core.Bool.{Bool, false, not}
use mathlib.Core.List.{List}
use mathlib.Core.Logic.{by_cases}
use Prim.Native.Nat.{ℕ, ◌+◌, ◌≤◌, ◌<◌}
use native.Mathlib.Decide.{dec_lt}
use native.Mathlib.Nat.{zero-add, add_comm, add-zero}
use native.Mathlib.Numerals.{add-one}
use native.Mathlib.Omega.{arith}
use lib.Dec.{eqb}
use lib.ListN.{length, get_or, get_or-eq_default}
use Rattle.lists.specs.Choice.{when}
use Rattle.lists.specs.Counting.{count_from}
use Rattle.lists.specs.Padded.{zeros}
use Rattle.lists.specs.Rows.{from}
use Rattle.lists.proofs.Count.{count_below, count_not}
use Rattle.lists.proofs.Fill.{from_zeros}
use Rattle.lists.proofs.Rows.{length_from, get_or_from, from_ext}
use Rattle.correct_listed.specs.Inner.Lanes.{unlike_added}

module _ (r : ℕ) (wrong : ℕ → ℕ → Bool) where
  -- the count of place i
  abbrev up_to : ℕ → ℕ → ℕ
  up_to t i = count_from t 0 (wrong i)

  abbrev pub counts_to : ℕ → List ℕ
  counts_to t = from (up_to t) 0 r

  pub counts_long : (t : ℕ) → length (counts_to t) ≡ r
  counts_long t = length_from (up_to t) 0 r

  count_at : (t i : ℕ) → i < r → get_or (counts_to t) i 0 ≡ up_to t i
  count_at t i low = rw zero-add at (get_or_from (up_to t) 0 r i 0 low)

  pub counts_none : counts_to 0 ≡ zeros r
  unfolding count_from
  counts_none = from_zeros (up_to 0) 0 r (λ i a b. refl)

  -- no count is above t
  few : (t i : ℕ) → up_to t i ≤ t
  few t i = omega (arith, count_not t 0 (wrong i))

  pub counts_few : (t i : ℕ) → get_or (counts_to t) i 0 ≤ t
  counts_few t i = by_cases (dec_lt i r) (λ low. rw (count_at t i low) (few t i)) (λ high. rw (get_or-eq_default (counts_to t) 0 {n = i} (omega (arith, counts_long t))) (omega arith))

  -- one lane more
  more : (t i : ℕ) → up_to (t + 1) i ≡ up_to t i + when (wrong i t) 1
  more t i = ap (λ (n : ℕ). count_from n 0 (wrong i)) (add-one t) ∙ count_below t (wrong i) ∙ add_comm (when (wrong i t) 1) (up_to t i)

  -- xs and ys differ at the places that are wrong in lane t
  pub counts_added : (t : ℕ) (xs ys : List ℕ) → ((i : ℕ) → i < r → not (eqb (get_or xs i 0) (get_or ys i 0)) ≡ wrong i t) → unlike_added xs ys (counts_to t) ≡ counts_to (t + 1)
  counts_added t xs ys same =
      ap (λ (n : ℕ). from (λ i. get_or (counts_to t) i 0 + when (not (eqb (get_or xs i 0) (get_or ys i 0))) 1) 0 n) (counts_long t)
      ∙ from_ext _ (up_to (t + 1)) 0 r
      (λ i low high.
      let in_list : i < r = omega arith in
      ap₂ (λ (c : ℕ) (b : Bool). c + when b 1) (count_at t i in_list) (same i in_list) ∙ sym (more t i))

  -- none is wrong there
  pub counts_stay : (t : ℕ) → ((i : ℕ) → i < r → wrong i t ≡ false) → counts_to t ≡ counts_to (t + 1)
  counts_stay t none =
      from_ext (up_to t) (up_to (t + 1)) 0 r
      (λ i low high. sym (more t i ∙ ap (λ (b : Bool). up_to t i + when b 1) (none i (omega arith)) ∙ add-zero (up_to t i)))
