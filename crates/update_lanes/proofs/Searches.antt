-- Searches through a stretch of numbers: the first of some numbers that is not 0, and whether one passes a test.
use mathlib.Core.Path.{◌≡◌, refl, sym, ap, ◌∙◌}
use mathlib.Core.Bool.{Bool, true, false, ◌||◌, true≢false}
use mathlib.Core.Logic.{by_cases}
use Prim.Native.Nat.{ℕ, zero, suc, ◌+◌, ◌-◌, ◌≤◌, ◌<◌}
use native.Mathlib.Decide.{ℕ_discrete}
use native.Mathlib.Omega.{arith}
use Rattle.lists.specs.Choice.{first_of}
use Rattle.lists.proofs.Cases.{by_test, first_zero}
use Rattle.lists.proofs.Rows.{sub_next}
use native.Mathlib.Nat.{sub-eq-zero_of_le}
use Rattle.refusals.proofs.Order.{first_given}
use Rattle.update_lanes.specs.Runs.{first_number, any_from}

module _ (p : ℕ → ℕ) where
  -- one step with what is left of m at i ..
  pub number_next : (m i : ℕ) → i < m → first_number (m - i) i p ≡ first_of (p i) (first_number (m - (i + 1)) (i + 1) p)
  unfolding first_number
  number_next m i h = ap (λ (f : ℕ). first_number f i p) (sub_next m i h)

  -- .. past a number that is 0, and at one that is not
  pub number_passed : (m i : ℕ) → i < m → p i ≡ 0 → first_number (m - i) i p ≡ first_number (m - (i + 1)) (i + 1) p
  number_passed m i h none = number_next m i h ∙ ap (λ (a : ℕ). first_of a (first_number (m - (i + 1)) (i + 1) p)) none

  pub number_met : (m i : ℕ) → i < m → (p i ≡ 0 → ⊥) → first_number (m - i) i p ≡ p i
  number_met m i h some = number_next m i h ∙ first_given (p i) _ some

  pub number_end : (m i : ℕ) → m ≤ i → first_number (m - i) i p ≡ 0
  unfolding first_number
  number_end m i h = ap (λ (f : ℕ). first_number f i p) (sub-eq-zero_of_le h)

  -- where it is 0 all of them are
  pub none_given : (f i : ℕ) → first_number f i p ≡ 0 → (j : ℕ) → i ≤ j → j < i + f → p j ≡ 0
  unfolding first_number
  none_given zero i e j low high = absurd (omega arith)
  none_given (suc f) i e j low high =
      let (here, rest) = first_zero (p i) _ e in
      by_cases (ℕ_discrete j i) (λ same. ap p same ∙ here) (λ other. none_given f (i + 1) rest j (omega arith) (omega arith))

  -- else it is that of the first that is not
  pub first_met : (f i : ℕ) → (first_number f i p ≡ 0 → ⊥) → (j : ℕ) × (i ≤ j) × (j < i + f) × ((x : ℕ) → i ≤ x → x < j → p x ≡ 0) × (first_number f i p ≡ p j)
  unfolding first_number
  first_met zero i some = absurd (some refl)
  first_met (suc f) i some =
      by_cases (ℕ_discrete (p i) 0)
      (λ none.
      let same : first_of (p i) (first_number f (i + 1) p) ≡ first_number f (i + 1) p = ap (λ (a : ℕ). first_of a (first_number f (i + 1) p)) none in
      let (j, low, high, before, is) = first_met f (i + 1) (λ z. some (same ∙ z)) in
      (j, omega arith, omega arith, λ x above below. by_cases (ℕ_discrete x i) (λ e. ap p e ∙ none) (λ other. before x (omega arith) below), same ∙ is))
      (λ other. (i, omega arith, omega arith, λ x above below. absurd (omega arith), first_given (p i) _ other))

  -- and which that is, where those before it are 0
  pub first_reached : (f i j : ℕ) → i ≤ j → j < i + f → ((x : ℕ) → i ≤ x → x < j → p x ≡ 0) → (p j ≡ 0 → ⊥) → first_number f i p ≡ p j
  unfolding first_number
  first_reached zero i j low high before some = absurd (omega arith)
  first_reached (suc f) i j low high before some =
      by_cases (ℕ_discrete j i)
      (λ same. rw same (first_given (p i) _ (rw same at some)))
      (λ other.
      ap (λ (a : ℕ). first_of a (first_number f (i + 1) p)) (before i (omega arith) (omega arith))
      ∙ first_reached f (i + 1) j (omega arith) (omega arith) (λ x above below. before x (omega arith) below) some)

module _ (p : ℕ → Bool) where
  -- one step of a search for one that passes
  pub any_passed : (m i : ℕ) → i < m → p i ≡ false → any_from (m - i) i p ≡ any_from (m - (i + 1)) (i + 1) p
  unfolding any_from
  any_passed m i h none = ap (λ (f : ℕ). any_from f i p) (sub_next m i h) ∙ rw none

  pub any_met : (m i : ℕ) → i < m → p i ≡ true → any_from (m - i) i p ≡ true
  unfolding any_from
  any_met m i h some = ap (λ (f : ℕ). any_from f i p) (sub_next m i h) ∙ rw some

  pub any_end : (m i : ℕ) → m ≤ i → any_from (m - i) i p ≡ false
  unfolding any_from
  any_end m i h = ap (λ (f : ℕ). any_from f i p) (sub-eq-zero_of_le h)

  -- where none passes each fails, and where one passes there is one
  pub none_passes : (f i : ℕ) → any_from f i p ≡ false → (j : ℕ) → i ≤ j → j < i + f → p j ≡ false
  unfolding any_from
  none_passes zero i e j low high = absurd (omega arith)
  none_passes (suc f) i e j low high =
      by_test (p i)
      (λ t. absurd (true≢false (sym (ap (λ (b : Bool). b || any_from f (i + 1) p) t) ∙ e)))
      (λ t.
      let rest : any_from f (i + 1) p ≡ false = sym (ap (λ (b : Bool). b || any_from f (i + 1) p) t) ∙ e in
      by_cases (ℕ_discrete j i) (λ same. ap p same ∙ t) (λ other. none_passes f (i + 1) rest j (omega arith) (omega arith)))

  pub some_passes : (f i : ℕ) → any_from f i p ≡ true → (j : ℕ) × (i ≤ j) × (j < i + f) × (p j ≡ true)
  unfolding any_from
  some_passes zero i e = absurd (true≢false (sym e))
  some_passes (suc f) i e =
      by_test (p i)
      (λ t. (i, omega arith, omega arith, t))
      (λ t.
      let rest : any_from f (i + 1) p ≡ true = sym (ap (λ (b : Bool). b || any_from f (i + 1) p) t) ∙ e in
      let (j, low, high, is) = some_passes f (i + 1) rest in
      (j, omega arith, omega arith, is))

  pub passing_some : (f i : ℕ) (j : ℕ) → i ≤ j → j < i + f → p j ≡ true → any_from f i p ≡ true
  passing_some f i j low high t = by_test (any_from f i p) (λ e. e) (λ e. absurd (true≢false (sym t ∙ none_passes f i e j low high)))
