-- What a test says, in plain terms.
use mathlib.Core.Path.{◌≡◌, refl, sym}
use mathlib.Core.Logic.{◌↔◌, ◌≢◌, ◌⊎◌, inl, inr, ⊎_elim}
use mathlib.Core.Bool.{Bool, true, false, ◌||◌, not, true≢false}
use mathlib.Core.List.{List, [], ◌∷◌}
use Prim.Native.Nat.{ℕ, suc, ◌≤◌, ◌<◌}
use native.Mathlib.Omega.{arith}
use borrow.Author.Tests.{ltb-true, ltb-false, leb-true, eqb-true, lt-ltb, le-leb, eq-eqb, not-true}
use lib.Dec.{eqb, ltb, leb}
use Rattle.lists.specs.Numbers.{all_below, is_in, distinct}
use Rattle.lists.proofs.All.{Distinct-at}
use Rattle.lists.proofs.Cases.{by_test}
use Rattle.lists.proofs.Numbers.{below_at, is_in_place, distinct_all}
use Rattle.demands.specs.Numbers.{SomeFrom, SomeTwice}

-- comparisons
pub equal_test : (a b : ℕ) → (eqb a b ≡ true) ↔ (a ≡ b)
equal_test a b = (eqb-true a b, eq-eqb a b)

pub less_test : (a b : ℕ) → (ltb a b ≡ true) ↔ (a < b)
less_test a b = (ltb-true a b, lt-ltb a b)

pub most_test : (a b : ℕ) → (leb a b ≡ true) ↔ (a ≤ b)
most_test a b = (leb-true a b, le-leb a b)

-- tests that are put together
module _ {A : Type 0} where
  pub not_test : (a : Bool) → (a ≡ true) ↔ A → (not a ≡ true) ↔ (A → ⊥)
  not_test true f = (λ e. absurd (true≢false (sym e)), λ none. absurd (none (f.0 refl)))
  not_test false f = (λ e x. true≢false (sym (f.1 x)), λ none. refl)

  pub or_test : {B : Type 0} (a b : Bool) → (a ≡ true) ↔ A → (b ≡ true) ↔ B → ((a || b) ≡ true) ↔ (A ⊎ B)
  or_test true b f g = (λ e. inl (f.0 refl), λ e. refl)
  or_test false b f g = (λ e. inr (g.0 e), ⊎_elim (λ x. absurd (true≢false (sym (f.1 x)))) g.1)

pub other_test : (a b : ℕ) → (not (eqb a b) ≡ true) ↔ (a ≢ b)
other_test a b = not_test (eqb a b) (equal_test a b)

-- some number is m or more
found : (m : ℕ) (s : List ℕ) → all_below m s ≡ false → SomeFrom m s
unfolding all_below
found m [] e = absurd (true≢false e)
found m (x ∷ xs) e =
    by_test (ltb x m)
    (λ t. let (i, inside, is) = found m xs (rw t at e) in (suc i, omega arith, is))
    (λ t. (0, omega arith, ltb-false x m t))

pub some_from : (m : ℕ) (s : List ℕ) → (not (all_below m s) ≡ true) ↔ SomeFrom m s
some_from m s = (
  λ e. found m s (not-true _ e),
  λ e. let (i, inside, is) = e in by_test (all_below m s) (λ t. absurd (omega (arith, below_at m s t i inside))) (λ t. rw t),
)

-- some number stands twice
repeated : (s : List ℕ) → distinct s ≡ false → SomeTwice s
unfolding distinct
repeated [] e = absurd (true≢false e)
repeated (x ∷ xs) e =
    by_test (is_in x xs)
    (λ t. let (u, inside, is) = is_in_place x xs t in (0, suc u, omega arith, omega arith, sym is))
    (λ t. let (i, j, up, inside, is) = repeated xs (rw t at e) in (suc i, suc j, omega arith, omega arith, is))

pub some_twice : (s : List ℕ) → (not (distinct s) ≡ true) ↔ SomeTwice s
some_twice s = (
  λ e. repeated s (not-true _ e),
  λ e.
      let (i, j, up, inside, is) = e in
      by_test (distinct s) (λ t. absurd (omega (arith, Distinct-at 0 s (distinct_all s t) i j (omega arith) inside is))) (λ t. rw t),
)
