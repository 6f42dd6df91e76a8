-- Cases on a test, and the parts of a test that is put together from others.
use mathlib.Core.Path.{◌≡◌, refl, sym}
use mathlib.Core.Bool.{Bool, true, false, ◌&&◌, ◌||◌, not, true≢false}
use Prim.Native.Nat.{ℕ, zero, suc}
use native.Mathlib.Omega.{arith}
use Rattle.lists.specs.Choice.{first_of, when}

-- by cases on a test
pub by_test {ℓ} : {A : Type ℓ} (b : Bool) → (b ≡ true → A) → (b ≡ false → A) → A
by_test true yes_case no_case = yes_case refl
by_test false yes_case no_case = no_case refl

-- where not both hold, the conjunction fails
pub not_both : {a b : Bool} → (a ≡ true → b ≡ true → ⊥) → (a && b) ≡ false
not_both {a = true} {b = true} h = absurd (h refl refl)
not_both {a = true} {b = false} h = refl
not_both {a = false} h = refl

-- the parts of a first number that is 0
pub first_zero : (a b : ℕ) → first_of a b ≡ 0 → (a ≡ 0) × (b ≡ 0)
first_zero zero b e = (refl, e)
first_zero (suc a) b e = absurd (omega arith)

-- a number that is not given: its condition fails
pub when_zero : (t : Bool) (n : ℕ) → when t (suc n) ≡ 0 → t ≡ false
when_zero true n e = absurd (omega arith)
when_zero false n e = refl

-- two tests that follow from each other are one
pub same_test : (a b : Bool) → (a ≡ true → b ≡ true) → (b ≡ true → a ≡ true) → a ≡ b
same_test true b f g = sym (f refl)
same_test false true f g = g refl
same_test false false f g = refl

-- two cases of an enum are never equal
pub never : {A : Type 0} → ◌≡◌ {A = ℕ} 0 1 → A
never z = absurd (omega arith)
