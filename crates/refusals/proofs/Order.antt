-- The first number that is met.
use mathlib.Core.Path.{◌≡◌, refl}
use Prim.Native.Nat.{ℕ, zero, suc}
use Rattle.lists.specs.Choice.{first_of}

-- a number that is met stays
pub first_given : (g a : ℕ) → (g ≡ 0 → ⊥) → first_of g a ≡ g
first_given zero a n = absurd (n refl)
first_given (suc g) a n = refl
