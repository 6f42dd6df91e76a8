-- What is written beside a number g: nothing.
use mathlib.Core.Path.{◌≡◌}
use Prim.Native.Nat.{ℕ}
use borrow.Author.Tests.{ne_eqb}
use lib.Dec.{eqb}
use Rattle.lists.specs.Choice.{pick}

-- the second of two values
pub refused_value : {A : Type 0} (g : ℕ) (a b : A) → (g ≡ 0 → ⊥) → pick (eqb g 0) a b ≡ b
refused_value g a b n = rw (ne_eqb g 0 n)
