-- Sums of products with a list that is filled up with zeros.
use mathlib.Core.Path.{◌≡◌, refl, ap}
use mathlib.Core.List.{List, [], ◌∷◌, ◌++◌}
use Prim.Native.Nat.{ℕ, ◌-◌}
use native.Mathlib.Omega.{arith}
use lib.ListN.{length}
use Rattle.lists.specs.Padded.{zeros, padded}
use Rattle.field.specs.Fields.{add, mul}
use Rattle.field.specs.Inner.Sums.{dot}

-- what comes after the shorter list plays no part
dot_front : (p : ℕ) (ys ws rest : List ℕ) → length ys ≡ length ws → dot p ys (ws ++ rest) ≡ dot p ys ws
unfolding dot
dot_front p [] ws rest e = refl
dot_front p (y ∷ ys) [] rest e = absurd (omega arith)
dot_front p (y ∷ ys) (w ∷ ws) rest e = ap (add p (mul p y w)) (dot_front p ys ws rest (omega arith))

pub dot_padded : (p n : ℕ) (ys ws : List ℕ) → length ys ≡ length ws → dot p ys (padded n ws) ≡ dot p ys ws
unfolding padded
dot_padded p n ys ws e = dot_front p ys ws (zeros (n - length ws)) e
