-- `factors` meets its contract. Invariant: i is the place of the next node's factor, and the factors of the nodes before it are written.
use mathlib.Core.Path.{◌≡◌}
use mathlib.Core.List.{List}
use Prim.Native.Nat.{ℕ, ◌*◌, ◌%◌}
use lib.ListN.{get_or}
use Rattle.lists.proofs.Fill.{Filled}
use Rattle.check_sums.proofs.powers.RootPowers.factors.Given as goal

-- node j's factor, as it is read
abbrev pub read : List ℕ → ℕ → ℕ → ℕ → ℕ
read powers e n j = get_or powers (j * e % n) 0

abbrev pub invariant-loop-place : goal.invariant-loop-place
invariant-loop-place l = (l.i ≡ l.place-index * l.e % l.n) × Filled l.n l.n (read l.powers l.e l.n) l.place-index l.place-items
