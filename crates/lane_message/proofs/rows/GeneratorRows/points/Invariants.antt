-- `points` meets its contract: each point is a power of the root, whose exponent counts modulo n.
use mathlib.Core.List.{List}
use Prim.Native.Nat.{ℕ, ◌+◌, ◌-◌, ◌%◌}
use lib.ListN.{length, get_or}
use Rattle.lists.proofs.Fill.{Filled}
use Rattle.lane_message.proofs.rows.GeneratorRows.points.Given as goal

-- a point, as it is read
abbrev pub read : List ℕ → List ℕ → ℕ → ℕ → ℕ → ℕ
read powers shifts n k r = get_or powers ((get_or shifts r 0 + (k - 1)) % n) 0

abbrev pub invariant-loop-r : goal.invariant-loop-r
invariant-loop-r l = Filled 255 (length l.shift-items) (read l.powers l.shift-items l.n l.k) l.r l.out
