-- `round_points` meets its contract: each point is a power of the root, whose exponent counts modulo n.
use mathlib.Core.List.{List}
use Prim.Native.Nat.{ℕ, ◌+◌, ◌-◌, ◌*◌, ◌%◌}
use lib.ListN.{get_or}
use Rattle.lists.proofs.Fill.{Filled}
use Rattle.lane_message.proofs.rows.GeneratorRows.round_points.Given as goal

-- a point, as it is read
abbrev pub read : List ℕ → ℕ → ℕ → ℕ → ℕ → ℕ
read powers n k g j = get_or powers ((j + (k - 1)) * g % n) 0

abbrev pub invariant-loop-j : goal.invariant-loop-j
invariant-loop-j l =
    Filled 255 l.count (read l.powers l.n l.k l.g) l.j l.out
