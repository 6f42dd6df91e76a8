-- `placed` meets its contract. The loop's invariant: with the symbols from r on placed, the array is what it should be.
use mathlib.Core.Path.{◌≡◌}
use lib.ListN.{length, drop}
use Rattle.lists.specs.Padded.{zeros}
use Rattle.encode.specs.Inner.OneLane.{placed_from}
use Rattle.encode.proofs.one_lane.placed.Given as goal

abbrev pub invariant-loop-r : goal.invariant-loop-r
invariant-loop-r l =
    (length l.out ≡ 510)
    × (placed_from l.n l.r l.generator.shifts (drop l.r l.symbols) l.out ≡ placed_from l.n 0 l.generator.shifts l.symbols (zeros 510))
