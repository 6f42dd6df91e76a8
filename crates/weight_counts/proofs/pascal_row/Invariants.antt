-- `pascal_row` meets its contract. Invariant: the row is row a.
use Rattle.std.proofs.Common.{◌≡◌}
use Rattle.weight_counts.specs.Inner.Counting.{binomials}
use Rattle.weight_counts.proofs.pascal_row.Given as goal

abbrev pub invariant-loop : goal.invariant-loop
invariant-loop l = l.row ≡ binomials l.counter
