-- `sums_from` meets its contract. Invariant: the first e sums are written.
use lib.ListN.{drop}
use Rattle.lists.proofs.Fill.{Filled}
use Rattle.field.specs.Inner.Sums.{dot}
use Rattle.field.specs.Kinds.{modulus}
use Rattle.decode_listed.proofs.erased.sums_from.Given as goal

abbrev pub invariant-loop-e : goal.invariant-loop-e
invariant-loop-e l = Filled 255 l.count (λ i. dot (modulus l.field.field) l.weights (drop i l.symbols)) l.e l.out
