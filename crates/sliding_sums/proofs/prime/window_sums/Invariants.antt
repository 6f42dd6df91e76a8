-- `window_sums` meets its contract. The loop's invariant: the places below t have their sum.
use lib.ListN.{length, drop}
use Rattle.lists.proofs.Parts.{Valued}
use Rattle.field.specs.Inner.Sums.{dot}
use Rattle.sliding_sums.proofs.prime.window_sums.Given as goal

abbrev pub invariant-loop-t : goal.invariant-loop-t
invariant-loop-t l =
    Valued (λ t. dot l.p l.weights (drop t l.row)) (length l.initial.sums) l.initial.sums l.sums l.t
