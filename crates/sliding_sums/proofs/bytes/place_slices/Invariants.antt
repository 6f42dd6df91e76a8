-- `place_slices` meets its contract. The loop's invariant: the slices before the index are moved.
use Rattle.kernel.proofs.Filling.{Changed}
use Rattle.sliding_sums.specs.Inner.Tables.{place_of}
use Rattle.sliding_sums.proofs.bytes.place_slices.Given as goal

abbrev pub invariant-loop-slice : goal.invariant-loop-slice
invariant-loop-slice l = Changed (λ t o. place_of o) l.initial.list l.list l.slice-index
