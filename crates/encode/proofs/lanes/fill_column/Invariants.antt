-- `fill_column` meets its contract. The loop's invariant: the entries of the rows below r are written.
use Rattle.lists.proofs.Parts.{Valued}
use Rattle.generator.specs.Generator.{entry}
use Rattle.encode.proofs.lanes.fill_column.Given as goal

abbrev pub invariant-loop-r : goal.invariant-loop-r
invariant-loop-r l = let h = l.generator.codec.code.header in Valued (λ r. entry h r l.node) h.k l.initial.column l.column l.r
