-- `fields` meets its contract. Invariant: the fields before x are written; the others and the line feed are to come.
use mathlib.Core.Path.{sym, ap, ◌∙◌}
use mathlib.Core.List.{◌∷◌}
use Prim.Native.Nat.{◌+◌}
use native.Mathlib.Omega.{arith}
use lib.ListN.{drop, drop_of_length-le}
use Rattle.lists.proofs.Front.{drop_next}
use Rattle.text.specs.Text.{fields}
use Rattle.text.proofs.Written.{writing_start, writing_next, writing_done}
use Rattle.text.proofs.Writer.fields.Goals as goal

pub loop-x-init : goal.loop-x-init
loop-x-init g c = record { text = writing_start _ _; room = omega arith }

pub loop-x-preserved : goal.loop-x-preserved
unfolding fields
loop-x-preserved g c =
    let l = c.loop-x in
    let x = c.x-item in
    let next = drop_next c.args.xs.now l.x-index x.result c.loop-x-test.true ∙ ap (λ y. y ∷ drop (l.x-index + 1) c.args.xs.now) (sym x.is) in
    record { text = writing_next (rw next at l.invariant.text) c.field.ensures.text; room = omega arith }

pub returns-clause-text : goal.returns-clause-text
unfolding fields
returns-clause-text g c =
    writing_done (writing_next (rw (drop_of_length-le c.args.xs.now c.loop-x-test.false) at c.loop-x.invariant.text) c.byte.ensures)
