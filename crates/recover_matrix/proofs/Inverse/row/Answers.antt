-- `row` meets its contract. The loop's invariant: the entries below i are written.
use mathlib.Core.Path.{ap, ap₂, ◌∙◌}
use Rattle.lists.specs.Padded.{padded}
use Rattle.lists.proofs.Fill.{filled_put, filled_end}
use Rattle.field.specs.Fields.{mul}
use Rattle.generator.specs.Records.{modulus_of}
use Rattle.recover_matrix.proofs.Rows.{column_row}
use Rattle.recover_matrix.proofs.Prepared.{few, own_scale, row_scale, sum_is}
use Rattle.recover_matrix.proofs.Inverse.row.Goals as goal

pub loop-i-preserved : goal.loop-i-preserved
loop-i-preserved c =
    let v = c.args.self in
    let s = v.codec.code.sound in
    let low = c.loop-i-test.true in
    let row = c.requires.0 in
    let m = mul (modulus_of v.codec.code.header) in
    let own = rw v.codec.same at c.mul-own.ensures.is in
    let last = rw v.codec.same at c.mul.ensures.is in
    let scales = ap₂ m (row_scale s _ v.different v.prepared _ row) (own_scale s _ v.different v.prepared _ low) in
    let sum = c.symbol_at-sum.ensures ∙ sum_is s _ v.different _ c.width_of-w.ensures c.requires.1 _ _ low row in
    filled_put c.loop-i.invariant low (last ∙ ap₂ m (own ∙ scales) sum)

pub returns : goal.returns
returns c =
    let v = c.args.self in
    let s = v.codec.code.sound in
    filled_end c.loop-i.invariant c.loop-i-test.false ∙ ap (padded 255) (column_row v.codec.code.header s (few s) v.nodes.now v.different c.args.r c.requires.0)
