-- `eraser` meets its contract. Invariant: the product so far, times that over the nodes that are left, is the whole.
use mathlib.Core.Path.{sym, ◌∙◌}
use Rattle.field.proofs.Bounds.{one_below}
use Rattle.lists.proofs.Numbers.{below_at}
use Rattle.repair_tables.proofs.Steps.{eraser_start, eraser_next, eraser_end}
use Rattle.repair_tables.proofs.nodes.Target.eraser.Goals as goal

pub loop-node-init : goal.loop-node-init
loop-node-init c = let sound = c.args.self.codec.code.sound in (one_below _ sound.field, eraser_start _ sound _ _ c.requires c.args.self.missing.now)

pub erasing-x-requires : goal.erasing-x-requires
erasing-x-requires c = (c.requires, below_at _ _ c.args.self.repairing.nodes _ c.loop-node-test.true)

pub loop-node-preserved : goal.loop-node-preserved
loop-node-preserved c =
    let t = c.args.self in
    let l = c.loop-node in (
      rw t.codec.same at c.mul-product.ensures.symbol,
      rw (c.mul-product.ensures.is, c.erasing-x.ensures.is, t.codec.same) (eraser_next _ t.codec.code.sound _ _ c.requires c.args.self.missing.now l.node-index _ c.loop-node-test.true l.invariant.0 ∙ l.invariant.1),
    )

pub returns : goal.returns
returns c =
    let l = c.loop-node in
    let end = eraser_end _ c.args.self.codec.code.sound _ _ c.requires c.args.self.missing.now l.node-index _ c.loop-node-test.false l.invariant.0 in
    record { is = sym end ∙ l.invariant.1; symbol = l.invariant.0 }
