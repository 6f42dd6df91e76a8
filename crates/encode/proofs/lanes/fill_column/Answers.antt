-- `fill_column` meets its contract. The loop's invariant: the entries of the rows below r are written.
use Prim.Native.Nat.{◌<◌}
use native.Mathlib.Omega.{arith}
use Rattle.lists.proofs.Fill.{fills_put}
use Rattle.lists.proofs.Parts.{valued_all}
use Rattle.lists.proofs.Rows.{from_next}
use Rattle.encode.specs.Inner.Columns.{column_of}
use Rattle.encode.proofs.lanes.fill_column.Goals as goal

pub loop-r-preserved : goal.loop-r-preserved
loop-r-preserved c =
    let inv = c.loop-r.invariant in
    let low : c.loop-r.r < c.args.generator.now.codec.code.header.k = omega (arith, c.requires.1) in
    rw c.entry.ensures (fills_put (rw (from_next _ _ _ low) at inv) (omega (arith, inv.long)))

pub returns : goal.returns
unfolding column_of
returns c = valued_all _ _ c.loop-r.invariant (omega arith) (omega (arith, c.requires.1))
