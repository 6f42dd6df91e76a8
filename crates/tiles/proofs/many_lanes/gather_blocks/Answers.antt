-- `gather_blocks` meets its contract. The loop's invariant: the lanes of the blocks below b are gathered.
use Rattle.std.proofs.Common.{◌≡◌, refl, ◌∙◌, min, ◌+◌, ◌*◌, mul_comm, arith}
use Rattle.tiles.proofs.Beside.{gathered_none, gathered_more, gathered_all}
use Rattle.tiles.proofs.many_lanes.gather_blocks.Goals as goal

pub loop-b-init : goal.loop-b-init
loop-b-init c =
    let a = c.args.lanes in
    let none : min 0 a.count ≡ 0 = omega arith in
    (refl, refl, rw none (gathered_none a.rows a.count a.bytes.now (a.whole ∙ mul_comm a.count a.rows) _))

pub loop-b-preserved : goal.loop-b-preserved
loop-b-preserved c =
    let a = c.args.lanes in
    let l = c.loop-b in
    let count = c.min-count.result in
    let part = c.part.ensures in
    let g = rw (part.rows, part.count, part.bytes) at c.gather.ensures in
    let b = c.put_rows.ensures in
    let begun : min (l.b * 64) a.count ≡ l.b * 64 = omega arith in
    let next : min ((l.b + 1) * 64) a.count ≡ l.b * 64 + count = omega arith in
    (g.0 ∙ l.invariant.0, b.long ∙ l.invariant.1, rw next (gathered_more a.rows a.count a.bytes.now (a.whole ∙ mul_comm a.count a.rows) (l.b * 64) count _ _ _ (omega arith) g.1 b (rw begun at l.invariant.2)))

pub returns : goal.returns
returns c =
    let a = c.args.lanes in
    let l = c.loop-b in
    gathered_all a.rows a.count a.bytes.now (a.whole ∙ mul_comm a.count a.rows) (min (l.b * 64) a.count) _ (l.invariant.1 ∙ c.requires.1) (omega arith) l.invariant.2
