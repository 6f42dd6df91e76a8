-- `gather` meets its contract, by one way or another.
use Rattle.std.proofs.Common.{refl, arith}
use Rattle.tiles.proofs.Blocks.{turned_in}
use Rattle.tiles.proofs.gathering.gather.Goals as goal

pub returns : goal.returns
returns c =
    let a = c.args.lanes in
    let made = c.turn_all.ensures in
    (made.long, turned_in a.rows a.count a.rows a.bytes.now a.bytes.now _ _ (omega arith) c.requires.0 (λ p h. refl) made)
