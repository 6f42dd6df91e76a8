-- `gather_short` meets its contract: the scratch begins with the lanes.
use Rattle.std.proofs.Common.{arith}
use lib.ListN.{get_or-append}
use Rattle.tiles.proofs.Blocks.{turned_in}
use Rattle.tiles.proofs.gathering.gather_short.Goals as goal

pub returns : goal.returns
returns c =
    let a = c.args.lanes in (
      c.turn_all.ensures.long,
      turned_in a.rows a.count 16 _ a.bytes.now _ _ (omega arith) c.requires.2
          (λ p low. rw c.copy_from_slice.ensures.after (get_or-append a.bytes.now _ 0 p (omega (arith, a.whole))))
          c.turn_all.ensures,
    )
