use Rattle.tiles.specs.Inner.Squares.{placed, shuffled}
use Rattle.lists.proofs.Parts.{valued_all}
use Rattle.tiles.proofs.Shuffles.{shuffle_turn}
use Rattle.std.proofs.Common.{arith}
use Rattle.tiles.proofs.squares.shuffle.Goals as goal

pub loop-i-preserved : goal.loop-i-preserved
loop-i-preserved c = shuffle_turn c.args.x.now c.loop-i.invariant (omega arith) c.loop-i-test.true

pub returns : goal.returns
unfolding shuffled placed
returns c = valued_all _ 256 c.loop-i.invariant (omega arith) (omega arith)
