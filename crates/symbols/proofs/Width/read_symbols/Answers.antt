-- `read_symbols` meets its contract. The loop's invariant: the symbols below i are read.
use Rattle.lists.specs.Padded.{zeros}
use Rattle.lists.proofs.Fill.{filled_start, filled_put, filled_end}
use Rattle.layout.specs.Width.{symbols_of}
use Rattle.symbols.proofs.Sizes.{few_symbols}
use Rattle.symbols.proofs.Width.read_symbols.Goals as goal

pub loop-i-init : goal.loop-i-init
unfolding zeros
loop-i-init c = filled_start 255 _ _ (few_symbols _ _ c.args.self.some c.requires)

pub loop-i-preserved : goal.loop-i-preserved
loop-i-preserved c = filled_put c.loop-i.invariant c.loop-i-test.true c.symbol_at.ensures

pub returns : goal.returns
unfolding symbols_of
returns c = filled_end c.loop-i.invariant c.loop-i-test.false
