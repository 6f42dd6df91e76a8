-- `widen` meets its contract. The loop's invariant: the symbols below i are copied.
use mathlib.Core.Path.{refl}
use native.Mathlib.Omega.{arith}
use Rattle.lists.proofs.Parts.{valued_all}
use Rattle.sliding_sums.proofs.Valued.{valued_next}
use Rattle.sliding_sums.proofs.bytes.widen.Goals as goal

pub loop-i-preserved : goal.loop-i-preserved
loop-i-preserved c = valued_next _ _ c.loop-i.invariant (omega arith) (omega arith) refl

pub returns : goal.returns
returns c = valued_all _ _ c.loop-i.invariant (omega arith) (omega arith)
