-- `rewrite` meets its contract: `RewritingBytes` is the invariant, and each way through a turn is one of its laws.
use Rattle.update.proofs.LaneBytes.{RewritingBytes}
use Rattle.update.proofs.rewrite.Given as goal

abbrev pub invariant-loop-j : goal.invariant-loop-j
invariant-loop-j l = RewritingBytes l.generator.codec.code.header l.w.bytes l.which l.x l.initial.lane l.lane l.count l.j
