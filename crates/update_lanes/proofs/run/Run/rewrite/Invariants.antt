-- `rewrite` meets its contract: `RewritingRun` is the invariant.
use Rattle.update_lanes.proofs.Rewriting.{RewritingRun}
use Rattle.update_lanes.proofs.run.Run.rewrite.Given as goal

abbrev pub invariant-loop-i : goal.invariant-loop-i
invariant-loop-i l = RewritingRun l.generator.codec.code.header l.self.lanes l.self.which l.self.first l.self.old.now l.self.new.now l.initial.shares l.shares l.altered l.i
