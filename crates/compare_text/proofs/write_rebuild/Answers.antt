-- `write_rebuild` meets its contract: the parts of the line and its line feed, or nothing.
use borrow.Author.Tests.{lt-ltb, le-ltb}
use Rattle.text.proofs.Written.{writes_none, writes_then}
use Rattle.compare_text.specs.Comparison.{rebuild_line}
use Rattle.compare_text.proofs.write_rebuild.Goals as goal

pub returns-then-code : goal.returns-then-code
unfolding rebuild_line
returns-then-code c =
    let h = c.args.code.header in
    rw (lt-ltb h.k h.n c.if-code.true)
    (writes_then c.write_whole.ensures.text (writes_then c.write_traces.ensures.text (writes_then c.write_least.ensures.text c.byte.ensures)))

pub returns-else-code : goal.returns-else-code
unfolding rebuild_line
returns-else-code c = let h = c.args.code.header in rw (le-ltb h.k h.n c.if-code.false) (writes_none c.args.writer.now)
