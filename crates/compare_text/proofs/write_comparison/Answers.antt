-- `write_comparison` meets its contract: the lines, one after the other.
use mathlib.Core.Path.{◌≡◌}
use Rattle.generator.specs.Records.{distance}
use Rattle.text.specs.Text.{ascii}
use Rattle.text.proofs.Written.{writes_then}
use Rattle.compare_text.specs.Comparison.{plain_line, balanced_line, bound_line, comparison_for}
use Rattle.compare_text.proofs.write_comparison.Goals as goal

pub returns : goal.returns
unfolding comparison_for plain_line balanced_line bound_line ascii distance
returns c =
    let writes : c.distance-writes.result ≡ distance c.args.code.header = rw (c.distance-writes.ensures, c.dimensions.ensures.0, c.dimensions.ensures.1) in
    rw (← writes, ← c.low_reads.ensures, ← c.high_reads-high.ensures, ← c.plain_greatest.ensures)
    (writes_then c.line.ensures.text (writes_then c.write_cost.ensures.text (writes_then c.write_cost-2.ensures.text (writes_then c.write_cost-3.ensures.text c.write_rebuild.ensures))))
