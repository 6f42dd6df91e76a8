-- `write_costs` meets its contract: four lines, one after the other.
use mathlib.Core.Path.{◌≡◌}
use Rattle.generator.specs.Records.{distance}
use Rattle.text.specs.Text.{ascii}
use Rattle.text.proofs.Written.{writes_then}
use Rattle.record_text.specs.Records.{costs_of}
use Rattle.record_text.proofs.write_costs.Goals as goal

pub returns : goal.returns
unfolding costs_of ascii distance
returns c =
    let writes : c.distance-writes.result ≡ distance c.args.code.header = rw (c.distance-writes.ensures, c.dimensions.ensures.0, c.dimensions.ensures.1) in
    rw (← writes, ← c.low_reads-low.ensures, ← c.high_reads-high.ensures, ← c.storage_of-symbols.ensures.0, ← c.storage_of-symbols.ensures.1)
    (writes_then c.line.ensures.text (writes_then c.line-2.ensures.text (writes_then c.line-3.ensures.text c.line-4.ensures.text)))
