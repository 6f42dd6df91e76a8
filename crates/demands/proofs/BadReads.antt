-- What one bad read does: gathered.
use Rattle.demands.proofs.Changes.{record_reaches}
use Rattle.demands.proofs.Rebuilding.{bad_read}
use Rattle.demands.specs.BadReads.{BadReads}

pub bad_reads : BadReads
bad_reads = record { accepted = record_reaches; rebuild = bad_read }
