-- Rosters, sentence by sentence. The contracts of the methods say that each computes the definitions named here.
use Rattle.std.specs.Prelude.{◌≡◌, List, ℕ}
use Rattle.generator.specs.Records.{header_of, record_fault, record_of}
use Rattle.roster.specs.Claims.{RosterSays, RosterPromised}
use Rattle.roster_bytes.specs.Histories.{BytesSay}

pub record Rosters : Type 0 where
  -- the rosters of an accepted record: the history of events, one event, the query, one job, runs of jobs
  pub accepted : (rec : List ℕ) → record_fault rec ≡ 0 → RosterSays (header_of rec)
  -- the rosters of every record, accepted or not
  pub promised : (rec : List ℕ) → RosterPromised (record_of rec)
  -- the same of the 256 bytes that a caller lends: histories, the query, runs of jobs
  pub bytes : (rec : List ℕ) → record_fault rec ≡ 0 → BytesSay rec
