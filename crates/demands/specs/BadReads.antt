-- What one bad read does, and how far a change of several symbols reaches.
use Rattle.std.specs.Prelude.{◌≡◌, List, ℕ}
use Rattle.generator.specs.Records.{header_of, record_fault}
use Rattle.demands.specs.Changes.{Reaches}
use Rattle.demands.specs.Rebuilding.{BadRead}

pub record BadReads : Type 0 where
  -- of every accepted record
  pub accepted : (rec : List ℕ) → record_fault rec ≡ 0 → Reaches (header_of rec)
  -- of two calls of Rebuild that are done, whose shares differ in one symbol
  pub rebuild : BadRead
