-- Promises over a record as it is read.
use Rattle.std.specs.Prelude.{List, ℕ}
use Rattle.generator.specs.declared.Header.{Header}
use Rattle.generator.specs.Records.{header_of}
use Rattle.refusals.specs.Faults.{fault_of}

-- P speaks of a header and of the number that turns a call away, or 0: here of the record's header, and of its number, or where it has none, the call's
pub record OnRecord (rec : List ℕ) (call : Header → ℕ) (P : Header → ℕ → Type 0) : Type 0 where
  pub promise : P (header_of rec) (fault_of rec call)
