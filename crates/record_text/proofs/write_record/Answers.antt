-- `write_record` meets its contract: the line of the record, and what it costs.
use mathlib.Core.List.{append-nil}
use Prim.Native.Nat.{ℕ}
use Rattle.std.proofs.lemmas.List.{map-id}
use Rattle.text.specs.Text.{ascii}
use Rattle.text.proofs.Written.{writes_then}
use Rattle.record_text.specs.Records.{costs_for, record_for}
use Rattle.record_text.proofs.write_record.Goals as goal

pub returns-in-Ok : goal.returns-in-Ok
unfolding record_for costs_for ascii
returns-in-Ok c = rw (← c.in-Ok.ensures) (writes_then (rw (map-id {A = ℕ} c.args.rec.now) at c.line.ensures.text) c.write_costs.ensures)

pub returns-in_default : goal.returns-in_default
unfolding record_for costs_for ascii
returns-in_default c = rw (← c.in_default.ensures, append-nil _) (rw (map-id {A = ℕ} c.args.rec.now) at c.line.ensures.text)
