-- A roster as 256 bytes: 255 marks, 0 for an absent node, then the job number.
use Rattle.std.specs.Prelude.{Bool, false, not, List, [], ◌∷◌, ◌++◌, ℕ, eqb, get_or}
use Rattle.lists.specs.Choice.{pick, first_of}
use Rattle.lists.specs.Rows.{from}
use Rattle.generator.specs.Records.{header_of, record_fault, record_of}
use Rattle.roster.specs.declared.Roster.{Roster}
use Rattle.roster.specs.Events.{Event, named, says}
use Rattle.roster.specs.Rosters.{event_fault, step_of}

-- the roster that bytes hold: a mark other than 0 counts as present
unfoldable pub marks_of : List ℕ → List Bool
marks_of bytes = from (λ j. not (eqb (get_or bytes j 0) 0)) 0 255

unfoldable pub roster_of : List ℕ → Roster
roster_of bytes = record { marks = marks_of bytes; job = get_or bytes 255 0 }

-- the bytes of a roster: marks are 0 or 1
unfoldable pub mark_bytes : List Bool → List ℕ
mark_bytes marks = from (λ j. pick (get_or marks j false) 1 0) 0 255

unfoldable pub roster_bytes : Roster → List ℕ
roster_bytes roster = mark_bytes roster.marks ++ (roster.job ∷ [])

-- the number that an event meets on the roster that bytes hold: the record's, then 9, then 15
unfoldable pub bytes_fault : List ℕ → Event → List ℕ → ℕ
bytes_fault rec ev bytes = first_of (record_fault rec) (event_fault (header_of rec).n (named ev) (says ev) (roster_of bytes).marks)

-- the bytes after an event: those of the next roster, or the same beside a number
unfoldable pub event_bytes : List ℕ → Event → List ℕ → List ℕ
event_bytes rec ev bytes = pick (eqb (bytes_fault rec ev bytes) 0) (roster_bytes (step_of (record_of rec) ev (roster_of bytes)).roster) bytes
