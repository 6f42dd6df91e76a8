-- Rosters: the present nodes, events, the query and the jobs.
use Rattle.std.specs.Prelude.{Ok, Err}
use Rattle.generator.specs.Answers.{Answer, answer_of}
use Rattle.generator.specs.declared.Header.{Header}
use Rattle.std.specs.Prelude.{Bool, true, false, not, List, ℕ, zero, suc, ◌+◌, ◌*◌, ◌%◌, eqb, ltb, leb, length, get_or, set, take}
use Rattle.std.specs.Bool.{beq}
use Rattle.lists.specs.Choice.{pick, first_of, when}
use Rattle.lists.specs.Rows.{from}
use Rattle.lists.specs.Around.{around}
use Rattle.lists.specs.Counting.{passing_from}
use Rattle.roster.specs.declared.Roster.{Roster}
use Rattle.roster.specs.declared.Listing.{Listing}
use Rattle.roster.specs.declared.Listing.TheVariants.{Written, TooFew}
use Rattle.roster.specs.Events.{Event, named, says}

-- the roster after a start or an event, and the number that turned it away, or 0
pub record Step : Type 0 where
  pub roster : Roster
  pub number : ℕ

-- the roster after a job, and what became of the list
pub record Job : Type 0 where
  pub roster : Roster
  pub listing : Answer Listing

-- the marks at first: the nodes below n are present
unfoldable pub first_marks : ℕ → List Bool
first_marks n = from (λ j. ltb j n) 0 255

-- whether node j is marked as present
abbrev pub is_present : List Bool → ℕ → Bool
is_present marks j = get_or marks j false

-- the present nodes below n, rising: marks at n and above play no part
unfoldable pub present_of : ℕ → List Bool → List ℕ
present_of n marks = passing_from n 0 (is_present marks)

-- the roster at first, with the nodes below n present
unfoldable pub first_roster : ℕ → Roster
first_roster n = record { marks = first_marks n; job = 0 }

-- the roster of a record; beside a number no node is present
unfoldable pub start_of : Answer Header → Step
start_of (Err f) = record { roster = first_roster 0; number = f }
start_of (Ok h) = record { roster = first_roster h.n; number = 0 }

-- the number that an event meets, or 0: 9 for a node at n or above, 15 for one that already is what the event says
unfoldable pub event_fault : ℕ → ℕ → Bool → List Bool → ℕ
event_fault n node here marks = first_of (when (leb n node) 9) (when (beq (is_present marks node) here) 15)

-- the roster with a node marked and the jobs counted from 0 where the number is 0, else the roster as it was
unfoldable pub marked : ℕ → ℕ → Bool → Roster → Step
marked zero node here roster = record { roster = record { marks = set roster.marks node here; job = 0 }; number = 0 }
marked (suc f) node here roster = record { roster = roster; number = suc f }

unfoldable pub step_with : ℕ → ℕ → Bool → Roster → Step
step_with n node here roster = marked (event_fault n node here roster.marks) node here roster

-- the same for a record
unfoldable pub step_by : Answer Header → ℕ → Bool → Roster → Step
step_by (Err f) node here roster = record { roster = roster; number = f }
step_by (Ok h) node here roster = step_with h.n node here roster

-- an event
abbrev pub step_of : Answer Header → Event → Roster → Step
step_of code ev roster = step_by code (named ev) (says ev) roster

unfoldable pub wrote : Answer Listing → Bool
wrote (Ok Written) = true
wrote (Ok TooFew) = false
wrote (Err f) = false

-- what becomes of a list of so many bytes where so many nodes are present: number 8 for another length than k, too few for fewer than k
unfoldable pub listing : ℕ → ℕ → ℕ → Answer Listing
listing k present long = answer_of (when (not (eqb long k)) 8) (pick (leb k present) Written TooFew)

-- the list afterwards: the nodes where they are written, else the list as it was
unfoldable pub listed : Answer Listing → List ℕ → List ℕ → List ℕ
listed (Ok Written) nodes list = nodes
listed (Ok TooFew) nodes list = list
listed (Err f) nodes list = list

-- the k lowest present nodes
unfoldable pub lowest_nodes : ℕ → ℕ → List Bool → List ℕ
lowest_nodes n k marks = take k (present_of n marks)

-- what the query answers, and the list afterwards
unfoldable pub lowest_of : Answer Header → Roster → List ℕ → Answer Listing
lowest_of (Err f) roster list = Err f
lowest_of (Ok h) roster list = listing h.k (length (present_of h.n roster.marks)) (length list)

unfoldable pub lowest_list : Answer Header → Roster → List ℕ → List ℕ
lowest_list (Err f) roster list = list
lowest_list (Ok h) roster list = listed (lowest_of (Ok h) roster list) (lowest_nodes h.n h.k roster.marks) list

-- the nodes that job i reads: the present nodes at places i·k + t, going round, for t from 0 to k − 1
unfoldable pub nodes_at : List ℕ → ℕ → ℕ → List ℕ
nodes_at present k i = from (around present) (i * k) k

-- the job number is held modulo the number of present nodes
unfoldable pub job_nodes : ℕ → ℕ → Roster → List ℕ
job_nodes n k roster = nodes_at (present_of n roster.marks) k (roster.job % length (present_of n roster.marks))

-- a job that writes moves the job number on by one
unfoldable pub moved_on : ℕ → Roster → Roster
moved_on n roster = record { marks = roster.marks; job = (roster.job + 1) % length (present_of n roster.marks) }

-- the roster after a job
unfoldable pub after : Answer Listing → ℕ → Roster → Roster
after (Ok Written) n roster = moved_on n roster
after (Ok TooFew) n roster = roster
after (Err f) n roster = roster

-- what a job answers, which is what the query would, with the roster after it; and the list afterwards
unfoldable pub job_of : Answer Header → Roster → List ℕ → Job
job_of (Err f) roster list = record { roster = roster; listing = Err f }
job_of (Ok h) roster list = record { roster = after (lowest_of (Ok h) roster list) h.n roster; listing = lowest_of (Ok h) roster list }

unfoldable pub job_list : Answer Header → Roster → List ℕ → List ℕ
job_list (Err f) roster list = list
job_list (Ok h) roster list = listed (lowest_of (Ok h) roster list) (job_nodes h.n h.k roster) list
