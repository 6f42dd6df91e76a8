-- Runs: events and jobs one after the other on a roster, and the nodes that the jobs read.
use Rattle.generator.specs.Answers.{Answer}
use Rattle.generator.specs.declared.Header.{Header}
use Rattle.std.specs.Prelude.{◌≡◌, Bool, false, List, [], ◌∷◌, ◌++◌, ℕ, ◌+◌}
use Rattle.lists.specs.Choice.{pick, when}
use Rattle.roster.specs.declared.Roster.{Roster}
use Rattle.roster.specs.Events.{Event}
use Rattle.roster.specs.Rosters.{step_of, wrote, job_of, job_list}

-- a call that can change the roster: an event, or a job with the lent list
pub data Call : Type 0 where
  event : Event → Call
  job : List ℕ → Call

-- the events alone
unfoldable pub events_in : List Call → List Event
events_in [] = []
events_in (event ev ∷ calls) = ev ∷ events_in calls
events_in (job list ∷ calls) = events_in calls

-- the roster after a call
unfoldable pub next : Answer Header → Call → Roster → Roster
next code (event ev) roster = (step_of code ev roster).roster
next code (job list) roster = (job_of code roster list).roster

-- the roster after calls one after the other, accepted or refused
unfoldable pub after_calls : Answer Header → List Call → Roster → Roster
after_calls code [] roster = roster
after_calls code (call ∷ calls) roster = after_calls code calls (next code call roster)

-- whether a call is a job that writes
unfoldable pub is_read : Answer Header → Call → Roster → Bool
is_read code (event ev) roster = false
is_read code (job list) roster = wrote (job_of code roster list).listing

-- the nodes that a call reads: those that a job writes
unfoldable pub read_by : Answer Header → Call → Roster → List ℕ
read_by code (event ev) roster = []
read_by code (job list) roster = pick (is_read code (job list) roster) (job_list code roster list) []

-- the nodes that calls one after the other read
unfoldable pub reads_of : Answer Header → List Call → Roster → List ℕ
reads_of code [] roster = []
reads_of code (call ∷ calls) roster = read_by code call roster ++ reads_of code calls (next code call roster)

-- how many of the calls are jobs that write
unfoldable pub jobs_in : Answer Header → List Call → Roster → ℕ
jobs_in code [] roster = 0
jobs_in code (call ∷ calls) roster = when (is_read code call roster) 1 + jobs_in code calls (next code call roster)

-- no event among the calls is accepted
unfoldable pub Quiet : Answer Header → List Call → Roster → Type 0
Quiet code [] roster = Unit {0}
Quiet code (event ev ∷ calls) roster = ((step_of code ev roster).number ≡ 0 → ⊥) × Quiet code calls (next code (event ev) roster)
Quiet code (job list ∷ calls) roster = Quiet code calls (next code (job list) roster)
