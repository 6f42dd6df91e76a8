-- What holds of the rosters of every record.
use Rattle.std.specs.Prelude.{Ok, Err}
use Rattle.generator.specs.Answers.{Answer}
use Rattle.std.specs.Prelude.{◌≡◌, ◌↔◌, true, false, List, ◌∷◌, ◌++◌, ℕ, ◌+◌, ◌-◌, ◌*◌, ◌/◌, ◌%◌, ◌≤◌, ◌<◌, ltb, length, get_or, take}
use Rattle.lists.specs.Rows.{from}
use Rattle.lists.specs.Around.{around}
use Rattle.lists.specs.Counting.{occurrences}
use Rattle.lists.specs.Numbers.{is_in}
use Rattle.generator.specs.declared.Header.{Header}
use Rattle.generator.specs.Claims.{are_nodes}
use Rattle.roster.specs.declared.Roster.{Roster}
use Rattle.roster.specs.declared.Listing.TheVariants.{Written, TooFew}
use Rattle.roster.specs.Events.{Event, named, says}
use Rattle.roster.specs.Rosters.{is_present, present_of, start_of, step_of, listing, listed, lowest_of, lowest_list, job_of, job_list}
use Rattle.roster.specs.Histories.{after_events, last_says, present_by, NoneNames}
use Rattle.roster.specs.Runs.{Call, events_in, after_calls, reads_of, jobs_in, Quiet}

-- the roster after events from the start
abbrev pub reached : Header → List Event → Roster
reached h evs = after_events (Ok h) evs (start_of (Ok h)).roster

-- node j is among the n and marked as present
abbrev pub IsIn : Header → Roster → ℕ → Type 0
IsIn h roster j = (j < h.n) × (is_present roster.marks j ≡ true)

-- how many nodes are present
abbrev pub present_count : Header → Roster → ℕ
present_count h roster = length (present_of h.n roster.marks)

-- the roster is that of the history of events
pub record Kept (h : Header) : Type 0 where
  -- at first just the nodes below n are present, and the jobs are counted from 0
  pub start : (j : ℕ) → is_present (start_of (Ok h)).roster.marks j ≡ ltb j h.n
  pub start_job : (start_of (Ok h)).roster.job ≡ 0
  -- a node is present exactly if the last event that names it says so, or none names it
  pub node : (evs : List Event) (j : ℕ) → j < h.n → is_present (reached h evs).marks j ≡ last_says j evs true
  -- the query's answer and the list afterwards, worked out from the events alone
  pub answered : (evs : List Event) (list : List ℕ) → lowest_of (Ok h) (reached h evs) list ≡ listing h.k (length (present_by h.n evs)) (length list)
  pub written : (evs : List Event) (list : List ℕ) → lowest_list (Ok h) (reached h evs) list ≡ listed (listing h.k (length (present_by h.n evs)) (length list)) (take h.k (present_by h.n evs)) list
  -- what the last event says, in words
  pub last : (j : ℕ) (before : List Event) (ev : Event) (later : List Event) → named ev ≡ j → NoneNames j later → last_says j (before ++ (ev ∷ later)) true ≡ says ev
  pub none : (j : ℕ) (evs : List Event) → NoneNames j evs → last_says j evs true ≡ true
  -- jobs between the events play no part
  pub between : (calls : List Call) (roster : Roster) → (after_calls (Ok h) calls roster).marks ≡ (after_events (Ok h) (events_in calls) roster).marks
  -- after any events and jobs there are 255 marks, and those at n and above are absent
  pub many : (calls : List Call) → length (after_calls (Ok h) calls (start_of (Ok h)).roster).marks ≡ 255
  pub above : (calls : List Call) (j : ℕ) → h.n ≤ j → is_present (after_calls (Ok h) calls (start_of (Ok h)).roster).marks j ≡ false

-- one event, on any roster
pub record Stepping (h : Header) : Type 0 where
  -- a refused event leaves the roster equal
  pub refused : (roster : Roster) (ev : Event) → ((step_of (Ok h) ev roster).number ≡ 0 → ⊥) → (step_of (Ok h) ev roster).roster ≡ roster
  -- an accepted one names a node below n that was not what the event says, and the jobs are counted from 0
  pub accepted : (roster : Roster) (ev : Event) → (step_of (Ok h) ev roster).number ≡ 0 → ((step_of (Ok h) ev roster).roster.job ≡ 0) × (named ev < h.n) × (is_present roster.marks (named ev) ≡ says ev → ⊥)
  -- marks at n and above stay as they are
  pub above : (roster : Roster) (ev : Event) (j : ℕ) → h.n ≤ j → is_present (step_of (Ok h) ev roster).roster.marks j ≡ is_present roster.marks j

-- the query, on any roster
pub record Lowest (h : Header) : Type 0 where
  -- with a list of k bytes, too few exactly if fewer than k are present
  pub few : (roster : Roster) (list : List ℕ) → length list ≡ h.k → (lowest_of (Ok h) roster list ≡ Ok TooFew) ↔ (present_count h roster < h.k)
  -- what is written are k different nodes, which Recover and Rebuild take as a list of nodes, all present
  pub nodes : (roster : Roster) (list : List ℕ) → lowest_of (Ok h) roster list ≡ Ok Written → are_nodes h (lowest_list (Ok h) roster list) ≡ true
  pub here : (roster : Roster) (list : List ℕ) → lowest_of (Ok h) roster list ≡ Ok Written → (j : ℕ) → is_in j (lowest_list (Ok h) roster list) ≡ true → is_present roster.marks j ≡ true
  -- they rise, and every other present node is above them
  pub rises : (roster : Roster) (list : List ℕ) → lowest_of (Ok h) roster list ≡ Ok Written → (i i' : ℕ) → i < i' → i' < h.k → get_or (lowest_list (Ok h) roster list) i 0 < get_or (lowest_list (Ok h) roster list) i' 0
  pub least : (roster : Roster) (list : List ℕ) → lowest_of (Ok h) roster list ≡ Ok Written → (j j' : ℕ) → is_in j (lowest_list (Ok h) roster list) ≡ true → IsIn h roster j' → is_in j' (lowest_list (Ok h) roster list) ≡ false → j < j'
  -- marks at n and above play no part
  pub beyond : (roster roster' : Roster) (list : List ℕ) → ((j : ℕ) → j < h.n → is_present roster.marks j ≡ is_present roster'.marks j) → (lowest_of (Ok h) roster list ≡ lowest_of (Ok h) roster' list) × (lowest_list (Ok h) roster list ≡ lowest_list (Ok h) roster' list)

-- one job, on any roster with any job number
pub record Jobs (h : Header) : Type 0 where
  -- it answers as the query does
  pub answered : (roster : Roster) (list : List ℕ) → (job_of (Ok h) roster list).listing ≡ lowest_of (Ok h) roster list
  -- what is written are k different nodes, which Rebuild takes as a list of nodes, all present
  pub nodes : (roster : Roster) (list : List ℕ) → (job_of (Ok h) roster list).listing ≡ Ok Written → are_nodes h (job_list (Ok h) roster list) ≡ true
  pub here : (roster : Roster) (list : List ℕ) → (job_of (Ok h) roster list).listing ≡ Ok Written → (j : ℕ) → is_in j (job_list (Ok h) roster list) ≡ true → is_present roster.marks j ≡ true
  -- a job that writes nothing leaves roster and list equal
  pub idle : (roster : Roster) (list : List ℕ) → ((job_of (Ok h) roster list).listing ≡ Ok Written → ⊥) → ((job_of (Ok h) roster list).roster ≡ roster) × (job_list (Ok h) roster list ≡ list)
  -- a job leaves the marks
  pub marks : (roster : Roster) (list : List ℕ) → (job_of (Ok h) roster list).roster.marks ≡ roster.marks
  -- one that writes moves the job number on by one, modulo the number of present nodes
  pub moves : (roster : Roster) (list : List ℕ) → (job_of (Ok h) roster list).listing ≡ Ok Written → ((job_of (Ok h) roster list).roster.job ≡ (roster.job + 1) % present_count h roster) × ((job_of (Ok h) roster list).roster.job < present_count h roster)
  -- marks at n and above play no part, and the job number counts modulo the number of present nodes
  pub beyond : (roster roster' : Roster) (list : List ℕ) → ((j : ℕ) → j < h.n → is_present roster.marks j ≡ is_present roster'.marks j) → roster.job % present_count h roster ≡ roster'.job % present_count h roster → job_list (Ok h) roster list ≡ job_list (Ok h) roster' list

-- runs of jobs, whatever is refused between them, on any roster with any job number
pub record Turns (h : Header) : Type 0 where
  -- job after job, k places each, the present nodes are read in succession, going round
  pub reads : (roster : Roster) (calls : List Call) → Quiet (Ok h) calls roster → reads_of (Ok h) calls roster ≡ from (around (present_of h.n roster.marks)) (roster.job * h.k) (jobs_in (Ok h) calls roster * h.k)
  -- the marks stay
  pub stays : (roster : Roster) (calls : List Call) → Quiet (Ok h) calls roster → (after_calls (Ok h) calls roster).marks ≡ roster.marks
  -- no present node is read more than once oftener than another
  pub fair : (roster : Roster) (calls : List Call) → Quiet (Ok h) calls roster → (j j' : ℕ) → IsIn h roster j → IsIn h roster j' → occurrences j (reads_of (Ok h) calls roster) ≤ occurrences j' (reads_of (Ok h) calls roster) + 1
  -- with s present nodes in s / k jobs of the run, rounded up, wherever they begin in it, every present node is read
  pub waits : (roster : Roster) (before calls : List Call) → Quiet (Ok h) (before ++ calls) roster → (j : ℕ) → IsIn h roster j → (present_count h roster + h.k - 1) / h.k ≤ jobs_in (Ok h) calls (after_calls (Ok h) before roster) → 0 < occurrences j (reads_of (Ok h) calls (after_calls (Ok h) before roster))

-- the rosters of an accepted record
pub record RosterSays (h : Header) : Type 0 where
  pub kept : Kept h
  pub stepping : Stepping h
  pub lowest : Lowest h
  pub jobs : Jobs h
  pub turns : Turns h

-- beside a number no node is present at first, and no call changes anything
pub record RosterRefused (f : ℕ) : Type 0 where
  pub empty : (j : ℕ) → is_present (start_of (Err f)).roster.marks j ≡ false
  pub event : (roster : Roster) (ev : Event) → (step_of (Err f) ev roster).roster ≡ roster
  pub query : (roster : Roster) (list : List ℕ) → lowest_list (Err f) roster list ≡ list
  pub job : (roster : Roster) (list : List ℕ) → ((job_of (Err f) roster list).roster ≡ roster) × (job_list (Err f) roster list ≡ list)

-- what is promised of a record
unfoldable pub RosterPromised : Answer Header → Type 0
RosterPromised (Ok h) = RosterSays h
RosterPromised (Err f) = RosterRefused f
