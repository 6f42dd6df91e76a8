-- Demand 1 of the calls of a roster, and of the same calls on lent bytes.
use Rattle.std.specs.Prelude.{◌≡◌, Err, ◌≢◌, false, List, [], ◌∷◌, ◌++◌, ℕ, ◌≤◌, length, get_or}
use Rattle.generator.specs.declared.Header.{Header}
use Rattle.generator.specs.Records.{header_of, record_of}
use Rattle.roster.specs.declared.Roster.{Roster}
use Rattle.roster.specs.Events.{Event, leaves, returns, named, says}
use Rattle.roster.specs.Rosters.{is_present, start_of, step_of, lowest_of, lowest_list, job_of, job_list}
use Rattle.roster_bytes.specs.Calls.{StartGives, EventGives, LowestGives, JobGives}
use Rattle.demands.specs.Judging.{Table, Judged, Returns}
use Rattle.demands.specs.Numbers.{record_numbers}

-- an event: its node is none of the n, or already is what the event says
abbrev pub event_numbers : Header → Event → Roster → Table
event_numbers h ev roster = (9, h.n ≤ named ev) ∷ (15, is_present roster.marks (named ev) ≡ says ev) ∷ []

-- the query and a job: a list of another length than k
abbrev pub list_numbers : Header → List ℕ → Table
list_numbers h list = (8, length list ≢ h.k) ∷ []

-- lent bytes are as many as 256
abbrev pub bytes_numbers : List ℕ → Table
bytes_numbers bytes = (8, length bytes ≢ 256) ∷ []

-- the node of an event already is what it says: its byte is 0, or not
abbrev pub Already : List ℕ → Event → Type 0
Already bytes (leaves j) = get_or bytes j 0 ≡ 0
Already bytes (returns j) = get_or bytes j 0 ≢ 0

abbrev pub event_bytes_numbers : Header → Event → List ℕ → Table
event_bytes_numbers h ev bytes = (8, length bytes ≢ 256) ∷ (9, h.n ≤ named ev) ∷ (15, Already bytes ev) ∷ []

abbrev pub list_bytes_numbers : Header → List ℕ → List ℕ → Table
list_bytes_numbers h bytes list = (8, length bytes ≢ 256) ∷ (8, length list ≢ h.k) ∷ []

-- bytes of a roster with no node present, where there are 256 of them
pub record NoNode (bytes bytes' : List ℕ) : Type 0 where
  pub other : length bytes ≢ 256 → bytes' ≡ bytes
  pub long : length bytes ≡ 256 → length bytes' ≡ 256
  pub zero : length bytes ≡ 256 → (j : ℕ) → get_or bytes' j 0 ≡ 0

pub record RosterRefusals : Type 0 where
  -- a start that is turned away gives a roster with no node present
  pub start : (rec : List ℕ) → Judged (record_numbers rec) (Returns (start_of (record_of rec)).number) ((j : ℕ) → is_present (start_of (record_of rec)).roster.marks j ≡ false)
  -- an event that is turned away leaves the roster equal
  pub event : (rec : List ℕ) (ev : Event) (roster : Roster) → Judged (record_numbers rec ++ event_numbers (header_of rec) ev roster) (Returns (step_of (record_of rec) ev roster).number) ((step_of (record_of rec) ev roster).roster ≡ roster)
  -- a query that is turned away leaves the list
  pub query : (rec : List ℕ) (roster : Roster) (list : List ℕ) → Judged (record_numbers rec ++ list_numbers (header_of rec) list) (λ f. lowest_of (record_of rec) roster list ≡ Err f) (lowest_list (record_of rec) roster list ≡ list)
  -- and so does a job, which leaves the roster too
  pub job : (rec : List ℕ) (roster : Roster) (list : List ℕ) → Judged (record_numbers rec ++ list_numbers (header_of rec) list) (λ f. (job_of (record_of rec) roster list).listing ≡ Err f) (((job_of (record_of rec) roster list).roster ≡ roster) × (job_list (record_of rec) roster list ≡ list))
  -- the same on lent bytes: a start writes zeros
  pub start_bytes : (rec bytes bytes' : List ℕ) (f : ℕ) → StartGives rec bytes bytes' f → Judged (record_numbers rec ++ bytes_numbers bytes) (Returns f) (NoNode bytes bytes')
  -- an event leaves the bytes
  pub bytes_of_event : (rec bytes : List ℕ) (ev : Event) (bytes' : List ℕ) (f : ℕ) → EventGives rec bytes ev bytes' f → Judged (record_numbers rec ++ event_bytes_numbers (header_of rec) ev bytes) (Returns f) (bytes' ≡ bytes)
  -- a query leaves the list and `enough`
  pub query_bytes : (rec bytes list : List ℕ) (enough : ℕ) (list' : List ℕ) (enough' f : ℕ) → LowestGives rec bytes list enough list' enough' f → Judged (record_numbers rec ++ list_bytes_numbers (header_of rec) bytes list) (Returns f) ((list' ≡ list) × (enough' ≡ enough))
  -- a job leaves all three
  pub job_bytes : (rec bytes list : List ℕ) (enough : ℕ) (bytes' list' : List ℕ) (enough' f : ℕ) → JobGives rec bytes list enough bytes' list' enough' f → Judged (record_numbers rec ++ list_bytes_numbers (header_of rec) bytes list) (Returns f) ((bytes' ≡ bytes) × (list' ≡ list) × (enough' ≡ enough))
