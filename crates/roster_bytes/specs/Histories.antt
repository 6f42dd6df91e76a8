-- Calls one after the other on the bytes of a roster, by what each call promises: what the caller holds then, and which nodes the jobs read.
use Rattle.std.specs.Prelude.{◌≡◌, true, not, List, [], ◌∷◌, ◌++◌, ℕ, suc, ◌+◌, ◌-◌, ◌*◌, ◌/◌, ◌≤◌, ◌<◌, eqb, leb, length, get_or, take}
use Rattle.lists.specs.Choice.{pick, when}
use Rattle.lists.specs.Rows.{from}
use Rattle.lists.specs.Around.{around}
use Rattle.lists.specs.Counting.{passing_from, occurrences}
use Rattle.generator.specs.declared.Header.{Header}
use Rattle.generator.specs.Records.{header_of}
use Rattle.roster.specs.Events.{Event}
use Rattle.roster.specs.Histories.{last_says, present_by}
use Rattle.roster.specs.Runs.{Call, event, job, events_in}
use Rattle.roster_bytes.specs.Calls.{StartGives, EventGives, LowestGives, JobGives}

-- calls led from bytes to other bytes, whatever they answered
pub data History (rec : List ℕ) : List ℕ → List Call → List ℕ → Type 0 where
  no_call : (bytes : List ℕ) → History rec bytes [] bytes
  then_event : {bytes bytes' last : List ℕ} {calls : List Call} {ev : Event} {f : ℕ} → EventGives rec bytes ev bytes' f → History rec bytes' calls last → History rec bytes (event ev ∷ calls) last
  then_job : {bytes bytes' last list list' : List ℕ} {calls : List Call} {enough enough' f : ℕ} → JobGives rec bytes list enough bytes' list' enough' f → History rec bytes' calls last → History rec bytes (job list ∷ calls) last

-- a run: jobs, and events that were turned away, led from bytes to other bytes; the jobs wrote the nodes `reads` into lists, that many jobs
pub data Run (rec : List ℕ) : List ℕ → List ℕ → ℕ → List ℕ → Type 0 where
  no_job : (bytes : List ℕ) → Run rec bytes [] 0 bytes
  refused_event : {bytes bytes' last reads : List ℕ} {jobs f : ℕ} {ev : Event} → EventGives rec bytes ev bytes' f → (f ≡ 0 → ⊥) → Run rec bytes' reads jobs last → Run rec bytes reads jobs last
  idle_job : {bytes bytes' last reads list list' : List ℕ} {jobs enough enough' f : ℕ} → JobGives rec bytes list enough bytes' list' enough' f → ((f ≡ 0) × (enough' ≡ 1) → ⊥) → Run rec bytes' reads jobs last → Run rec bytes reads jobs last
  written_job : {bytes bytes' last reads list list' : List ℕ} {jobs enough : ℕ} → JobGives rec bytes list enough bytes' list' 1 0 → Run rec bytes' reads jobs last → Run rec bytes (list' ++ reads) (suc jobs) last

-- the present nodes, rising: those below n whose byte is not 0
unfoldable pub present_in : Header → List ℕ → List ℕ
present_in h bytes = passing_from h.n 0 (λ j. not (eqb (get_or bytes j 0) 0))

-- node j is among them
abbrev pub IsPresent : Header → List ℕ → ℕ → Type 0
IsPresent h bytes j = (j < h.n) × (get_or bytes j 0 ≡ 0 → ⊥)

-- bytes that tell the history of events: 1 for a node below n exactly if the last event that names it says so, or none names it; 0 from n on
pub record Tell (h : Header) (evs : List Event) (bytes : List ℕ) : Type 0 where
  pub long : length bytes ≡ 256
  pub nodes : (j : ℕ) → j < h.n → get_or bytes j 0 ≡ when (last_says j evs true) 1
  pub above : (j : ℕ) → h.n ≤ j → j < 255 → get_or bytes j 0 ≡ 0

-- for an accepted record
pub record BytesSay (rec : List ℕ) : Type 0 where
  -- a start: each node is present, and the job number is 0
  pub start : (bytes bytes' : List ℕ) → StartGives rec bytes bytes' 0 → Tell (header_of rec) [] bytes' × (get_or bytes' 255 0 ≡ 0)
  -- events and jobs after it
  pub kept : (bytes bytes' last : List ℕ) (calls : List Call) → StartGives rec bytes bytes' 0 → History rec bytes' calls last → Tell (header_of rec) (events_in calls) last
  -- the query after them, worked out from the events alone
  pub query : (bytes bytes' last : List ℕ) (calls : List Call) (list list' : List ℕ) (enough enough' : ℕ) → StartGives rec bytes bytes' 0 → History rec bytes' calls last → LowestGives rec last list enough list' enough' 0 →
      let h = header_of rec in
      let present = present_by h.n (events_in calls) in
      (enough' ≡ when (leb h.k (length present)) 1) × (list' ≡ pick (leb h.k (length present)) (take h.k present) list)
  -- a run on any 256 bytes: job after job, k places each, from the place that the job number says, the present nodes are read in succession, going round
  pub reads : (bytes last reads : List ℕ) (jobs : ℕ) → length bytes ≡ 256 → Run rec bytes reads jobs last →
      let h = header_of rec in
      reads ≡ from (around (present_in h bytes)) (get_or bytes 255 0 * h.k) (jobs * h.k)
  -- it leaves who is present
  pub stays : (bytes last reads : List ℕ) (jobs : ℕ) → length bytes ≡ 256 → Run rec bytes reads jobs last → (length last ≡ 256) × (present_in (header_of rec) last ≡ present_in (header_of rec) bytes)
  -- no present node is read more than once oftener than another
  pub fair : (bytes last reads : List ℕ) (jobs : ℕ) → length bytes ≡ 256 → Run rec bytes reads jobs last → (j j' : ℕ) → IsPresent (header_of rec) bytes j → IsPresent (header_of rec) bytes j' → occurrences j reads ≤ occurrences j' reads + 1
  -- with s present nodes in s / k jobs, rounded up, wherever they begin in a run, each is read
  pub waits : (bytes bytes' last before reads : List ℕ) (skipped jobs : ℕ) → length bytes ≡ 256 → Run rec bytes before skipped bytes' → Run rec bytes' reads jobs last → (j : ℕ) → IsPresent (header_of rec) bytes j →
      let h = header_of rec in
      (length (present_in h bytes) + h.k - 1) / h.k ≤ jobs → 0 < occurrences j reads
