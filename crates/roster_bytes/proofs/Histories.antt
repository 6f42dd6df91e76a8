-- Calls one after the other on the bytes of a roster are the same calls on the roster that they hold.
use Rattle.std.specs.Prelude.{Ok, Err}
use Rattle.generator.specs.Answers.{Answer}
use Rattle.generator.specs.declared.Header.{Header}
use mathlib.Core.Path.{◌≡◌, refl, sym, ap, ap₂, subst, ◌∙◌}
use mathlib.Core.Bool.{Bool, true, false, ◌&&◌, true≢false}
use mathlib.Core.List.{List, [], ◌∷◌, ◌++◌}
use Prim.Native.Nat.{ℕ, suc}
use native.Mathlib.Nat.{zero-add}
use native.Mathlib.Omega.{arith}
use borrow.Author.Tests.{eq-eqb, eqb-true}
use lib.Dec.{eqb}
use lib.ListN.{length, length-append}
use Rattle.lists.specs.Choice.{pick, when}
use Rattle.lists.proofs.Cases.{by_test, not_both}
use Rattle.generator.specs.Records.{record_of}
use Rattle.roster.specs.declared.Roster.{Roster}
use Rattle.roster.specs.Events.{Event}
use Rattle.roster.specs.Rosters.{step_of, wrote, job_of, job_list}
use Rattle.roster.specs.Runs.{Call, event, job, next, after_calls, is_read, read_by, reads_of, jobs_in, Quiet}
use Rattle.roster.proofs.Stepping.{step_number}
use Rattle.roster.proofs.OneJob.{job_marks, job_idle, job_listing}
use Rattle.roster_bytes.specs.Bytes.{roster_of, mark_bytes, roster_bytes, bytes_fault, event_bytes}
use Rattle.roster_bytes.specs.Calls.{roster_room_fault, is_enough, EventGives, JobGives}
use Rattle.roster_bytes.specs.Histories.{History, no_call, then_event, then_job, Run, no_job, refused_event, idle_job, written_job}
use Rattle.roster_bytes.proofs.Reading.{length_marks, roster_back, length_read, event_back}
use Rattle.roster_bytes.proofs.Giving.{listing_wrote}

pub length_bytes : (r : Roster) → length (roster_bytes r) ≡ 256
unfolding roster_bytes
length_bytes r = length-append (mark_bytes r.marks) (r.job ∷ []) ∙ omega (arith, length_marks r.marks)

-- a choice between two lists of one length
pick_long : (t : Bool) (a b : List ℕ) (n : ℕ) → length a ≡ n → length b ≡ n → length (pick t a b) ≡ n
pick_long true a b n first second = first
pick_long false a b n first second = second

-- the bytes are those of the roster that they hold: marks are 0 or 1
abbrev pub Clean : List ℕ → Type 0
Clean s = s ≡ roster_bytes (roster_of s)

clean_pick : (t : Bool) (r : Roster) (s u : List ℕ) → u ≡ pick t (roster_bytes r) s → (t ≡ true → roster_of u ≡ r) → Clean s → Clean u
clean_pick true r s u is back clean = is ∙ ap roster_bytes (sym (back refl))
clean_pick false r s u is back clean = is ∙ clean ∙ ap (λ (x : List ℕ). roster_bytes (roster_of x)) (sym is)

-- a job, whatever the record
job_long : (r : Roster) (list : List ℕ) (R : Answer Header) → length (job_of R r list).roster.marks ≡ length r.marks
unfolding job_of
job_long r list (Err f) = refl
job_long r list (Ok h) = ap length (job_marks h r list)

pub job_same : (r : Roster) (list : List ℕ) (R : Answer Header) → wrote (job_of R r list).listing ≡ false → (job_of R r list).roster ≡ r
unfolding job_of wrote
job_same r list (Err f) no_list = refl
job_same r list (Ok h) no_list = (job_idle h r list (λ e. true≢false (sym (ap wrote e) ∙ no_list))).0

module _ (rec : List ℕ) where
  -- after an event
  record AfterEvent (s : List ℕ) (e : Event) (u : List ℕ) (r : ℕ) : Type 0 where
    roster : roster_of u ≡ (step_of (record_of rec) e (roster_of s)).roster
    long : length u ≡ 256
    number : r ≡ (step_of (record_of rec) e (roster_of s)).number
    clean : Clean s → Clean u

  event_given : (s : List ℕ) (e : Event) (u : List ℕ) (r : ℕ) → EventGives rec s e u r → length s ≡ 256 → AfterEvent s e u r
  unfolding roster_room_fault event_bytes
  event_given s e u r g long =
      let is : u ≡ event_bytes rec e s = rw (eq-eqb (length s) 256 long) at g.bytes_are in
      let back : roster_of u ≡ (step_of (record_of rec) e (roster_of s)).roster = ap roster_of is ∙ event_back rec e s in
      record {
        roster = back;
        long = ap length is ∙ pick_long (eqb (bytes_fault rec e s) 0) _ s 256 (length_bytes _) long;
        number = rw (eq-eqb (length s) 256 long) at g.number ∙ sym (step_number e (roster_of s) rec);
        clean = clean_pick (eqb (bytes_fault rec e s) 0) _ s u is (λ t. back);
      }

  -- after a job
  record AfterJob (s list u list' : List ℕ) (enough enough' r : ℕ) : Type 0 where
    roster : roster_of u ≡ (job_of (record_of rec) (roster_of s) list).roster
    long : length u ≡ 256
    read : wrote (job_of (record_of rec) (roster_of s) list).listing ≡ (eqb r 0 && is_enough rec s)
    clean : Clean s → Clean u

  job_given : (s list u list' : List ℕ) (enough enough' r : ℕ) → JobGives rec s list enough u list' enough' r → length s ≡ 256 → AfterJob s list u list' enough enough' r
  job_given s list u list' enough enough' r g size =
      let after = job_of (record_of rec) (roster_of s) list in
      let t : Bool = eqb r 0 && is_enough rec s in
      let is : u ≡ pick t (roster_bytes after.roster) s = g.bytes_are in
      let wrote_is : wrote after.listing ≡ t = ap wrote (job_listing (roster_of s) list (record_of rec)) ∙ listing_wrote rec s size list ∙ ap (λ (x : ℕ). eqb x 0 && is_enough rec s) (sym g.number) in
      let back : (b : Bool) → t ≡ b → roster_of (pick b (roster_bytes after.roster) s) ≡ after.roster =
      λ b e. by_test b
      (λ z. rw z (roster_back after.roster (job_long (roster_of s) list (record_of rec) ∙ length_read s)))
      (λ z. rw z (sym (job_same (roster_of s) list (record_of rec) (wrote_is ∙ e ∙ z)))) in
      let roster_is : roster_of u ≡ after.roster = ap roster_of is ∙ back t refl in
      record {
        roster = roster_is;
        long = ap length is ∙ pick_long t _ s 256 (length_bytes after.roster) size;
        read = wrote_is;
        clean = clean_pick t after.roster s u is (λ z. roster_is);
      }

  -- a history on bytes is the history on their roster
  pub record Traced (s : List ℕ) (cs : List Call) (t : List ℕ) : Type 0 where
    pub roster : roster_of t ≡ after_calls (record_of rec) cs (roster_of s)
    pub long : length t ≡ 256
    pub clean : Clean s → Clean t

  pub history_back : {s t : List ℕ} {cs : List Call} → History rec s cs t → length s ≡ 256 → Traced s cs t
  unfolding after_calls next
  history_back (no_call s) long = record { roster = refl; long = long; clean = λ is. is }
  history_back (then_event {bytes = s} {bytes' = u} {calls = cs} {ev = e} {f = r} g later) long =
      let now = event_given s e u r g long in
      let end = history_back later now.long in
      record {
        roster = end.roster ∙ ap (after_calls (record_of rec) cs) now.roster;
        long = end.long;
        clean = λ is. end.clean (now.clean is);
      }
  history_back (then_job {bytes = s} {bytes' = u} {list = list} {list' = list'} {calls = cs} {enough = enough} {enough' = enough'} {f = r} g later) long =
      let now = job_given s list u list' enough enough' r g long in
      let end = history_back later now.long in
      record {
        roster = end.roster ∙ ap (after_calls (record_of rec) cs) now.roster;
        long = end.long;
        clean = λ is. end.clean (now.clean is);
      }

-- a run on bytes is a run of the roster, as the record reads
pub record Ran (R : Answer Header) (s : List ℕ) (reads : List ℕ) (jobs : ℕ) (t : List ℕ) : Type 0 where
  pub calls : List Call
  pub quiet : Quiet R calls (roster_of s)
  pub read : reads_of R calls (roster_of s) ≡ reads
  pub count : jobs_in R calls (roster_of s) ≡ jobs
  pub end : roster_of t ≡ after_calls R calls (roster_of s)
  pub long : length t ≡ 256

module _ (rec : List ℕ) where
  abbrev R : Answer Header
  R = record_of rec

  ran_event : (s u t reads : List ℕ) (jobs r : ℕ) (e : Event) → AfterEvent rec s e u r → (r ≡ 0 → ⊥) → Ran R u reads jobs t → Ran R s reads jobs t
  unfolding after_calls next Quiet reads_of jobs_in read_by is_read
  ran_event s u t reads jobs r e now some rest =
      record {
        calls = event e ∷ rest.calls;
        quiet = (λ z. some (now.number ∙ z), subst (Quiet R rest.calls) now.roster rest.quiet);
        read = ap (reads_of R rest.calls) (sym now.roster) ∙ rest.read;
        count = zero-add _ ∙ ap (jobs_in R rest.calls) (sym now.roster) ∙ rest.count;
        end = rest.end ∙ ap (after_calls R rest.calls) now.roster;
        long = rest.long;
      }

  ran_idle : (s list u list' t reads : List ℕ) (enough enough' r jobs : ℕ) → AfterJob rec s list u list' enough enough' r → (eqb r 0 && is_enough rec s) ≡ false → Ran R u reads jobs t → Ran R s reads jobs t
  unfolding after_calls next Quiet reads_of jobs_in read_by is_read
  ran_idle s list u list' t reads enough enough' r jobs now none rest =
      let idle : wrote (job_of R (roster_of s) list).listing ≡ false = now.read ∙ none in
      record {
        calls = job list ∷ rest.calls;
        quiet = subst (Quiet R rest.calls) now.roster rest.quiet;
        read = rw idle (ap (reads_of R rest.calls) (sym now.roster) ∙ rest.read);
        count = rw idle (zero-add _ ∙ ap (jobs_in R rest.calls) (sym now.roster) ∙ rest.count);
        end = rest.end ∙ ap (after_calls R rest.calls) now.roster;
        long = rest.long;
      }

  ran_wrote : (s list u list' t reads : List ℕ) (enough jobs : ℕ) → AfterJob rec s list u list' enough 1 0 → is_enough rec s ≡ true → list' ≡ job_list R (roster_of s) list → Ran R u reads jobs t → Ran R s (list' ++ reads) (suc jobs) t
  unfolding after_calls next Quiet reads_of jobs_in read_by is_read
  ran_wrote s list u list' t reads enough jobs now some is rest =
      let written : wrote (job_of R (roster_of s) list).listing ≡ true = now.read ∙ some in
      record {
        calls = job list ∷ rest.calls;
        quiet = subst (Quiet R rest.calls) now.roster rest.quiet;
        read = rw written (ap₂ ◌++◌ (sym is) (ap (reads_of R rest.calls) (sym now.roster) ∙ rest.read));
        count = rw written (omega (arith, ap (jobs_in R rest.calls) (sym now.roster) ∙ rest.count));
        end = rest.end ∙ ap (after_calls R rest.calls) now.roster;
        long = rest.long;
      }

  -- where `enough` receives 1 and no number is given, the list is written
  wrote_told : (s : List ℕ) (enough enough' r : ℕ) → enough' ≡ pick (eqb r 0) (when (is_enough rec s) 1) enough → ((r ≡ 0) × (enough' ≡ 1) → ⊥) → (eqb r 0 && is_enough rec s) ≡ false
  wrote_told s enough enough' r is other =
      not_both (λ none some. other (eqb-true r 0 none, is ∙ rw (none, some)))

  told_wrote : (s : List ℕ) → 1 ≡ when (is_enough rec s) 1 → is_enough rec s ≡ true
  told_wrote s e = by_test (is_enough rec s) (λ t. t) (λ t. let z : ◌≡◌ {A = ℕ} 1 0 = rw t at e in absurd (omega arith))

  pub run_back : {s t reads : List ℕ} {jobs : ℕ} → Run rec s reads jobs t → length s ≡ 256 → Ran R s reads jobs t
  unfolding after_calls Quiet reads_of jobs_in
  run_back (no_job s) long = record { calls = []; quiet = tt; read = refl; count = refl; end = refl; long = long }
  run_back (refused_event {bytes = s} {bytes' = u} {last = t} {reads = reads} {jobs = jobs} {f = r} {ev = e} g some later) long =
      let now = event_given rec s e u r g long in
      ran_event s u t reads jobs r e now some (run_back later now.long)
  run_back (idle_job {bytes = s} {bytes' = u} {last = t} {reads = reads} {list = list} {list' = list'} {jobs = jobs} {enough = enough} {enough' = enough'} {f = r} g other later) long =
      let now = job_given rec s list u list' enough enough' r g long in
      ran_idle s list u list' t reads enough enough' r jobs now (wrote_told s enough enough' r g.enough_is other) (run_back later now.long)
  run_back (written_job {bytes = s} {bytes' = u} {last = t} {reads = reads} {list = list} {list' = list'} {jobs = jobs} {enough = enough} g later) long =
      let now = job_given rec s list u list' enough 1 0 g long in
      ran_wrote s list u list' t reads enough jobs now (told_wrote s g.enough_is) g.list_is (run_back later now.long)
