-- From the answers of a roster's calls to what the calls on lent bytes promise.
use Rattle.std.specs.Prelude.{Ok, Err}
use mathlib.Core.Path.{◌≡◌, refl, sym, ap, ◌∙◌}
use mathlib.Core.Bool.{true, false, ◌&&◌}
use mathlib.Core.List.{List}
use Prim.Native.Nat.{ℕ, zero, suc}
use native.Mathlib.Omega.{arith}
use lib.Dec.{eqb}
use lib.ListN.{length, replicate}
use borrow.Author.Tests.{eq-eqb, ne_eqb, eqb-true, eqb-false}
use Rattle.lists.specs.Choice.{pick, first_of, when}
use Rattle.lists.specs.Rows.{from}
use Rattle.lists.proofs.Cases.{by_test}
use Rattle.generator.specs.declared.refusal.Refusal.{Refusal}
use Rattle.generator.specs.Answers.{Answer, number, fault_in}
use Rattle.generator.specs.Records.{header_of, record_fault, judged, record_of}
use Rattle.generator.proofs.Answered.{refused_is, last}
use Rattle.roster.specs.declared.Listing.{Listing}
use Rattle.roster.specs.declared.Listing.TheVariants.{Written, TooFew}
use Rattle.roster.specs.Events.{Event}
use Rattle.roster.specs.Rosters.{Step, first_marks, first_roster, start_of, step_of, wrote, lowest_of, lowest_list, job_of, job_list}
use Rattle.roster.proofs.Stepping.{start_number, step_number}
use Rattle.roster.proofs.Lowest.{lowest_number, lowest_wrote, lowest_kept, lowest_refused}
use Rattle.roster.proofs.OneJob.{job_listing, job_kept}
use Rattle.roster_bytes.specs.Bytes.{roster_of, mark_bytes, roster_bytes, bytes_fault, event_bytes}
use Rattle.roster_bytes.specs.Calls.{told_of, roster_room_fault, listing_fault, is_enough, StartGives, EventGives, LowestGives, JobGives}

-- no second number
first_none : (f : ℕ) → first_of f 0 ≡ f
first_none zero = refl
first_none (suc f) = refl

-- a number is not 0
number_some : (f : ℕ) → first_of f 8 ≡ 0 → ⊥
number_some zero e = omega arith
number_some (suc f) e = omega arith

-- the number of a refusal is not 0
pub some : (s : Refusal) → number s ≡ 0 → ⊥
some s = (refused_is _ _ _ (last {t = true} (Err s) s refl (refl, refl))).1

-- beside a number nothing is written
unwritten : (a : Answer Listing) → (fault_in a ≡ 0 → ⊥) → wrote a ≡ false
unfolding wrote
unwritten (Ok Written) bad = absurd (bad refl)
unwritten (Ok TooFew) bad = refl
unwritten (Err f) bad = refl

-- the number for another length than 256, where the start meets none, and where it meets one
pub length_none : (rec : List ℕ) → (start_of (record_of rec)).number ≡ 0 → 8 ≡ first_of (record_fault rec) 8
length_none rec none = rw (sym (start_number rec) ∙ none)

pub length_some : (rec : List ℕ) (s : Refusal) → (start_of (record_of rec)).number ≡ number s → number s ≡ first_of (record_fault rec) 8
length_some rec s e = go (number s) (some s) (sym e ∙ start_number rec)
  where
    go : (f : ℕ) → (f ≡ 0 → ⊥) → f ≡ record_fault rec → f ≡ first_of (record_fault rec) 8
    go zero bad q = absurd (bad refl)
    go (suc f) bad q = rw (← q)

-- where the start meets a number, the bytes of its roster are zeros
no_bytes : (f : ℕ) → roster_bytes (start_of (Err f)).roster ≡ replicate 256 0
unfolding roster_bytes mark_bytes start_of first_roster first_marks from
no_bytes f = refl

pub start_empty : (rec : List ℕ) → ((start_of (record_of rec)).number ≡ 0 → ⊥) → roster_bytes (start_of (record_of rec)).roster ≡ replicate 256 0
unfolding record_of judged start_of
start_empty rec = go (record_fault rec)
  where
    go : (f : ℕ) → ((start_of (judged f (header_of rec))).number ≡ 0 → ⊥) → roster_bytes (start_of (judged f (header_of rec))).roster ≡ replicate 256 0
    go zero bad = absurd (bad refl)
    go (suc f) bad = no_bytes (suc f)

module _ (rec bytes : List ℕ) where
  -- bytes of another length
  module _ (r : ℕ) (short : length bytes ≡ 256 → ⊥) (e : r ≡ first_of (record_fault rec) 8) where
    pub start_short : StartGives rec bytes bytes r
    unfolding roster_room_fault
    start_short = record { number = rw (ne_eqb (length bytes) 256 short) e; bytes_are = rw (ne_eqb (length bytes) 256 short) }

    pub event_short : (d : Event) → EventGives rec bytes d bytes r
    unfolding roster_room_fault
    event_short d = record { number = rw (ne_eqb (length bytes) 256 short) e; bytes_are = rw (ne_eqb (length bytes) 256 short) }

    pub lowest_short : (list : List ℕ) (enough : ℕ) → LowestGives rec bytes list enough list enough r
    unfolding listing_fault
    lowest_short list enough =
        let some : eqb r 0 ≡ false = ne_eqb r 0 (λ z. number_some (record_fault rec) (sym e ∙ z)) in
        record { number = rw (ne_eqb (length bytes) 256 short) e; list_is = rw some; enough_is = rw some }

    pub job_short : (list : List ℕ) (enough : ℕ) → JobGives rec bytes list enough bytes list enough r
    unfolding listing_fault
    job_short list enough =
        let some : eqb r 0 ≡ false = ne_eqb r 0 (λ z. number_some (record_fault rec) (sym e ∙ z)) in
        record { number = rw (ne_eqb (length bytes) 256 short) e; list_is = rw some; enough_is = rw some; bytes_are = rw some }

  -- 256 bytes
  module _ (long : length bytes ≡ 256) where
    pub start_done : (bytes' : List ℕ) (r : ℕ) → (start_of (record_of rec)).number ≡ r → bytes' ≡ roster_bytes (start_of (record_of rec)).roster → StartGives rec bytes bytes' r
    unfolding roster_room_fault
    start_done bytes' r n w =
        record {
          number = rw (eq-eqb (length bytes) 256 long) (sym n ∙ start_number rec ∙ sym (first_none (record_fault rec)));
          bytes_are = rw (eq-eqb (length bytes) 256 long) w;
        }

    pub event_done : (d : Event) (bytes' : List ℕ) (r : ℕ) → (step_of (record_of rec) d (roster_of bytes)).number ≡ r → bytes' ≡ pick (eqb r 0) (roster_bytes (step_of (record_of rec) d (roster_of bytes)).roster) bytes → EventGives rec bytes d bytes' r
    unfolding roster_room_fault event_bytes bytes_fault
    event_done d bytes' r n w =
        let number : r ≡ bytes_fault rec d bytes = sym n ∙ step_number d (roster_of bytes) rec in
        record {
          number = rw (eq-eqb (length bytes) 256 long) number;
          bytes_are = rw (eq-eqb (length bytes) 256 long) (w ∙ ap (λ (f : ℕ). pick (eqb f 0) (roster_bytes (step_of (record_of rec) d (roster_of bytes)).roster) bytes) number);
        }

    -- an event that is turned away
    pub event_refused : (d : Event) (s : Refusal) → step_of (record_of rec) d (roster_of bytes) ≡ record { roster = roster_of bytes; number = number s } → EventGives rec bytes d bytes (number s)
    event_refused d s is = event_done d bytes (number s) (ap (λ (t : Step). t.number) is) (rw (ne_eqb (number s) 0 (some s)))

    -- the number of the answer to a list, and whether the list is written
    module _ (list : List ℕ) where
      abbrev answer : Answer Listing
      answer = lowest_of (record_of rec) (roster_of bytes) list

      number_is : fault_in answer ≡ listing_fault rec (length bytes) (length list)
      unfolding listing_fault
      number_is = rw (eq-eqb (length bytes) 256 long) (lowest_number (roster_of bytes) list rec)

      enough_is : fault_in answer ≡ 0 → wrote answer ≡ is_enough rec bytes
      unfolding is_enough
      enough_is = lowest_wrote (roster_of bytes) list rec

      wrote_is : wrote answer ≡ (eqb (fault_in answer) 0 && is_enough rec bytes)
      wrote_is =
          by_test (eqb (fault_in answer) 0)
          (λ t. rw (t, enough_is (eqb-true (fault_in answer) 0 t)))
          (λ t. rw t (unwritten answer (eqb-false (fault_in answer) 0 t)))

      pub listing_wrote : wrote answer ≡ (eqb (listing_fault rec (length bytes) (length list)) 0 && is_enough rec bytes)
      listing_wrote = wrote_is ∙ ap (λ (x : ℕ). eqb x 0 && is_enough rec bytes) number_is

      -- what `enough` receives, by the case of the answer
      told : (enough : ℕ) (a : Answer Listing) → a ≡ answer → told_of a enough ≡ pick (eqb (fault_in a) 0) (when (wrote a) 1) enough
      unfolding told_of wrote
      told enough (Ok Written) q = refl
      told enough (Ok TooFew) q = refl
      told enough (Err f) q = rw (ne_eqb f 0 (lowest_refused (roster_of bytes) list rec f (sym q)))

      enough_told : (enough : ℕ) → told_of answer enough ≡ pick (eqb (fault_in answer) 0) (when (is_enough rec bytes) 1) enough
      enough_told enough =
          told enough answer refl ∙ by_test (eqb (fault_in answer) 0) (λ t. rw (t, enough_is (eqb-true (fault_in answer) 0 t))) (λ t. rw t)

      -- what is written beside no number is as it was beside a number
      list_kept : (full : List ℕ) → ((fault_in answer ≡ 0 → ⊥) → full ≡ list) → full ≡ pick (eqb (fault_in answer) 0) full list
      list_kept full same = by_test (eqb (fault_in answer) 0) (λ t. rw t) (λ t. rw t (same (eqb-false (fault_in answer) 0 t)))

      pub lowest_done : (enough : ℕ) → LowestGives rec bytes list enough (lowest_list (record_of rec) (roster_of bytes) list) (told_of answer enough) (fault_in answer)
      lowest_done enough =
          record {
            number = number_is;
            list_is = list_kept _ (lowest_kept (roster_of bytes) list (record_of rec));
            enough_is = enough_told enough;
          }

      -- where a job writes, no number is met and k nodes are present
      pub job_done : (enough : ℕ) (a : Answer Listing) (bytes' : List ℕ) → a ≡ (job_of (record_of rec) (roster_of bytes) list).listing → bytes' ≡ pick (wrote a) (roster_bytes (job_of (record_of rec) (roster_of bytes) list).roster) bytes → JobGives rec bytes list enough bytes' (job_list (record_of rec) (roster_of bytes) list) (told_of a enough) (fault_in a)
      job_done enough a bytes' e b =
          let same : a ≡ answer = e ∙ job_listing (roster_of bytes) list (record_of rec) in
          rw same
          record {
            number = number_is;
            list_is = list_kept _ (job_kept (roster_of bytes) list (record_of rec));
            enough_is = enough_told enough;
            bytes_are = rw same at b ∙ ap (λ t. pick t (roster_bytes (job_of (record_of rec) (roster_of bytes) list).roster) bytes) wrote_is;
          }
