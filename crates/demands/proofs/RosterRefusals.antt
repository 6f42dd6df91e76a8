-- Demand 1 of the calls of a roster, proved.
use Rattle.std.specs.Prelude.{Ok, Err}
use Rattle.generator.specs.Answers.{Answer, fault_in}
use mathlib.Core.Path.{◌≡◌, refl, sym, ap, ◌∙◌}
use mathlib.Core.Logic.Iff
use mathlib.Core.Logic.{◌↔◌, by_cases}
use mathlib.Core.Bool.{Bool, beq, true, false, ◌&&◌, not, true≢false}
use mathlib.Core.List.{List, [], ◌++◌}
use Prim.Native.Nat.{ℕ, zero, suc, ◌<◌}
use native.Mathlib.Decide.{ℕ_discrete, dec_lt}
use native.Mathlib.Omega.{arith}
use borrow.Author.Tests.{eqb-true, eqb-false, eq-eqb, ne_eqb, leb-false, not-true, not-false}
use lib.Dec.{eqb, leb}
use lib.ListN.{length, get_or, get_or-eq_default}
use lib.Seq.{get_or_at}
use Rattle.lists.specs.Choice.{first_of, when}
use Rattle.lists.proofs.Cases.{by_test}
use Rattle.generator.specs.declared.Header.{Header}
use Rattle.generator.specs.Records.{header_of, record_fault, record_of, judged}
use Rattle.generator.proofs.Accepts.{faultless_sound}
use Rattle.roster.specs.declared.Roster.{Roster}
use Rattle.roster.specs.declared.Listing.{Listing}
use Rattle.roster.specs.Events.{Event, leaves, returns, named, says}
use Rattle.roster.specs.Rosters.{is_present, first_roster, start_of, event_fault, step_of, wrote, lowest_of, lowest_list, job_of, job_list}
use Rattle.roster.proofs.Stepping.{start_number, step_number, step_same, turned_away}
use Rattle.roster.proofs.Lowest.{lowest_number, lowest_kept, lowest_refused}
use Rattle.roster.proofs.OneJob.{job_listing, job_kept}
use Rattle.roster_bytes.specs.Bytes.{roster_of, mark_bytes, roster_bytes, bytes_fault, event_bytes}
use Rattle.roster_bytes.specs.Calls.{roster_room_fault, listing_fault, StartGives, EventGives, LowestGives, JobGives}
use Rattle.roster_bytes.proofs.Reading.{length_marks}
use Rattle.roster_bytes.proofs.Histories.{length_bytes, job_same}
use Rattle.roster_bytes.proofs.Claims.{byte_at, mark_at}
use Rattle.demands.specs.Judging.{Judged, Returns}
use Rattle.demands.specs.Numbers.{record_numbers}
use Rattle.demands.specs.RosterRefusals.{event_numbers, list_numbers, bytes_numbers, Already, event_bytes_numbers, list_bytes_numbers, NoNode, RosterRefusals}
use Rattle.demands.proofs.Judging.{Tells, line, last, call_judged, by_number}
use Rattle.demands.proofs.Conditions.{other_test, most_test}
use Rattle.demands.proofs.RecordNumbers.{record_tells, after_record}

-- two marks that are the same
beq_test : (a b : Bool) → (beq a b ≡ true) ↔ (a ≡ b)
beq_test true true = (λ e. refl, λ e. refl)
beq_test true false = (λ e. absurd (true≢false (sym e)), λ e. absurd (true≢false e))
beq_test false true = (λ e. absurd (true≢false (sym e)), λ e. absurd (true≢false (sym e)))
beq_test false false = (λ e. refl, λ e. refl)

-- an answer whose number is not 0 is a refusal
listing_refused : (a : Answer Listing) (f : ℕ) → fault_in a ≡ f → (f ≡ 0 → ⊥) → a ≡ Err f
listing_refused (Ok l) f e some = absurd (some (sym e))
listing_refused (Err g) f e some = ap Err e

-- two lengths under one number
two_lengths : (a b : Bool) → when (not (a && b)) 8 ≡ first_of (when (not a) 8) (when (not b) 8)
two_lengths true b = refl
two_lengths false b = refl

-- the jobs are counted from 0
first_job : (R : Answer Header) → (start_of R).roster.job ≡ 0
unfolding start_of first_roster
first_job (Ok h) = refl
first_job (Err f) = refl

module _ (rec : List ℕ) where
  abbrev h : Header
  h = header_of rec

  -- a refused start
  no_node : ((start_of (record_of rec)).number ≡ 0 → ⊥) → (j : ℕ) → is_present (start_of (record_of rec)).roster.marks j ≡ false
  unfolding record_of judged start_of
  no_node some = go (record_fault rec) (λ z. some (start_number rec ∙ z))
    where
      go : (f : ℕ) → (f ≡ 0 → ⊥) → (j : ℕ) → is_present (start_of (judged f (header_of rec))).roster.marks j ≡ false
      go zero some j = absurd (some refl)
      go (suc f) some j = (turned_away (suc f)).empty j

  start : Judged (record_numbers rec) (Returns (start_of (record_of rec)).number) ((j : ℕ) → is_present (start_of (record_of rec)).roster.marks j ≡ false)
  start = by_number (start_number rec) (record_tells rec) no_node

  -- a refused start in bytes: zeros
  no_byte : ((start_of (record_of rec)).number ≡ 0 → ⊥) → (j : ℕ) → get_or (roster_bytes (start_of (record_of rec)).roster) j 0 ≡ 0
  unfolding roster_bytes
  no_byte some j =
      let r = (start_of (record_of rec)).roster in
      by_cases (dec_lt j 255)
      (λ low. byte_at r j low ∙ ap (λ (b : Bool). when b 1) (no_node some j))
      (λ high.
      by_cases (ℕ_discrete j 255)
      (λ is. rw is (get_or_at (mark_bytes r.marks) r.job [] 0 255 (length_marks r.marks) ∙ first_job (record_of rec)))
      (λ other. get_or-eq_default (roster_bytes r) 0 (omega (arith, length_bytes r))))

  event : (e : Event) (r : Roster) → Judged (record_numbers rec ++ event_numbers h e r) (Returns (step_of (record_of rec) e r).number) ((step_of (record_of rec) e r).roster ≡ r)
  unfolding event_fault
  event e r =
      by_number (step_number e r rec)
      (after_record rec (event_numbers h e r) refl
      (λ none. line 8 (leb h.n (named e)) refl (most_test _ _)
      (λ below. last 14 (beq (is_present r.marks (named e)) (says e)) (beq_test _ _))))
      (step_same e r (record_of rec))

  module _ (list : List ℕ) where
    list_tells : Tells (record_numbers rec ++ list_numbers h list) (first_of (record_fault rec) (when (not (eqb (length list) h.k)) 8))
    list_tells = after_record rec (list_numbers h list) refl (λ none. last 7 (not (eqb (length list) h.k)) (other_test _ _))

    -- what is refused gives its number
    refused_is : (r : Roster) (f : ℕ) → (lowest_of (record_of rec) r list ≡ Err f) ↔ ((first_of (record_fault rec) (when (not (eqb (length list) h.k)) 8) ≡ f) × (f ≡ 0 → ⊥))
    refused_is r f = (
      λ e. (sym (lowest_number r list rec) ∙ ap fault_in e, lowest_refused r list rec f e),
      λ e. let (is, some) = e in listing_refused _ f (lowest_number r list rec ∙ is) some,
    )

    query : (r : Roster) → Judged (record_numbers rec ++ list_numbers h list) (λ f. lowest_of (record_of rec) r list ≡ Err f) (lowest_list (record_of rec) r list ≡ list)
    query r =
        call_judged _ list_tells (refused_is r)
        (λ some. lowest_kept r list (record_of rec) (λ z. some (sym (lowest_number r list rec) ∙ z)))

    job : (r : Roster) → Judged (record_numbers rec ++ list_numbers h list) (λ f. (job_of (record_of rec) r list).listing ≡ Err f) (((job_of (record_of rec) r list).roster ≡ r) × (job_list (record_of rec) r list ≡ list))
    unfolding wrote
    job r =
        let same = job_listing r list (record_of rec) in
        let number : ℕ = first_of (record_fault rec) (when (not (eqb (length list) h.k)) 8) in
        call_judged number list_tells
        (λ f. (λ e. (refused_is r f).0 (sym same ∙ e), λ e. same ∙ (refused_is r f).1 e))
        (λ some. (
          job_same r list (record_of rec) (ap wrote (same ∙ (refused_is r number).1 (refl, some))),
          job_kept r list (record_of rec) (λ z. some (sym (lowest_number r list rec) ∙ z)),
        ))

  module _ (bytes : List ℕ) where
    -- the byte of an event's node
    already : (e : Event) → named e < 255 → (is_present (roster_of bytes).marks (named e) ≡ says e) ↔ Already bytes e
    already (leaves j) low =
        let mark = mark_at bytes j low in
        (λ e. eqb-true _ 0 (not-false _ (sym mark ∙ e)), λ e. mark ∙ ap not (eq-eqb _ 0 e))
    already (returns j) low =
        let mark = mark_at bytes j low in
        (λ e. eqb-false _ 0 (not-true _ (sym mark ∙ e)), λ e. mark ∙ ap not (ne_eqb _ 0 e))

    start_bytes : (bytes' : List ℕ) (r : ℕ) → StartGives rec bytes bytes' r → Judged (record_numbers rec ++ bytes_numbers bytes) (Returns r) (NoNode bytes bytes')
    unfolding roster_room_fault
    start_bytes bytes' r g =
        by_number g.number
        (after_record rec (bytes_numbers bytes) refl (λ none. last 7 (not (eqb (length bytes) 256)) (other_test _ _)))
        (λ some.
        let whole : length bytes ≡ 256 → ((start_of (record_of rec)).number ≡ 0 → ⊥) × (bytes' ≡ roster_bytes (start_of (record_of rec)).roster) =
        λ long. (
          λ z. some (g.number ∙ rw (sym (start_number rec) ∙ z, eq-eqb (length bytes) 256 long)),
          rw (eq-eqb (length bytes) 256 long) at g.bytes_are,
        ) in
        record {
          other = λ short. rw (ne_eqb (length bytes) 256 short) at g.bytes_are;
          long = λ long. ap length (whole long).1 ∙ length_bytes _;
          zero = λ long j. ap (λ (x : List ℕ). get_or x j 0) (whole long).1 ∙ no_byte (whole long).0 j;
        })

    event_kept : (e : Event) → (bytes_fault rec e bytes ≡ 0 → ⊥) → event_bytes rec e bytes ≡ bytes
    unfolding event_bytes
    event_kept e some = rw (ne_eqb _ 0 some)

    bytes_of_event : (e : Event) (bytes' : List ℕ) (r : ℕ) → EventGives rec bytes e bytes' r → Judged (record_numbers rec ++ event_bytes_numbers h e bytes) (Returns r) (bytes' ≡ bytes)
    unfolding roster_room_fault event_fault bytes_fault
    bytes_of_event e bytes' r g =
        by_number g.number
        (after_record rec (event_bytes_numbers h e bytes) refl
        (λ none. line 7 (not (eqb (length bytes) 256)) refl (other_test _ _)
        (λ long. line 8 (leb h.n (named e)) refl (most_test _ _)
        (λ below. last 14 (beq (is_present (roster_of bytes).marks (named e)) (says e)) (Iff.trans (beq_test _ _) (already e (omega (arith, leb-false h.n (named e) below, (faultless_sound rec none).byte))))))))
        (λ some.
        by_test (eqb (length bytes) 256)
        (λ t. rw t at g.bytes_are ∙ event_kept e (λ z. some (rw t at g.number ∙ z)))
        (λ t. rw t at g.bytes_are))

    list_bytes_tells : (list : List ℕ) → Tells (record_numbers rec ++ list_bytes_numbers h bytes list) (listing_fault rec (length bytes) (length list))
    unfolding listing_fault
    list_bytes_tells list =
        rw (two_lengths (eqb (length bytes) 256) (eqb (length list) h.k))
        (after_record rec (list_bytes_numbers h bytes list) refl
        (λ none. line 7 (not (eqb (length bytes) 256)) refl (other_test _ _)
        (λ long. last 7 (not (eqb (length list) h.k)) (other_test _ _))))

    query_bytes : (list : List ℕ) (enough : ℕ) (list' : List ℕ) (enough' r : ℕ) → LowestGives rec bytes list enough list' enough' r → Judged (record_numbers rec ++ list_bytes_numbers h bytes list) (Returns r) ((list' ≡ list) × (enough' ≡ enough))
    query_bytes list enough list' enough' r g =
        by_number g.number (list_bytes_tells list) (λ some. (rw (ne_eqb r 0 some) at g.list_is, rw (ne_eqb r 0 some) at g.enough_is))

    job_bytes : (list : List ℕ) (enough : ℕ) (bytes' list' : List ℕ) (enough' r : ℕ) → JobGives rec bytes list enough bytes' list' enough' r → Judged (record_numbers rec ++ list_bytes_numbers h bytes list) (Returns r) ((bytes' ≡ bytes) × (list' ≡ list) × (enough' ≡ enough))
    job_bytes list enough bytes' list' enough' r g =
        by_number g.number (list_bytes_tells list) (λ some. (rw (ne_eqb r 0 some) at g.bytes_are, rw (ne_eqb r 0 some) at g.list_is, rw (ne_eqb r 0 some) at g.enough_is))

pub roster_refusals : RosterRefusals
roster_refusals =
    record {
      start = start;
      event = event;
      query = λ rec r list. query rec list r;
      job = λ rec r list. job rec list r;
      start_bytes = start_bytes;
      bytes_of_event = bytes_of_event;
      query_bytes = query_bytes;
      job_bytes = job_bytes;
    }
