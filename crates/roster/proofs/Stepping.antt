-- One event on any roster, and every call of a record that is turned away.
use Rattle.std.specs.Prelude.{Ok, Err}
use Rattle.generator.specs.Answers.{Answer}
use mathlib.Core.Path.{◌≡◌, refl, sym, ap, ◌∙◌}
use mathlib.Core.Bool.{Bool, beq, true, false, true≢false}
use mathlib.Core.List.{List}
use mathlib.Core.Logic.{by_cases}
use Prim.Native.Nat.{ℕ, zero, suc, ◌+◌, ◌≤◌, ◌<◌}
use native.Mathlib.Decide.{dec_lt}
use native.Mathlib.Omega.{arith}
use lib.Dec.{ltb, leb}
use lib.ListN.{length, set, length-set, get_or-eq_default}
use lib.Seq.{get_or-set_other}
use borrow.Author.Tests.{le-ltb, leb-false}
use Rattle.lists.specs.Choice.{first_of, when}
use Rattle.lists.proofs.Cases.{first_zero, when_zero}
use Rattle.lists.proofs.Rows.{length_from, get_or_from}
use Rattle.generator.specs.declared.Header.{Header}
use Rattle.generator.specs.Records.{header_of, record_fault, judged, record_of}
use Rattle.roster.specs.declared.Roster.{Roster}
use Rattle.roster.specs.Events.{Event, named, says}
use Rattle.roster.specs.Rosters.{first_marks, is_present, first_roster, start_of, event_fault, marked, step_with, step_by, step_of, lowest_list, job_of, job_list}
use Rattle.roster.specs.Claims.{Stepping, RosterRefused}

-- a mark that is what an event says is the same mark
beq_same : (a b : Bool) → a ≡ b → beq a b ≡ true
beq_same true true e = refl
beq_same true false e = sym e
beq_same false true e = e
beq_same false false e = refl

-- an event that meets no number
passed : (n node : ℕ) (here : Bool) (marks : List Bool) → event_fault n node here marks ≡ 0 → (leb n node ≡ false) × (beq (is_present marks node) here ≡ false)
unfolding event_fault
passed n node here marks e =
    let (nine, fifteen) = first_zero (when (leb n node) 9) (when (beq (is_present marks node) here) 15) e in
    (when_zero (leb n node) 8 nine, when_zero (beq (is_present marks node) here) 14 fifteen)

module _ (n node : ℕ) (here : Bool) (r : Roster) where
  -- what an accepted event shows
  accepted_event : (step_with n node here r).number ≡ 0 → ((step_with n node here r).roster.job ≡ 0) × (node < n) × (is_present r.marks node ≡ here → ⊥)
  unfolding step_with marked
  accepted_event = go (event_fault n node here r.marks) refl
    where
      go : (f : ℕ) → event_fault n node here r.marks ≡ f → (marked f node here r).number ≡ 0 → ((marked f node here r).roster.job ≡ 0) × (node < n) × (is_present r.marks node ≡ here → ⊥)
      go zero e z = let (nine, fifteen) = passed n node here r.marks e in (refl, leb-false n node nine, λ same. true≢false (sym (beq_same _ here same) ∙ fifteen))
      go (suc f) e z = absurd (omega arith)

  -- an event leaves the marks at n and above
  step_above : (j : ℕ) → n ≤ j → is_present (step_with n node here r).roster.marks j ≡ is_present r.marks j
  unfolding step_with marked
  step_above j high = go (event_fault n node here r.marks) refl
    where
      go : (f : ℕ) → event_fault n node here r.marks ≡ f → is_present (marked f node here r).roster.marks j ≡ is_present r.marks j
      go zero e = let below : node < n = leb-false n node (passed n node here r.marks e).0 in get_or-set_other r.marks node j here false (λ same. omega arith)
      go (suc f) e = refl

-- the next roster and its number, by the number that was met
module _ (node : ℕ) (here : Bool) (r : Roster) where
  pub marked_number : (f : ℕ) → (marked f node here r).number ≡ f
  unfolding marked
  marked_number zero = refl
  marked_number (suc f) = refl

  pub marked_same : (f : ℕ) → ((marked f node here r).number ≡ 0 → ⊥) → (marked f node here r).roster ≡ r
  unfolding marked
  marked_same zero bad = absurd (bad refl)
  marked_same (suc f) bad = refl

  marked_marks : (q : Roster) → r.marks ≡ q.marks → (f : ℕ) → (marked f node here r).roster.marks ≡ (marked f node here q).roster.marks
  unfolding marked
  marked_marks q e zero = ap (λ (ms : List Bool). set ms node here) e
  marked_marks q e (suc f) = e

  marked_length : (f : ℕ) → length (marked f node here r).roster.marks ≡ length r.marks
  unfolding marked
  marked_length zero = length-set r.marks node here
  marked_length (suc f) = refl

module _ (e : Event) (r : Roster) where
  -- an event meets the record's number, then 9, then 15
  pub step_number : (rec : List ℕ) → (step_of (record_of rec) e r).number ≡ first_of (record_fault rec) (event_fault (header_of rec).n (named e) (says e) r.marks)
  unfolding record_of judged step_by step_with
  step_number rec = go (record_fault rec)
    where
      go : (f : ℕ) → (step_of (judged f (header_of rec)) e r).number ≡ first_of f (event_fault (header_of rec).n (named e) (says e) r.marks)
      go zero = marked_number (named e) (says e) r (event_fault (header_of rec).n (named e) (says e) r.marks)
      go (suc f) = refl

  -- a refused event leaves the roster as it was
  pub step_same : (rec : Answer Header) → ((step_of rec e r).number ≡ 0 → ⊥) → (step_of rec e r).roster ≡ r
  unfolding step_by step_with
  step_same (Err f) bad = refl
  step_same (Ok h) bad = marked_same (named e) (says e) r (event_fault h.n (named e) (says e) r.marks) bad

  -- the marks afterwards are settled by the marks before
  pub step_marks : (h : Header) (q : Roster) → r.marks ≡ q.marks → (step_of (Ok h) e r).roster.marks ≡ (step_of (Ok h) e q).roster.marks
  unfolding step_by step_with
  step_marks h q same =
      marked_marks (named e) (says e) r q same (event_fault h.n (named e) (says e) r.marks)
      ∙ ap (λ (ms : List Bool). (marked (event_fault h.n (named e) (says e) ms) (named e) (says e) q).roster.marks) same

  -- as many marks as before
  pub step_length : (rec : Answer Header) → length (step_of rec e r).roster.marks ≡ length r.marks
  unfolding step_by step_with
  step_length (Err f) = refl
  step_length (Ok h) = marked_length (named e) (says e) r (event_fault h.n (named e) (says e) r.marks)

-- the number of a start is the record's
pub start_number : (rec : List ℕ) → (start_of (record_of rec)).number ≡ record_fault rec
unfolding record_of judged start_of first_roster
start_number rec = go (record_fault rec)
  where
    go : (f : ℕ) → (start_of (judged f (header_of rec))).number ≡ f
    go zero = refl
    go (suc f) = refl

pub stepping : (h : Header) → Stepping h
unfolding step_by
stepping h =
    record {
      refused = λ r e bad. step_same e r (Ok h) bad;
      accepted = λ r e z. accepted_event h.n (named e) (says e) r z;
      above = λ r e. step_above h.n (named e) (says e) r;
    }

-- no node is present beside a number
nothing : (f j : ℕ) → is_present (start_of (Err f)).roster.marks j ≡ false
unfolding start_of first_roster first_marks
nothing f j =
    by_cases (dec_lt j 255)
    (λ l. get_or_from (λ i. ltb i 0) 0 255 j false l ∙ le-ltb (0 + j) 0 (omega arith))
    (λ l. get_or-eq_default (first_marks 0) false (omega (arith, length_from (λ i. ltb i 0) 0 255)))

pub turned_away : (f : ℕ) → RosterRefused f
unfolding step_by lowest_list job_of job_list
turned_away f = record { empty = nothing f; event = λ r e. refl; query = λ r list. refl; job = λ r list. (refl, refl) }
