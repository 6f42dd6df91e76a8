-- The roster after any events is that of the history of events alone.
use Rattle.std.specs.Prelude.{Ok}
use mathlib.Core.Path.{◌≡◌, refl, sym, ap, ◌∙◌}
use mathlib.Core.Bool.{Bool, beq, true, false}
use mathlib.Core.List.{List, [], ◌∷◌, ◌++◌}
use mathlib.Core.Logic.{by_cases}
use Prim.Native.Nat.{ℕ, zero, suc, ◌+◌, ◌≤◌, ◌<◌}
use native.Mathlib.Decide.{ℕ_discrete, dec_lt}
use native.Mathlib.Nat.{zero-add}
use native.Mathlib.Omega.{arith}
use lib.Dec.{eqb, ltb}
use lib.ListN.{length, get_or-eq_default}
use lib.Seq.{get_or-set_same, get_or-set_other}
use borrow.Author.Tests.{eq-eqb, ne_eqb, lt-ltb, le-ltb, lt-leb}
use Rattle.lists.specs.Choice.{pick, when}
use Rattle.lists.proofs.Passing.{passing_ext}
use Rattle.lists.proofs.Rows.{length_from, get_or_from}
use Rattle.generator.specs.declared.Header.{Header}
use Rattle.roster.specs.declared.Roster.{Roster}
use Rattle.roster.specs.Events.{Event, named, says}
use Rattle.roster.specs.Rosters.{first_marks, is_present, present_of, first_roster, start_of, event_fault, marked, step_with, step_by, step_of, lowest_nodes, lowest_of, lowest_list, job_of}
use Rattle.roster.specs.Histories.{after_events, last_says, present_by, NoneNames}
use Rattle.roster.specs.Runs.{Call, event, job, events_in, next, after_calls}
use Rattle.roster.specs.Claims.{reached, Kept}
use Rattle.roster.proofs.Stepping.{step_length, step_marks, stepping}
use Rattle.roster.proofs.OneJob.{job_marks}

-- two marks that are the same
same_mark : (a b : Bool) → beq a b ≡ true → a ≡ b
same_mark true true e = refl
same_mark true false e = sym e
same_mark false true e = e
same_mark false false e = refl

-- a number that is given: its condition holds
given_test : (t : Bool) (m f : ℕ) → when t m ≡ suc f → t ≡ true
given_test true m f e = refl
given_test false m f e = absurd (omega arith)

-- an event marks its node as it says, accepted or refused
module _ (n : ℕ) (small : n ≤ 255) (node : ℕ) (here : Bool) (r : Roster) (long : length r.marks ≡ 255) where
  step_node : (j : ℕ) → j < n → is_present (step_with n node here r).roster.marks j ≡ pick (eqb node j) here (is_present r.marks j)
  unfolding step_with marked event_fault
  step_node j low = go (event_fault n node here r.marks) refl (ℕ_discrete node j)
    where
      go : (f : ℕ) → event_fault n node here r.marks ≡ f → Dec (node ≡ j) → is_present (marked f node here r).roster.marks j ≡ pick (eqb node j) here (is_present r.marks j)
      go zero e (yes d) = rw (eq-eqb node j d, ← d) (get_or-set_same r.marks node here false (omega arith))
      go zero e (no d) = rw (ne_eqb node j d) (get_or-set_other r.marks node j here false (λ g. d (sym g)))
      go (suc f) e (yes d) =
          let inside : node < n = omega arith in
          let is : is_present r.marks node ≡ here = same_mark _ here (given_test _ 15 f (rw (lt-leb n node inside) at e)) in
          rw (eq-eqb node j d, ← d) is
      go (suc f) e (no d) = rw (ne_eqb node j d)

module _ (h : Header) (small : h.n ≤ 255) where
  -- from any roster
  events_node : (es : List Event) (r : Roster) → length r.marks ≡ 255 → (j : ℕ) → j < h.n → is_present (after_events (Ok h) es r).marks j ≡ last_says j es (is_present r.marks j)
  unfolding after_events last_says step_by
  events_node [] r long j low = refl
  events_node (e ∷ es) r long j low =
      events_node es (step_of (Ok h) e r).roster (step_length e r (Ok h) ∙ long) j low
      ∙ ap (last_says j es) (step_node h.n small (named e) (says e) r long j low)

  -- all are present at first
  start_long : length (start_of (Ok h)).roster.marks ≡ 255
  unfolding start_of first_roster first_marks
  start_long = length_from (λ j. ltb j h.n) 0 255

  start_node : (j : ℕ) → j < h.n → is_present (start_of (Ok h)).roster.marks j ≡ true
  unfolding start_of first_roster first_marks
  start_node j low = get_or_from (λ j. ltb j h.n) 0 255 j false (omega arith) ∙ lt-ltb (0 + j) h.n (omega arith)

  reached_node : (es : List Event) (j : ℕ) → j < h.n → is_present (reached h es).marks j ≡ last_says j es true
  reached_node es j low = events_node es (start_of (Ok h)).roster start_long j low ∙ ap (last_says j es) (start_node j low)

  -- the present nodes
  reached_present : (es : List Event) → present_of h.n (reached h es).marks ≡ present_by h.n es
  unfolding present_of present_by
  reached_present es = passing_ext h.n 0 (is_present (reached h es).marks) (λ j. last_says j es true) (λ j a b. reached_node es j (omega arith))

-- what the last event that names a node says
last_unnamed : (j : ℕ) (es : List Event) → NoneNames j es → (first : Bool) → last_says j es first ≡ first
unfolding last_says NoneNames
last_unnamed j [] none first = refl
last_unnamed j (e ∷ es) none first = rw (ne_eqb (named e) j none.0) (last_unnamed j es none.1 first)

last_named : (j : ℕ) (before : List Event) (e : Event) (later : List Event) (first : Bool) → named e ≡ j → NoneNames j later → last_says j (before ++ (e ∷ later)) first ≡ says e
unfolding last_says
last_named j [] e later first is none = ap (λ (t : Bool). last_says j later (pick t (says e) first)) (eq-eqb (named e) j is) ∙ last_unnamed j later none (says e)
last_named j (d ∷ before) e later first is none = last_named j before e later (pick (eqb (named d) j) (says d) first) is none

-- jobs between the events play no part
calls_marks : (h : Header) (cs : List Call) (r q : Roster) → r.marks ≡ q.marks → (after_calls (Ok h) cs r).marks ≡ (after_events (Ok h) (events_in cs) q).marks
unfolding after_calls after_events events_in next
calls_marks h [] r q same = same
calls_marks h (event e ∷ cs) r q same = calls_marks h cs (step_of (Ok h) e r).roster (step_of (Ok h) e q).roster (step_marks e r h q same)
calls_marks h (job list ∷ cs) r q same = calls_marks h cs (job_of (Ok h) r list).roster q (job_marks h r list ∙ same)

-- calls leave the number of marks, and the marks at n and above
calls_length : (h : Header) (cs : List Call) (r : Roster) → length (after_calls (Ok h) cs r).marks ≡ length r.marks
unfolding after_calls next
calls_length h [] r = refl
calls_length h (event e ∷ cs) r = calls_length h cs (step_of (Ok h) e r).roster ∙ step_length e r (Ok h)
calls_length h (job list ∷ cs) r = calls_length h cs (job_of (Ok h) r list).roster ∙ ap length (job_marks h r list)

calls_above : (h : Header) (cs : List Call) (r : Roster) (j : ℕ) → h.n ≤ j → is_present (after_calls (Ok h) cs r).marks j ≡ is_present r.marks j
unfolding after_calls next
calls_above h [] r j high = refl
calls_above h (event e ∷ cs) r j high = calls_above h cs (step_of (Ok h) e r).roster j high ∙ (stepping h).above r e j high
calls_above h (job list ∷ cs) r j high = calls_above h cs (job_of (Ok h) r list).roster j high ∙ ap (λ (ms : List Bool). is_present ms j) (job_marks h r list)

-- the marks at first
start_marks : (h : Header) → h.n ≤ 255 → (j : ℕ) → is_present (start_of (Ok h)).roster.marks j ≡ ltb j h.n
unfolding start_of first_roster first_marks
start_marks h small j =
    by_cases (dec_lt j 255)
    (λ l. rw zero-add at (get_or_from (λ i. ltb i h.n) 0 255 j false l))
    (λ l. get_or-eq_default (first_marks h.n) false (omega (arith, length_from (λ i. ltb i h.n) 0 255)) ∙ sym (le-ltb j h.n (omega arith)))

start_job : (h : Header) → (start_of (Ok h)).roster.job ≡ 0
unfolding start_of first_roster
start_job h = refl

pub kept : (h : Header) → h.n ≤ 255 → Kept h
unfolding lowest_of lowest_list lowest_nodes
kept h small =
    record {
      start = start_marks h small;
      start_job = start_job h;
      node = reached_node h small;
      answered = λ es list. rw (reached_present h small es);
      written = λ es list. rw (reached_present h small es);
      last = λ j before e later is none. last_named j before e later true is none;
      none = λ j es free. last_unnamed j es free true;
      between = λ cs r. calls_marks h cs r r refl;
      many = λ cs. calls_length h cs (start_of (Ok h)).roster ∙ start_long h small;
      above = λ cs j high. calls_above h cs (start_of (Ok h)).roster j high ∙ start_marks h small j ∙ le-ltb j h.n high;
    }
