-- Rosters as bytes: a roster that is written and read again is the same, and an event on bytes is the event on their roster.
use mathlib.Core.Path.{◌≡◌, refl, sym, ap, ap₂, ◌∙◌}
use mathlib.Core.Bool.{Bool, true, false, not}
use mathlib.Core.List.{List, [], ◌∷◌}
use Prim.Native.Nat.{ℕ, zero, suc, ◌<◌}
use native.Mathlib.Nat.{zero-add}
use native.Mathlib.Omega.{arith}
use lib.Dec.{eqb}
use lib.ListN.{length, get_or, get_or-append}
use lib.Seq.{ext_get_or, get_or_at}
use borrow.Author.Tests.{ne_eqb}
use Rattle.lists.specs.Choice.{pick}
use Rattle.lists.specs.Rows.{from}
use Rattle.lists.proofs.Rows.{length_from, get_or_from}
use Rattle.generator.specs.Records.{record_of}
use Rattle.roster.specs.declared.Roster.{Roster}
use Rattle.roster.specs.Events.{Event}
use Rattle.roster.specs.Rosters.{step_of}
use Rattle.roster.proofs.Stepping.{step_number, step_same, step_length}
use Rattle.roster_bytes.specs.Bytes.{marks_of, roster_of, mark_bytes, roster_bytes, bytes_fault, event_bytes}

pub length_marks : (marks : List Bool) → length (mark_bytes marks) ≡ 255
unfolding mark_bytes
length_marks marks = length_from (λ j. pick (get_or marks j false) 1 0) 0 255

-- a mark that is written and read again
mark_back : (b : Bool) → not (eqb (pick b 1 0) 0) ≡ b
mark_back true = refl
mark_back false = refl

marks_back : (r : Roster) → length r.marks ≡ 255 → marks_of (roster_bytes r) ≡ r.marks
unfolding marks_of roster_bytes mark_bytes
marks_back r long =
    let f : ℕ → Bool = λ j. not (eqb (get_or (roster_bytes r) j 0) 0) in
    let g : ℕ → ℕ = λ j. pick (get_or r.marks j false) 1 0 in
    let agree : (i : ℕ) → i < length (from f 0 255) → get_or (from f 0 255) i false ≡ get_or r.marks i false = λ i low.
    let inside : i < 255 = omega (arith, length_from f 0 255) in
    let byte : get_or (roster_bytes r) i 0 ≡ g i = get_or-append (from g 0 255) (r.job ∷ []) 0 i (omega (arith, length_from g 0 255)) ∙ get_or_from g 0 255 i 0 inside ∙ ap g (zero-add i) in
    get_or_from f 0 255 i false inside ∙ ap f (zero-add i) ∙ ap (λ (x : ℕ). not (eqb x 0)) byte ∙ mark_back (get_or r.marks i false) in
    ext_get_or false (from f 0 255) r.marks (length_from f 0 255 ∙ sym long) agree

abbrev made : List Bool → ℕ → Roster
made marks job = record { marks = marks; job = job }

-- a roster that is written and read again is the same
pub roster_back : (r : Roster) → length r.marks ≡ 255 → roster_of (roster_bytes r) ≡ r
unfolding roster_of roster_bytes
roster_back r long = ap₂ made (marks_back r long) (get_or_at (mark_bytes r.marks) r.job [] 0 255 (length_marks r.marks))

pub length_read : (s : List ℕ) → length (roster_of s).marks ≡ 255
unfolding roster_of marks_of
length_read s = length_from (λ j. not (eqb (get_or s j 0) 0)) 0 255

-- an event on bytes is the event on their roster
pub event_back : (rec : List ℕ) (e : Event) (s : List ℕ) → roster_of (event_bytes rec e s) ≡ (step_of (record_of rec) e (roster_of s)).roster
unfolding event_bytes bytes_fault
event_back rec e s = go (bytes_fault rec e s) (step_number e (roster_of s) rec)
  where
    next : Roster
    next = (step_of (record_of rec) e (roster_of s)).roster

    go : (f : ℕ) → (step_of (record_of rec) e (roster_of s)).number ≡ f → roster_of (pick (eqb f 0) (roster_bytes next) s) ≡ next
    go zero q = roster_back next (step_length e (roster_of s) (record_of rec) ∙ length_read s)
    go (suc f) q = rw (ne_eqb (suc f) 0 (λ z. omega arith)) (sym (step_same e (roster_of s) (record_of rec) (λ z. omega arith)))
