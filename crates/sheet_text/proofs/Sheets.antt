-- The sheet of the plan of a record says what the definitions of the generator say.
use Rattle.std.specs.Prelude.{Ok, Err}
use mathlib.Core.Path.{◌≡◌, refl, ap}
use mathlib.Core.List.{List, [], ◌∷◌, ◌++◌}
use Prim.Native.Nat.{ℕ, ◌<◌}
use native.Mathlib.Omega.{arith}
use lib.ListN.{get_or}
use Rattle.lists.specs.Rows.{from}
use Rattle.lists.proofs.Rows.{from_ext, rows_ext}
use Rattle.generator.specs.declared.Header.{Header}
use Rattle.generator.specs.Answers.{Answer}
use Rattle.generator.specs.Records.{distance, low_reads, high_reads, record_of, Sound}
use Rattle.generator.specs.Shifts.{shifts, firsts}
use Rattle.generator.specs.Generator.{entry}
use Rattle.plan.specs.declared.Plan.{Plan}
use Rattle.plan.specs.Plans.{plan_of, plan_for, entry_in}
use Rattle.plan.proofs.Plans.{shift_in, first_in, entry_in_lem}
use Rattle.generator.proofs.Accepts.{accepted_sound}
use Rattle.text.specs.Text.{ascii, line}
use Rattle.sheet_text.specs.Sheet.{roundings, numbers_line, row_line, sheet_for}
use Rattle.sheet_text.specs.Inner.Sheet.{sheet_of}

-- the line of a row of a sound header
row_is : (h : Header) → Sound h → (r : ℕ) → r < h.k → row_line (plan_of h) r ≡ line (ascii "row") (r ∷ get_or (shifts h) r 0 ∷ get_or (firsts h) r 0 ∷ from (entry h r) 0 h.n)
unfolding row_line plan_of
row_is h s r row =
    rw (shift_in h s r row, first_in h s r row)
    (ap (λ (xs : List ℕ). line (ascii "row") (r ∷ get_or (shifts h) r 0 ∷ get_or (firsts h) r 0 ∷ xs)) (from_ext (entry_in (plan_of h) r) (entry h r) 0 h.n (λ j a node. entry_in_lem h s r j row (omega arith))))

-- the sheet of a sound header
pub sheet_holds : (h : Header) → Sound h → sheet_of (plan_of h) ≡ sheet_for (Ok h)
unfolding sheet_of numbers_line sheet_for plan_of
sheet_holds h s =
    ap (λ (xs : List ℕ). line (ascii "plan") (h.n ∷ h.k ∷ distance h ∷ roundings (low_reads h) (high_reads h)) ++ xs)
    (rows_ext (row_line (plan_of h)) _ 0 h.k (λ r a row. row_is h s r (omega arith)))

-- the sheet of a record that has a plan
pub sheet_is : (rec : List ℕ) (p : Plan) → Ok p ≡ plan_for (record_of rec) → sheet_of p ≡ sheet_for (record_of rec)
unfolding plan_for
sheet_is rec p e = go (record_of rec) refl e
  where
    go : (r : Answer Header) → record_of rec ≡ r → Ok p ≡ plan_for r → sheet_of p ≡ sheet_for r
    go (Ok h) read e = let plan : p ≡ plan_of h = cc in rw plan (sheet_holds h (accepted_sound rec h read))
    go (Err f) read e = absurd cc

-- the sheet of a record that was turned away
pub sheet_refused : (r : Answer Header) (f : ℕ) → Err f ≡ plan_for r → line (ascii "refused") (f ∷ []) ≡ sheet_for r
unfolding plan_for sheet_for
sheet_refused (Ok h) f e = absurd cc
sheet_refused (Err g) f e = let same : f ≡ g = cc in rw same
