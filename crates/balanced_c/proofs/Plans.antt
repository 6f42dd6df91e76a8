-- From a plan to what `balanced_plan` promises.
use Rattle.std.specs.Prelude.{Ok, Err}
use Rattle.generator.specs.Answers.{Answer}
use mathlib.Core.Path.{◌≡◌, refl, sym, ap, ◌∙◌}
use mathlib.Core.Bool.{Bool, true, false, ◌&&◌}
use mathlib.Core.List.{List}
use Prim.Native.Nat.{ℕ, zero, suc}
use lib.Dec.{eqb}
use lib.ListN.{length}
use borrow.Author.Tests.{eqb-true, not-false}
use Rattle.std.proofs.lemmas.Bool.{and_parts}
use Rattle.generator.specs.Records.{record_of, record_fault, header_of, judged}
use Rattle.plan.specs.declared.Plan.{Plan}
use Rattle.plan.specs.Plans.{plan_of, plan_for, PlanSays}
use Rattle.refusals.specs.Faults.{fault_of}
use Rattle.refusals.proofs.Order.{first_given}
use Rattle.blocks.proofs.Refused.{refused_value}
use Rattle.balanced_c.specs.Calls.{plan_room_bad, plan_room_fault, numbers_of, PlanGives}

-- number 8 is not met
pub lengths : (numbers shifts firsts base : ℕ) → plan_room_bad numbers shifts firsts base ≡ false → (numbers ≡ 5) × (shifts ≡ 255) × (firsts ≡ 255) × (base ≡ 255)
lengths numbers shifts firsts base e =
    let all : (eqb numbers 5 && (eqb shifts 255 && (eqb firsts 255 && eqb base 255))) ≡ true = not-false _ e in
    let three : (eqb shifts 255 && (eqb firsts 255 && eqb base 255)) ≡ true = (and_parts (eqb numbers 5) _ all).1 in
    let two : (eqb firsts 255 && eqb base 255) ≡ true = (and_parts (eqb shifts 255) _ three).1 in (
      eqb-true numbers 5 (and_parts _ _ all).0,
      eqb-true shifts 255 (and_parts _ _ three).0,
      eqb-true firsts 255 (and_parts _ (eqb base 255) two).0,
      eqb-true base 255 (and_parts (eqb firsts 255) _ two).1,
    )

-- a record that gives no plan has the number of the answer, and one that gives a plan has none
pub refused : (rec : List ℕ) (g : ℕ) → Err g ≡ plan_for (record_of rec) → (g ≡ record_fault rec) × (g ≡ 0 → ⊥)
unfolding record_of judged plan_for
refused rec g e = go (record_fault rec) refl
  where
    go : (f : ℕ) → record_fault rec ≡ f → (g ≡ record_fault rec) × (g ≡ 0 → ⊥)
    go zero q = let w : Err g ≡ plan_for (judged zero (header_of rec)) = rw q at e in absurd cc
    go (suc f) q =
        let w : Err g ≡ plan_for (judged (suc f) (header_of rec)) = rw q at e in
        let same : g ≡ suc f = cc in
        (same ∙ sym q, λ z. absurd cc)

given : (rec : List ℕ) (p : Plan) → Ok p ≡ plan_for (record_of rec) → (record_fault rec ≡ 0) × (p ≡ plan_of (header_of rec))
unfolding record_of judged plan_for
given rec p e = go (record_fault rec) refl
  where
    go : (f : ℕ) → record_fault rec ≡ f → (record_fault rec ≡ 0) × (p ≡ plan_of (header_of rec))
    go zero q =
        let w : Ok p ≡ plan_for (judged zero (header_of rec)) = rw q at e in
        (q, cc)
    go (suc f) q = let w : Ok p ≡ plan_for (judged (suc f) (header_of rec)) = rw q at e in absurd cc

module _ (rec numbers shifts firsts base : List ℕ) where
  abbrev bad : Bool
  bad = plan_room_bad (length numbers) (length shifts) (length firsts) (length base)

  -- beside a number nothing is written
  by_number : (r : ℕ) (p : Answer Plan) → PlanSays rec p → r ≡ fault_of rec (λ h. plan_room_fault (length numbers) (length shifts) (length firsts) (length base)) → (r ≡ 0 → ⊥) → PlanGives rec numbers shifts firsts base numbers shifts firsts base r
  by_number r p says is some =
      record {
        number = is;
        numbers_are = sym (refused_value r _ numbers some);
        shifts_are = sym (refused_value r _ shifts some);
        firsts_are = sym (refused_value r _ firsts some);
        base_is = sym (refused_value r _ base some);
        claims = says.claims;
      }

  pub plan_refused : (g : ℕ) → PlanSays rec (Err g) → PlanGives rec numbers shifts firsts base numbers shifts firsts base g
  unfolding fault_of
  plan_refused g says =
      let (same, some) = refused rec g says.plan in
      by_number g _ says (same ∙ sym (first_given (record_fault rec) _ (λ z. some (same ∙ z)))) some

  pub room_refused : (p : Plan) → PlanSays rec (Ok p) → bad ≡ true → PlanGives rec numbers shifts firsts base numbers shifts firsts base 8
  unfolding fault_of plan_room_fault
  room_refused p says met =
      let none = (given rec p says.plan).0 in
      by_number 8 _ says (rw (none, met) refl) (λ z. absurd cc)

  pub plan_given : (p : Plan) → PlanSays rec (Ok p) → bad ≡ false → PlanGives rec numbers shifts firsts base (numbers_of p) p.shifts p.firsts p.base 0
  unfolding fault_of plan_room_fault
  plan_given p says fails =
      let (none, same) = given rec p says.plan in
      record {
        number = rw (none, fails) refl;
        numbers_are = ap numbers_of same;
        shifts_are = ap (λ (q : Plan). q.shifts) same;
        firsts_are = ap (λ (q : Plan). q.firsts) same;
        base_is = ap (λ (q : Plan). q.base) same;
        claims = says.claims;
      }
