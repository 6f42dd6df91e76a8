-- Records and plans: the sentences, proved.
use Rattle.std.specs.Prelude.{Ok, Err}
use Rattle.generator.specs.Answers.{Answer}
use mathlib.Core.Path.{◌≡◌, refl, sym, ap₂, ◌∙◌}
use mathlib.Core.List.{List}
use Prim.Native.Nat.{ℕ, zero, suc, ◌+◌, ◌*◌}
use native.Mathlib.Omega.{arith}
use Rattle.lists.proofs.Padding.{length_padded, padded_past}
use Rattle.field.specs.declared.Field.TheVariants.{Prime}
use Rattle.field.specs.Kinds.{prime_of}
use Rattle.generator.specs.declared.Header.{Header}
use Rattle.generator.specs.Records.{header_of, record_fault, record_of, judged, distance, low_reads, high_reads, Sound}
use Rattle.generator.specs.Shifts.{shifts, negative, firsts}
use Rattle.generator.specs.Generator.{base_word}
use Rattle.generator.proofs.Accepts.{faultless_sound}
use Rattle.generator.proofs.Claims.{ours}
use Rattle.generator.proofs.Shifts.{shifts_length, firsts_length}
use Rattle.plan.specs.declared.Plan.{Plan}
use Rattle.plan.specs.Plans.{plan_of, plan_for, PlanSays}
use Rattle.plan.proofs.Plans.{shift_in, first_in, entry_read, length_base}
use Rattle.balanced_c.proofs.Plans.{refused}
use Rattle.demands.specs.Judging.{Judged}
use Rattle.demands.specs.Numbers.{record_numbers}
use Rattle.demands.specs.Plans.{PlanHolds, Plans}
use Rattle.demands.proofs.Judging.{call_judged, by_answer}
use Rattle.demands.proofs.RecordNumbers.{record_tells}

holds : (h : Header) → Sound h → PlanHolds h (plan_of h)
unfolding plan_of distance low_reads high_reads negative
holds h s =
    let shifts_long = shifts_length h.n h.k s.some s.fits in
    let firsts_long = firsts_length h.n h.k s.some s.fits in
    record {
      n = refl;
      k = refl;
      d = refl;
      low = refl;
      high = refl;
      places = (
        length_padded 255 (shifts h) (omega (arith, shifts_long, s.fits, s.byte)),
        length_padded 255 (firsts h) (omega (arith, firsts_long, s.fits, s.byte)),
        length_padded 255 (base_word h) (omega (arith, length_base h, s.byte)),
      );
      shift = shift_in h s;
      first = λ r row. first_in h s r row ∙ (ours h s).firsts_negative r row ∙ rw (shift_in h s r row);
      entries = λ r j row node. sym (entry_read h s r j row node);
      beyond = λ i. (
        λ high. (padded_past 255 (shifts h) i (omega (arith, shifts_long)), padded_past 255 (firsts h) i (omega (arith, firsts_long))),
        λ high. padded_past 255 (base_word h) i (omega (arith, length_base h)),
      );
    }

accepted : (rec : List ℕ) (r : Answer Plan) → PlanSays rec r → record_fault rec ≡ 0 → (p : Plan) × (r ≡ Ok p) × PlanHolds (header_of rec) p
unfolding record_of judged plan_for
accepted rec r says none =
    let h = header_of rec in
    (plan_of h, says.plan ∙ rw none refl, holds h (faultless_sound rec none))

-- a record that meets a number has it for its answer
met : (rec : List ℕ) → (record_fault rec ≡ 0 → ⊥) → plan_for (record_of rec) ≡ Err (record_fault rec)
unfolding record_of judged plan_for
met rec = go (record_fault rec)
  where
    go : (f : ℕ) → (f ≡ 0 → ⊥) → plan_for (judged f (header_of rec)) ≡ Err f
    go zero some = absurd (some refl)
    go (suc f) some = refl

number : (rec : List ℕ) (r : Answer Plan) → PlanSays rec r → Judged (record_numbers rec) (λ f. r ≡ Err f) (Unit {0})
number rec r says = call_judged (record_fault rec) (record_tells rec) (by_answer Err says.plan (refused rec) (met rec)) (λ some. tt)

-- two bytes as a number
pair : (high low : ℕ) → high * 256 + low ≡ 256 * high + low
pair high low = omega arith

abbrev prime_header : ℕ → ℕ → ℕ → ℕ → Header
prime_header n k p root = record { field = Prime (prime_of p); root = root; n = n; k = k }

pub plans : Plans
unfolding header_of
plans =
    record {
      kind_1 = λ p root n k. refl;
      kind_2 = λ root n k. refl;
      kind_3 = λ p q root a n k. ap₂ (prime_header n k) (pair p q) (pair root a);
      accepted = accepted;
      number = number;
    }
