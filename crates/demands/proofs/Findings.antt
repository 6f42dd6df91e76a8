-- Which update it was: the sentences, proved.
use Rattle.std.specs.Prelude.{Ok, Err}
use Rattle.generator.specs.Answers.{Answer}
use mathlib.Core.Path.{◌≡◌, refl, sym, ap, ◌∙◌}
use mathlib.Core.Logic.{◌≢◌}
use mathlib.Core.Bool.{true}
use mathlib.Core.List.{List}
use Prim.Native.Nat.{ℕ, ◌<◌}
use native.Mathlib.Omega.{arith}
use Rattle.lists.specs.Numbers.{all_below}
use Rattle.lists.proofs.Cases.{never}
use Rattle.layout.specs.Layout.{lane_of, share_layout}
use Rattle.layout.proofs.Buffers.{length_lane}
use Rattle.layout.proofs.Places.{share_lawful}
use Rattle.field.specs.Fields.{add, sub}
use Rattle.field.proofs.Arithmetic.{zero_below}
use Rattle.field.proofs.BothKinds.{arithmetic}
use Rattle.generator.specs.declared.Header.{Header}
use Rattle.generator.specs.Records.{header_of, modulus_of, size, Sound}
use Rattle.generator.proofs.Accepts.{faultless_sound}
use Rattle.generator.proofs.Answered.{done_is, value_is}
use Rattle.refusals.specs.Faults.{fault_of}
use Rattle.refusals.proofs.OnRecord.{none_met}
use Rattle.blocks.specs.Blocks.{updated}
use Rattle.find_update.specs.declared.Finding.{Finding}
use Rattle.find_update.specs.declared.Finding.TheVariants.{Unchanged, Added, NoSingleUpdate}
use Rattle.refusals.specs.Accepted.{IsLane}
use Rattle.find_update.specs.Finding.{finding_of, Finds}
use Rattle.find_update.specs.Promise.{find_fault, FindSays}
use Rattle.find_update.specs.Numbers.{case_of, found_symbol, found_amount}
use Rattle.find_update.proofs.Accepts.{find_accepts}
use Rattle.find_update.proofs.Applied.{update_adds, finds_again}
use Rattle.find_update.proofs.Meaning.{finds}
use Rattle.demands.specs.Calls.{read}
use Rattle.demands.specs.Findings.{InNumbers, Findings}

call : (rec before after : List ℕ) (r : Answer Finding) → FindSays rec before after r → ((g : ℕ) → r ≡ Err g → ⊥) → (r ≡ Ok (finding_of (header_of rec) (read (header_of rec) before) (read (header_of rec) after))) × Finds (header_of rec) (read (header_of rec) before) (read (header_of rec) after)
call rec before after (Err g) says never = absurd (never g refl)
call rec before after (Ok r) says never =
    let h = header_of rec in
    let none = done_is (fault_of rec (λ h. find_fault h before after)) _ says.found.promise.answered in
    let (sound, own) = none_met rec (λ h. find_fault h before after) none in
    let lanes = find_accepts h before after own in
    (ap Ok (value_is _ _ says.found.promise.answered), finds h sound (read h before) (read h after) lanes.first lanes.second)

-- a difference that is zero is of equal symbols
same_symbols : (h : Header) → Sound h → (a b : ℕ) → a < size h → b < size h → sub (modulus_of h) a b ≡ 0 → a ≡ b
same_symbols h s a b ha hb e =
    let laws = arithmetic (modulus_of h) s.field in
    sym (laws.sub_add a b ha hb) ∙ ap (λ (x : ℕ). add (modulus_of h) x b) e ∙ laws.add_comm 0 b (zero_below laws) hb ∙ laws.add-zero b hb

again : (h : Header) → Sound h → (l r t old new : ℕ) (s : List ℕ) → all_below (size h) (lane_of share_layout h.n l t s) ≡ true → r < h.k → t < l → old < size h → new < size h → (new ≡ old → ⊥) → finding_of h (lane_of share_layout h.n l t s) (lane_of share_layout h.n l t (updated share_layout h l r t old new s)) ≡ Added r (sub (modulus_of h) new old)
again h sound l r t old new s symbols row inside ho hn never =
    let us = lane_of share_layout h.n l t s in
    let lane : IsLane h us = record { long = length_lane share_layout h.n l t s; symbols = symbols } in
    let laws = arithmetic (modulus_of h) sound.field in
    ap (finding_of h us) (update_adds share_lawful h l r t old new s inside)
    ∙ finds_again h sound us lane r (sub (modulus_of h) new old) row (laws.sub_below new old hn ho) (λ z. never (same_symbols h sound new old hn ho z))

pub in_numbers : (h : Header) (us vs : List ℕ) → Finds h us vs → let found = finding_of h us vs in InNumbers h us vs (case_of found) (found_symbol found) (found_amount found)
unfolding case_of found_symbol found_amount
in_numbers h us vs finds = go (finding_of h us vs) refl
  where
    go : (found : Finding) → finding_of h us vs ≡ found → InNumbers h us vs (case_of found) (found_symbol found) (found_amount found)
    go Unchanged is =
        let same : us ≡ vs = finds.unchanged.0 is in
        record {
          unchanged = (λ e. same, λ e. refl);
          one = (λ e. absurd (omega arith), λ e. absurd (e.0 same));
          none = (λ e. absurd (omega arith), λ e. absurd (e.0 same));
          update = λ e. absurd (omega arith);
          zeros = λ e. (refl, refl);
        }
    go (Added r x) is =
        let (row, low, leads) = finds.there r x is in
        let apart : us ≢ vs = λ same. let w : Added r x ≡ Unchanged = sym is ∙ finds.unchanged.1 same in never cc in
        record {
          unchanged = (λ e. absurd (omega arith), λ e. absurd (apart e));
          one = (λ e. (apart, (r, x, row, low, leads)), λ e. refl);
          none = (λ e. absurd (omega arith), λ e. absurd (e.1 r x row low leads));
          update = λ e. (row, low, leads);
          zeros = λ e. absurd (e refl);
        }
    go NoSingleUpdate is =
        let (apart, never) = finds.none.0 is in
        record {
          unchanged = (λ e. absurd (omega arith), λ e. absurd (apart e));
          one = (λ e. absurd (omega arith), λ e. let (differ, (r, x, row, low, leads)) = e in absurd (never r x row low leads));
          none = (λ e. (apart, never), λ e. refl);
          update = λ e. absurd (omega arith);
          zeros = λ e. (refl, refl);
        }

pub findings : Findings
findings =
    record {
      accepted = λ rec none. finds (header_of rec) (faultless_sound rec none);
      numbers = λ rec none us vs before after. in_numbers (header_of rec) us vs (finds (header_of rec) (faultless_sound rec none) us vs before after);
      call = call;
      again = λ rec none l r t old new s. again (header_of rec) (faultless_sound rec none) l r t old new s;
    }
