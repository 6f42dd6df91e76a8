-- Repair by traces, from what its calls promise.
use Rattle.std.specs.Prelude.{Ok, Err}
use Rattle.generator.specs.Answers.{Answer}
use mathlib.Core.Path.{◌≡◌, refl, sym, ap, subst, ◌∙◌}
use mathlib.Core.Logic.{◌↔◌, ◌⊎◌}
use mathlib.Core.Bool.{Bool, true, false, ◌||◌, not}
use mathlib.Core.List.{List, [], ◌∷◌, ◌++◌}
use Prim.Native.Nat.{ℕ, ◌+◌, ◌-◌, ◌*◌, ◌/◌, ◌%◌, ◌^◌, ◌≤◌, ◌<◌}
use native.Mathlib.Omega.{arith}
use borrow.Author.Tests.{ne_eqb, eqb-false, ltb-true, lt-ltb}
use lib.Dec.{eqb, ltb}
use lib.ListN.{length, get_or}
use Rattle.lists.specs.Numbers.{is_in}
use Rattle.lists.proofs.Cases.{when_zero}
use Rattle.lists.proofs.Numbers.{is_in_place, place_is_in}
use Rattle.lists.proofs.Rows.{rows_ext}
use Rattle.layout.specs.Width.{bytes_of}
use Rattle.generator.specs.declared.Header.{Header}
use Rattle.generator.specs.Records.{header_of, modulus_of, width}
use Rattle.generator.proofs.Answered.{done_is, value_is}
use Rattle.refusals.specs.Conditions.{lanes_bad, length_bad, number_bad, nodes_bad, twice_bad}
use Rattle.refusals.specs.Faults.{fault_of}
use Rattle.refusals.proofs.OnRecord.{none_met}
use Rattle.blocks.specs.Blocks.{share_of}
use Rattle.encode.specs.Promise.{EncodeSays}
use Rattle.traces.specs.Repairs.{bits, spare, sends, senders}
use Rattle.traces.proofs.Claims.{repairable, no_repair, enough, least, sender_below, bytes_repair, trace_laws}
use Rattle.repair_bound.proofs.Bound.{repair_bound}
use Rattle.repair_bound.proofs.Prices.{trace_price}
use Rattle.repair.specs.declared.RepairPlan.{RepairPlan}
use Rattle.repair.specs.Packing.{plane_size, packed_size}
use Rattle.repair.specs.Sent.{sent, repaired_share}
use Rattle.repair.specs.Inner.Rows.{sent_all}
use Rattle.repair.specs.Promise.{traces_bad, target_fault, repair_bits_fault, repair_share_fault, repair_plan_fault, RepairBitsSays, RepairShareSays, RepairPlanSays}
use Rattle.repair.proofs.Accepts.{bits_accepts, share_accepts}
use Rattle.repair.proofs.Sending.{length_sent, sent_bit, repaired_sent}
use Rattle.balanced_c.specs.Repairs.{RepairPlanGives, RepairBitsGives, RepairShareGives}
use Rattle.demands.specs.Judging.{Judged, Returns}
use Rattle.demands.specs.Numbers.{record_numbers}
use Rattle.demands.specs.Calls.{read}
use Rattle.demands.specs.RoundTrips.{cut_of}
use Rattle.demands.specs.Repairs.{Listed, NoTraces, target_numbers, repair_bits_numbers, repair_share_numbers, repair_plan_numbers, PlanDone, BitsDone, AllSent, in_order, Repairs}
use Rattle.demands.proofs.Judging.{Tells, line, last, by_number}
use Rattle.demands.proofs.Conditions.{equal_test, other_test, or_test}
use Rattle.demands.proofs.Numbers.{lanes_means, length_means, number_means, nodes_mean, twice_means, own_after}
use Rattle.demands.proofs.Refusals.{by_outcome}
use Rattle.demands.proofs.RoundTrips.{encoded, cut_share, round_trips}

-- a number in a list
listed_means : (x : ℕ) (s : List ℕ) → (is_in x s ≡ true) ↔ Listed x s
listed_means x s = (λ e. let (i, inside, is) = is_in_place x s e in (i, inside, is), λ e. let (i, inside, is) = e in subst (λ (y : ℕ). is_in y s ≡ true) is (place_is_in s i inside))

-- a node that does not send
twice_not : {A : Type 0} (a : Bool) → (a ≡ true) ↔ A → (not (not a) ≡ true) ↔ A
twice_not true f = f
twice_not false f = f

sends_means : (target : ℕ) (missing : List ℕ) (j : ℕ) → (not (sends target missing j) ≡ true) ↔ ((j ≡ target) ⊎ Listed j missing)
unfolding sends is_in
sends_means target missing j = twice_not (eqb j target || is_in j missing) (or_test (eqb j target) (is_in j missing) (equal_test j target) (listed_means j missing))

module _ (h : Header) where
  few_means : (count : ℕ) → (ltb (h.n - h.k - count) 16 ≡ true) ↔ (h.n - h.k < 16 + count)
  few_means count = (λ e. omega (arith, ltb-true (h.n - h.k - count) 16 e), λ few. lt-ltb (h.n - h.k - count) 16 (omega arith))

  traces_mean : (count : ℕ) → (traces_bad h count ≡ true) ↔ NoTraces h count
  unfolding traces_bad
  traces_mean count = rw (no_repair h count) (or_test (not (eqb (modulus_of h) 0)) (ltb (h.n - h.k - count) 16) (other_test (modulus_of h) 0) (few_means count))

  target_tells : (target : ℕ) (missing : List ℕ) → Tells (target_numbers h target missing) (target_fault h target missing)
  unfolding target_fault
  target_tells target missing =
      line 8 (number_bad h.n target) refl (number_means _ _)
      (λ _. line 8 (nodes_bad h missing) refl (nodes_mean h missing)
      (λ _. line 8 (is_in target missing) refl (listed_means target missing)
      (λ _. line 9 (twice_bad missing) refl (twice_means h missing)
      (λ _. last 16 (traces_bad h (length missing)) (traces_mean (length missing))))))

  bits_tells : (l j target : ℕ) (missing : List ℕ) (share out : ℕ) → Tells (repair_bits_numbers h l j target missing share out) (repair_bits_fault h l j target missing share out)
  unfolding repair_bits_fault packed_size plane_size
  bits_tells l j target missing share out =
      line 6 (lanes_bad l) refl (lanes_means l)
      (λ _. line 7 (length_bad (l * width h) share) refl (length_means _ _)
      (λ _. line 7 (length_bad (bits h (length missing) * ((l + 7) / 8)) out) refl (length_means _ _)
      (λ _. line 8 (number_bad h.n j) refl (number_means _ _)
      (λ _. line 8 (not (sends target missing j)) refl (sends_means target missing j)
      (λ _. target_tells target missing)))))

  share_tells : (l target : ℕ) (missing : List ℕ) (rows out : ℕ) → Tells (repair_share_numbers h l target missing rows out) (repair_share_fault h l target missing rows out)
  unfolding repair_share_fault packed_size plane_size
  share_tells l target missing rows out =
      line 6 (lanes_bad l) refl (lanes_means l)
      (λ _. line 7 (length_bad ((h.n - 1 - length missing) * (bits h (length missing) * ((l + 7) / 8))) rows) refl (length_means _ _)
      (λ _. line 7 (length_bad (l * width h) out) refl (length_means _ _)
      (λ _. target_tells target missing)))

  plan_tells : (count : ℕ) → Tells (repair_plan_numbers h count) (repair_plan_fault h count)
  unfolding repair_plan_fault
  plan_tells count = last 16 (traces_bad h count) (traces_mean count)

module _ (rec : List ℕ) where
  abbrev h : Header
  h = header_of rec

  -- the numbers of the calls, and of the functions for C
  module _ (l j target : ℕ) (missing share out out' : List ℕ) where
    bits_number : Tells (record_numbers rec ++ repair_bits_numbers h l j target missing (length share) (length out)) (fault_of rec (λ h. repair_bits_fault h l j target missing (length share) (length out)))
    bits_number = own_after rec _ (λ h. repair_bits_fault h l j target missing (length share) (length out)) refl (λ none. bits_tells h l j target missing (length share) (length out))

    bits_judged : (r : Answer (Unit {0})) → RepairBitsSays rec l j target missing share out out' r → Judged (record_numbers rec ++ repair_bits_numbers h l j target missing (length share) (length out)) (λ f. r ≡ Err f) (out' ≡ out)
    bits_judged r says = by_outcome _ bits_number says.promise.answered (λ some. rw (ne_eqb _ 0 some) at says.promise.written)

    bits_returns : (r : ℕ) → RepairBitsGives rec l j target missing share out out' r → Judged (record_numbers rec ++ repair_bits_numbers h l j target missing (length share) (length out)) (Returns r) (out' ≡ out)
    bits_returns r g = by_number g.number bits_number (λ some. rw (← g.number, ne_eqb r 0 some) at g.says.promise.written)

  module _ (l target : ℕ) (missing rows out out' : List ℕ) where
    share_number : Tells (record_numbers rec ++ repair_share_numbers h l target missing (length rows) (length out)) (fault_of rec (λ h. repair_share_fault h l target missing (length rows) (length out)))
    share_number = own_after rec _ (λ h. repair_share_fault h l target missing (length rows) (length out)) refl (λ none. share_tells h l target missing (length rows) (length out))

    share_judged : (r : Answer (Unit {0})) → RepairShareSays rec l target missing rows out out' r → Judged (record_numbers rec ++ repair_share_numbers h l target missing (length rows) (length out)) (λ f. r ≡ Err f) (out' ≡ out)
    share_judged r says = by_outcome _ share_number says.promise.answered (λ some. rw (ne_eqb _ 0 some) at says.promise.written)

    share_returns : (r : ℕ) → RepairShareGives rec l target missing rows out out' r → Judged (record_numbers rec ++ repair_share_numbers h l target missing (length rows) (length out)) (Returns r) (out' ≡ out)
    share_returns r g = by_number g.number share_number (λ some. rw (← g.number, ne_eqb r 0 some) at g.says.promise.written)

  module _ (count : ℕ) where
    plan_number : Tells (record_numbers rec ++ repair_plan_numbers h count) (fault_of rec (λ h. repair_plan_fault h count))
    plan_number = own_after rec _ (λ h. repair_plan_fault h count) refl (λ none. plan_tells h count)

    plan_judged : (r : Answer RepairPlan) → RepairPlanSays rec count r → Judged (record_numbers rec ++ repair_plan_numbers h count) (λ f. r ≡ Err f) (Unit {0})
    plan_judged r says = by_outcome _ plan_number says.promise.answered (λ some. tt)

    plan_returns : (b more b' more' r : ℕ) → RepairPlanGives rec count b more b' more' r → Judged (record_numbers rec ++ repair_plan_numbers h count) (Returns r) ((b' ≡ b) × (more' ≡ more))
    plan_returns b more b' more' r g = by_number g.number plan_number (λ some. (rw (ne_eqb r 0 some) at g.bits_are, rw (ne_eqb r 0 some) at g.spare_is))

    -- a plan that was given
    plan_some : repair_plan_fault h count ≡ 0 → bits h count ≡ 0 → ⊥
    unfolding repair_plan_fault traces_bad
    plan_some own = eqb-false _ 0 (when_zero (eqb (bits h count) 0) 16 own)

    plan_done : (b more : ℕ) → RepairPlanSays rec count (Ok (record { bits = b; spare = more })) → PlanDone h count b more
    unfolding spare
    plan_done b more says =
        let none = done_is (fault_of rec (λ h. repair_plan_fault h count)) _ says.promise.answered in
        let plan = value_is _ _ says.promise.answered in
        let same : b ≡ bits h count = ap (λ (p : RepairPlan). p.bits) plan in
        let rest : more ≡ spare h count = ap (λ (p : RepairPlan). p.spare) plan in
        let some = plan_some (none_met rec (λ h. repair_plan_fault h count) none).1 in
        let kind = (repairable h count some).kind in
        let (width, fits) = enough h kind count some in
        let uses : 2 ^ (8 - bits h count) + count + (h.n - h.k - count - 2 ^ (8 - bits h count)) ≡ h.n - h.k = omega arith in
        record { field = kind; bits = rw same width; uses = rw (same, rest) uses; least = rw same (least h kind count) }

  -- what a node wrote
  sends_done : (l j target : ℕ) (missing share out out' : List ℕ) → RepairBitsSays rec l j target missing share out out' (Ok tt) → BitsDone h l j target missing share out'
  unfolding packed_size plane_size
  sends_done l j target missing share out out' says =
      let none = done_is (fault_of rec (λ h. repair_bits_fault h l j target missing (length share) (length out))) _ says.promise.answered in
      let (sound, own) = none_met rec (λ h. repair_bits_fault h l j target missing (length share) (length out)) none in
      let is = bits_accepts h l j target missing (length share) (length out) own in
      let written : out' ≡ sent h target missing j share = rw none at says.promise.written in
      record {
        long = ap length written ∙ length_sent h target missing j share ∙ ap (λ (x : ℕ). bits h (length missing) * ((x + 7) / 8)) is.share_long;
        digits = λ t e inside low.
            ap (λ (s : List ℕ). get_or s (e * ((l + 7) / 8) + t / 8) 0 / 2 ^ (t % 8) % 2) written
            ∙ ap (λ (x : ℕ). get_or (sent h target missing j share) (e * ((x + 7) / 8) + t / 8) 0 / 2 ^ (t % 8) % 2) (sym is.share_long)
            ∙ sent_bit h target missing j share t e (omega (arith, is.share_long)) low;
      }

-- all nodes of one encoding, and the target
module _ (rec : List ℕ) (l : ℕ) (message out shares : List ℕ) (says : EncodeSays rec l message out shares (Ok tt)) (target : ℕ) (missing : List ℕ) (by : ℕ → List ℕ) (all : AllSent rec l target missing shares by) where
  abbrev hd : Header
  hd = header_of rec

  abbrev js : List ℕ
  js = senders hd target missing

  -- each wrote what is sent of its share of the message
  wrote : (i : ℕ) → 0 ≤ i → i < 0 + length js → by i ≡ sent hd target missing (get_or js i 0) (bytes_of (width hd) (share_of hd l (read hd message) (get_or js i 0)))
  wrote i _ inside =
      let j : ℕ = get_or js i 0 in
      let (o, done) = all i (omega arith) in
      let none = done_is (fault_of rec (λ h. repair_bits_fault h l j target missing (length (cut_of hd l (j ∷ []) shares)) (length o))) _ done.promise.answered in
      rw none at done.promise.written ∙ ap (sent hd target missing j) (cut_share (encoded rec l message out shares says) j (sender_below hd target missing i (omega arith)))

  repairs : (back back' : List ℕ) → RepairShareSays rec l target missing (in_order rec target missing by) back back' (Ok tt) → back' ≡ cut_of hd l (target ∷ []) shares
  unfolding sent_all
  repairs back back' done =
      let rows = in_order rec target missing by in
      let e = encoded rec l message out shares says in
      let none = done_is (fault_of rec (λ h. repair_share_fault h l target missing (length rows) (length back))) _ done.promise.answered in
      let (sound, own) = none_met rec (λ h. repair_share_fault h l target missing (length rows) (length back)) none in
      let r = (share_accepts hd l target missing (length rows) (length back) own).repairing in
      let held = e.buffer_is.symbol_rows in
      rw none at done.promise.written
      ∙ ap (repaired_share hd l target missing) (rows_ext by _ 0 (length js) wrote)
      ∙ repaired_sent hd (repairable hd (length missing) r.some).kind l target missing (read hd message) sound r held.long held.symbols
      ∙ sym (cut_share e target r.inside)

pub repairs_all : Repairs
repairs_all =
    record {
      bits_judged = bits_judged;
      share_judged = share_judged;
      plan_judged = plan_judged;
      bits_returns = bits_returns;
      share_returns = share_returns;
      plan_returns = plan_returns;
      plan = plan_done;
      sends = sends_done;
      repairs = λ rec l message out shares target missing by back back' says all done. repairs rec l message out shares says target missing by all back back' done;
      rebuilds = λ rec l message out shares target missing by back back' nodes other other' says all done rebuilt.
          repairs rec l message out shares says target missing by all back back' done ∙ sym (round_trips.rebuild rec l message out shares nodes target other other' says rebuilt);
      traces = trace_laws;
      bytes = bytes_repair;
      least = repair_bound;
      price = trace_price;
    }
