-- Demand 1 of the interface for C, from what each function promises.
use Rattle.std.specs.Prelude.{◌≢◌}
use mathlib.Core.Path.{◌≡◌, refl, sym}
use mathlib.Core.Logic.{◌↔◌}
use mathlib.Core.Bool.{Bool, true, false, ◌&&◌, not}
use mathlib.Core.List.{List, ◌++◌}
use Prim.Native.Nat.{ℕ, ◌<◌}
use native.Mathlib.Omega.{arith}
use borrow.Author.Tests.{ne_eqb}
use lib.Dec.{eqb}
use lib.ListN.{length}
use Rattle.lists.specs.Choice.{first_of, when}
use Rattle.lists.proofs.Cases.{first_zero}
use Rattle.layout.specs.Layout.{Arrangement, share_layout}
use Rattle.generator.specs.declared.Header.{Header}
use Rattle.generator.specs.Records.{header_of, record_fault, record_of, judged}
use Rattle.generator.proofs.Accepts.{faultless_sound}
use Rattle.rearrange.specs.Promise.{rearrange_fault}
use Rattle.differences.specs.Promise.{differences_fault, add_fault}
use Rattle.belongs.specs.Promise.{belongs_fault}
use Rattle.belongs.proofs.Accepts.{belongs_accepts}
use Rattle.recover.specs.Promise.{recover_fault, rebuild_fault}
use Rattle.update.specs.Promise.{update_fault}
use Rattle.update_lanes.specs.Promise.{run_fault}
use Rattle.encode.specs.Promise.{encode_fault}
use Rattle.refusals.specs.Faults.{fault_of}
use Rattle.refusals.proofs.OnRecord.{none_met}
use Rattle.blocks.specs.Blocks.{first_wrong}
use Rattle.blocks.specs.Bytes.{wrong_lane}
use Rattle.blocks.proofs.Words.{wrong_most}
use Rattle.plan.specs.Plans.{plan_of, plan_for}
use Rattle.correct.specs.Promise.{correct_fault}
use Rattle.correct_listed.specs.Promise.{correct_listed_fault}
use Rattle.find_update.specs.Promise.{find_fault}
use Rattle.find_update.proofs.Accepts.{find_accepts}
use Rattle.find_update.proofs.Meaning.{finds}
use Rattle.mends.specs.Promise.{mends_fault}
use Rattle.weight_counts.specs.Weights.{weights_fault}
use Rattle.balanced_c.specs.Calls.{plan_room_fault, numbers_of, PlanGives, EncodeGives, UpdateGives, RecoverGives, RebuildGives, BelongsGives, RearrangeGives, WeightsGive}
use Rattle.balanced_c.specs.Corrections.{CorrectGives, CorrectListedGives}
use Rattle.balanced_c.specs.RowChanges.{DifferencesGives, AddGives, UpdateLanesGives}
use Rattle.balanced_c.specs.Lanes.{found_in, FindGives, MendsGive}
use Rattle.demands.specs.Calls.{read, AllWords, SmallestWrong}
use Rattle.demands.specs.Findings.{InNumbers}
use Rattle.demands.specs.Judging.{Judged, Returns}
use Rattle.demands.specs.Numbers.{record_numbers, encode_numbers, update_numbers, run_numbers, recover_numbers, rebuild_numbers, belongs_numbers, correct_numbers, correct_listed_numbers, rearrange_numbers, differences_numbers, add_numbers, find_numbers, mends_numbers, weights_numbers}
use Rattle.demands.specs.Interface.{plan_numbers, PlanWritten, Interface}
use Rattle.demands.proofs.Judging.{Tells, line, last, by_number}
use Rattle.demands.proofs.Conditions.{other_test}
use Rattle.demands.proofs.Calls.{rows_are}
use Rattle.demands.proofs.Coding.{code_demands}
use Rattle.demands.proofs.Findings.{in_numbers}
use Rattle.demands.proofs.Numbers.{own_after, encode_tells, update_tells, recover_tells, rebuild_tells, belongs_tells, correct_tells, correct_listed_tells, rearrange_tells, differences_tells, add_tells, find_tells, mends_tells, weights_tells}
use Rattle.demands.proofs.RunNumbers.{run_tells}

-- four lengths under one number
four_lengths : (a b c d : Bool) → when (not (a && (b && (c && d)))) 8 ≡ first_of (when (not a) 8) (first_of (when (not b) 8) (first_of (when (not c) 8) (when (not d) 8)))
four_lengths false b c d = refl
four_lengths true false c d = refl
four_lengths true true false d = refl
four_lengths true true true d = refl

module _ (rec : List ℕ) where
  abbrev h : Header
  h = header_of rec

  plan_tells : (numbers shifts firsts base : ℕ) → Tells (plan_numbers numbers shifts firsts base) (plan_room_fault numbers shifts firsts base)
  unfolding plan_room_fault
  plan_tells numbers shifts firsts base =
      rw (four_lengths (eqb numbers 5) (eqb shifts 255) (eqb firsts 255) (eqb base 255))
      (line 7 (not (eqb numbers 5)) refl (other_test _ _)
      (λ _. line 7 (not (eqb shifts 255)) refl (other_test _ _)
      (λ _. line 7 (not (eqb firsts 255)) refl (other_test _ _)
      (λ _. last 7 (not (eqb base 255)) (other_test _ _)))))

  plan : (numbers shifts firsts base numbers' shifts' firsts' base' : List ℕ) (r : ℕ) → PlanGives rec numbers shifts firsts base numbers' shifts' firsts' base' r → Judged (record_numbers rec ++ plan_numbers (length numbers) (length shifts) (length firsts) (length base)) (Returns r) ((numbers' ≡ numbers) × (shifts' ≡ shifts) × (firsts' ≡ firsts) × (base' ≡ base))
  plan numbers shifts firsts base numbers' shifts' firsts' base' r g =
      by_number g.number (own_after rec _ (λ h. plan_room_fault (length numbers) (length shifts) (length firsts) (length base)) refl (λ none. plan_tells (length numbers) (length shifts) (length firsts) (length base)))
      (λ some. let other = ne_eqb r 0 some in (rw other at g.numbers_are, rw other at g.shifts_are, rw other at g.firsts_are, rw other at g.base_is))

  plan_done : (numbers shifts firsts base numbers' shifts' firsts' base' : List ℕ) → PlanGives rec numbers shifts firsts base numbers' shifts' firsts' base' 0 → PlanWritten rec numbers' shifts' firsts' base'
  unfolding fault_of numbers_of record_of judged plan_for
  plan_done numbers shifts firsts base numbers' shifts' firsts' base' g =
      let none : record_fault rec ≡ 0 = (first_zero (record_fault rec) _ (sym g.number)).0 in
      record {
        plan = plan_of h;
        is_plan = record { plan = rw none refl; claims = g.claims };
        numbers_are = g.numbers_are;
        shifts_are = g.shifts_are;
        firsts_are = g.firsts_are;
        base_is = g.base_is;
      }

  module _ (l : ℕ) where
    encode : (message shares shares' : List ℕ) (r : ℕ) → EncodeGives rec l message shares shares' r → Judged (record_numbers rec ++ encode_numbers h l message (length shares)) (Returns r) (shares' ≡ shares)
    encode message shares shares' r g =
        by_number g.number (own_after rec _ (λ h. encode_fault h l (length shares) message) refl (λ none. encode_tells h l message (length shares)))
        (λ some. rw (← g.number, ne_eqb r 0 some) at g.says.promise.written)

    update : (symbol lane old new : ℕ) (shares : List ℕ) (altered : ℕ) (shares' : List ℕ) (altered' r : ℕ) → UpdateGives rec l symbol lane old new shares altered shares' altered' r → Judged (record_numbers rec ++ update_numbers h l symbol lane old new shares) (Returns r) ((shares' ≡ shares) × (altered' ≡ altered))
    update symbol lane old new shares altered shares' altered' r g =
        by_number g.number (own_after rec _ (λ h. update_fault share_layout h l symbol lane old new shares) refl (λ none. update_tells h (faultless_sound rec none) l symbol lane old new shares))
        (λ some. (rw (← g.number, ne_eqb r 0 some) at g.says.promise.written, rw (ne_eqb r 0 some) at g.altered_is))

    update_lanes : (symbol first : ℕ) (old new shares : List ℕ) (altered : ℕ) (shares' : List ℕ) (altered' r : ℕ) → UpdateLanesGives rec l symbol first old new shares altered shares' altered' r → Judged (record_numbers rec ++ run_numbers h l symbol first old new shares) (Returns r) ((shares' ≡ shares) × (altered' ≡ altered))
    update_lanes symbol first old new shares altered shares' altered' r g =
        by_number g.number (own_after rec _ (λ h. run_fault h l symbol first old new shares) refl (λ none. run_tells h (faultless_sound rec none) l symbol first old new shares))
        (λ some. (rw (← g.number, ne_eqb r 0 some) at g.says.promise.written, rw (ne_eqb r 0 some) at g.altered_is))

    module _ (nodes shares : List ℕ) where
      recover : (message message' : List ℕ) (r : ℕ) → RecoverGives rec l nodes shares message message' r → Judged (record_numbers rec ++ recover_numbers h l nodes shares (length message)) (Returns r) (message' ≡ message)
      recover message message' r g =
          by_number g.number (own_after rec _ (λ h. recover_fault h l nodes shares (length message)) refl (λ none. recover_tells h l nodes shares (length message)))
          (λ some. rw (← g.number, ne_eqb r 0 some) at g.says.promise.written)

      rebuild : (target : ℕ) (share share' : List ℕ) (r : ℕ) → RebuildGives rec l nodes shares target share share' r → Judged (record_numbers rec ++ rebuild_numbers h l nodes shares target (length share)) (Returns r) (share' ≡ share)
      rebuild target share share' r g =
          by_number g.number (own_after rec _ (λ h. rebuild_fault h l nodes shares target (length share)) refl (λ none. rebuild_tells h l nodes shares target (length share)))
          (λ some. rw (← g.number, ne_eqb r 0 some) at g.says.promise.written)

      correct_listed : (out wrong : List ℕ) (altered : ℕ) (out' wrong' : List ℕ) (altered' r : ℕ) → CorrectListedGives rec l nodes shares out wrong altered out' wrong' altered' r → Judged (record_numbers rec ++ correct_listed_numbers h l nodes shares (length out) (length wrong)) (Returns r) ((out' ≡ out) × (wrong' ≡ wrong) × (altered' ≡ altered))
      correct_listed out wrong altered out' wrong' altered' r g =
          by_number g.number (own_after rec _ (λ h. correct_listed_fault share_layout h l nodes shares (length out) (length wrong)) refl (λ none. correct_listed_tells h l nodes shares (length out) (length wrong) (faultless_sound rec none)))
          (λ some. (rw (← g.number, ne_eqb r 0 some) at g.says.promise.written, rw (← g.number, ne_eqb r 0 some) at g.says.promise.counted, rw (ne_eqb r 0 some) at g.altered_is))

    module _ (shares : List ℕ) where
      belongs : (first first' r : ℕ) → BelongsGives rec l shares first first' r → Judged (record_numbers rec ++ belongs_numbers h l shares) (Returns r) (first' ≡ first)
      belongs first first' r g =
          by_number g.number (own_after rec _ (λ h. belongs_fault h l shares) refl (λ none. belongs_tells h l shares))
          (λ some. rw (ne_eqb r 0 some) at g.first_is)

      belongs_done : (first first' : ℕ) → BelongsGives rec l shares first first' 0 → ((first' ≡ l) ↔ AllWords h l shares) × (first' ≢ l → SmallestWrong h l shares first')
      unfolding wrong_lane
      belongs_done first first' g =
          let (sound, own) = none_met rec (λ h. belongs_fault h l shares) (sym g.number) in
          let symbols = rows_are h h.n l (read h shares) (belongs_accepts h sound l shares own).symbol_rows in
          let code = code_demands h sound in
          let most = wrong_most share_layout h l (read h shares) in
          rw g.first_is (
            code.passes l (read h shares) symbols,
            λ other.
                let inside : first_wrong share_layout h l (read h shares) < l = omega (arith, most) in
                let (no_such_word, smaller) = code.names l (read h shares) symbols inside in
                record { lane = inside; no_such_word = no_such_word; smaller = smaller },
          )

      correct : (altered : ℕ) (shares' : List ℕ) (altered' r : ℕ) → CorrectGives rec l shares altered shares' altered' r → Judged (record_numbers rec ++ correct_numbers h l shares) (Returns r) ((shares' ≡ shares) × (altered' ≡ altered))
      correct altered shares' altered' r g =
          by_number g.number (own_after rec _ (λ h. correct_fault share_layout h l shares) refl (λ none. correct_tells h (faultless_sound rec none) l shares))
          (λ some. (rw (← g.number, ne_eqb r 0 some) at g.says.promise.written, rw (ne_eqb r 0 some) at g.altered_is))

    rearrange : {y z : Arrangement} (rows : Header → ℕ) (source out out' : List ℕ) (r : ℕ) → RearrangeGives y z rows rec l source out out' r → Judged (record_numbers rec ++ rearrange_numbers h (rows h) l (length source) (length out)) (Returns r) (out' ≡ out)
    rearrange rows source out out' r g =
        by_number g.number (own_after rec _ (λ h. rearrange_fault h (rows h) l (length source) (length out)) refl (λ none. rearrange_tells h l (rows h) (length source) (length out)))
        (λ some. rw (← g.number, ne_eqb r 0 some) at g.says.promise.written)

    differences : (symbol : ℕ) (old new out out' : List ℕ) (r : ℕ) → DifferencesGives rec l symbol old new out out' r → Judged (record_numbers rec ++ differences_numbers h l symbol old new (length out)) (Returns r) (out' ≡ out)
    differences symbol old new out out' r g =
        by_number g.number (own_after rec _ (λ h. differences_fault h l symbol old new (length out)) refl (λ none. differences_tells h l symbol old new (length out)))
        (λ some. rw (← g.number, ne_eqb r 0 some) at g.says.promise.written)

    add_share : (difference share share' : List ℕ) (r : ℕ) → AddGives rec l difference share share' r → Judged (record_numbers rec ++ add_numbers h l difference share) (Returns r) (share' ≡ share)
    add_share difference share share' r g =
        by_number g.number (own_after rec _ (λ h. add_fault h l difference share) refl (λ none. add_tells h l difference share))
        (λ some. rw (← g.number, ne_eqb r 0 some) at g.says.promise.written)

  find : (before after : List ℕ) (answer symbol amount answer' symbol' amount' r : ℕ) → FindGives rec before after answer symbol amount answer' symbol' amount' r → Judged (record_numbers rec ++ find_numbers h before after) (Returns r) ((answer' ≡ answer) × (symbol' ≡ symbol) × (amount' ≡ amount))
  find before after answer symbol amount answer' symbol' amount' r g =
      by_number g.number (own_after rec _ (λ h. find_fault h before after) refl (λ none. find_tells h before after))
      (λ some. let other = ne_eqb r 0 some in (rw other at g.found_is, rw other at g.symbol_is, rw other at g.amount_is))

  find_done : (before after : List ℕ) (answer symbol amount answer' symbol' amount' : ℕ) → FindGives rec before after answer symbol amount answer' symbol' amount' 0 → InNumbers h (read h before) (read h after) answer' symbol' amount'
  unfolding found_in
  find_done before after answer symbol amount answer' symbol' amount' g =
      let (sound, own) = none_met rec (λ h. find_fault h before after) (sym g.number) in
      let lanes = find_accepts h before after own in
      rw (g.found_is, g.symbol_is, g.amount_is) (in_numbers h (read h before) (read h after) (finds h sound (read h before) (read h after) lanes.first lanes.second))

  mends : (lane nodes symbols : List ℕ) (count : ℕ) (nodes' symbols' : List ℕ) (count' r : ℕ) → MendsGive rec lane nodes symbols count nodes' symbols' count' r → Judged (record_numbers rec ++ mends_numbers h lane (length nodes) (length symbols)) (Returns r) ((nodes' ≡ nodes) × (symbols' ≡ symbols) × (count' ≡ count))
  mends lane nodes symbols count nodes' symbols' count' r g =
      by_number g.number (own_after rec _ (λ h. mends_fault h lane (length nodes) (length symbols)) refl (λ none. mends_tells h lane (length nodes) (length symbols)))
      (λ some. let other = ne_eqb r 0 some in (rw other at g.nodes_are, rw other at g.symbols_are, rw other at g.count_is))

  weights : (counts counts' : List ℕ) (r : ℕ) → WeightsGive rec counts counts' r → Judged (record_numbers rec ++ weights_numbers h (length counts)) (Returns r) (counts' ≡ counts)
  weights counts counts' r g =
      by_number g.number (own_after rec _ (λ h. weights_fault h (length counts)) refl (λ none. weights_tells h (length counts)))
      (λ some. rw (← g.number, ne_eqb r 0 some) at g.says.counted.promise.written)

pub interface : Interface
interface =
    record {
      plan = plan;
      plan_done = plan_done;
      encode = encode;
      update = update;
      update_lanes = update_lanes;
      recover = recover;
      rebuild = rebuild;
      belongs = belongs;
      belongs_done = belongs_done;
      correct = correct;
      correct_listed = correct_listed;
      into_lanes = λ rec l. rearrange rec l (λ h. h.n);
      into_nodes = λ rec l. rearrange rec l (λ h. h.n);
      listed_to_lanes = λ rec l. rearrange rec l (λ h. h.k);
      listed_to_nodes = λ rec l. rearrange rec l (λ h. h.k);
      differences = differences;
      add_share = add_share;
      find = find;
      find_done = find_done;
      mends = mends;
      weights = weights;
    }
