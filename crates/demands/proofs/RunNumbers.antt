-- The numbers of an update of a run of lanes: the lowest of its table that is met.
use mathlib.Core.Path.{◌≡◌, refl, sym, ap, subst, ◌∙◌}
use mathlib.Core.Logic.{◌↔◌, ◌⊎◌, inl, inr, ⊎_elim, by_cases}
use mathlib.Core.Bool.{true}
use mathlib.Core.List.{List}
use Prim.Native.Nat.{ℕ, ◌+◌, ◌*◌, ◌≤◌, ◌<◌}
use native.Mathlib.Decide.{ℕ_discrete}
use native.Mathlib.Omega.{arith}
use lib.Dec.{ltb}
use lib.ListN.{length, get_or}
use Rattle.lists.specs.Numbers.{all_below}
use Rattle.lists.proofs.Cases.{when_zero}
use Rattle.layout.specs.Layout.{lane_of, share_layout}
use Rattle.layout.specs.Width.{symbols_of}
use Rattle.layout.proofs.Buffers.{length_lane}
use Rattle.generator.specs.declared.Header.{Header}
use Rattle.generator.specs.Records.{size, width, Sound}
use Rattle.generator.specs.Codewords.{encoding}
use Rattle.generator.specs.Messages.{message_of}
use Rattle.generator.specs.Claims.{is_message, Codeword}
use Rattle.generator.proofs.Messages.{encoding_injective, word_message}
use Rattle.generator.proofs.Words.{encoding_word}
use Rattle.refusals.specs.Conditions.{lanes_bad, length_bad, number_bad, symbols_bad, lane_bad, no_word, other_symbol}
use Rattle.refusals.specs.Faults.{stale_fault}
use Rattle.refusals.proofs.NotMet.{word_good, held_good}
use Rattle.refusals.proofs.Accepts.{not_met}
use Rattle.correct.specs.Meaning.{lane_in}
use Rattle.update_lanes.specs.Runs.{run_length, first_number, run_bad, lane_fault}
use Rattle.update_lanes.specs.Promise.{run_input_fault, run_fault}
use Rattle.update_lanes.specs.Inner.Ready.{UpdatableRun}
use Rattle.update_lanes.proofs.Accepts.{run_input_accepts}
use Rattle.update_lanes.proofs.Searches.{first_met, first_reached, some_passes, passing_some}
use Rattle.demands.specs.Judging.{Met}
use Rattle.demands.specs.Calls.{read}
use Rattle.demands.specs.Numbers.{SomeFrom, stale_numbers, MayChange, LanesBefore, run_input_numbers, run_stale_numbers, run_numbers}
use Rattle.demands.proofs.Judging.{Tells, line, last, then}
use Rattle.demands.proofs.Conditions.{less_test}
use Rattle.demands.proofs.Numbers.{lanes_means, length_means, number_means, symbols_mean, lane_means}
use Rattle.demands.proofs.Updates.{stale_tells}

-- one lane of symbols: it meets no number just if it may change
module _ (h : Header) (s : Sound h) (ws : List ℕ) (long : length ws ≡ h.n) (below : all_below (size h) ws ≡ true) (r old : ℕ) where
  pub fresh_means : (stale_fault h ws r old ≡ 0) → MayChange h ws r old
  unfolding stale_fault
  fresh_means e =
      let (twelve, thirteen) = not_met (no_word h ws) 11 _ e in
      let (message, at) = word_message h s ws long below (word_good h ws twelve) in
      (message_of h ws, message, at, held_good h ws r old (when_zero (other_symbol h ws r old) 12 thirteen))

  changes_fresh : MayChange h ws r old → stale_fault h ws r old ≡ 0
  changes_fresh may =
      let (ms, m, at, holds) = may in
      by_cases (ℕ_discrete (stale_fault h ws r old) 0) (λ none. none)
      (λ some.
      ⊎_elim (λ x. absurd (x.1 (subst (Codeword h) at (encoding_word h s ms m))))
      (⊎_elim
      (λ x.
      let (us, u, there, other) = x.1 in
      absurd (other (ap (λ (y : List ℕ). get_or y r 0) (encoding_injective h s us ms u m (there ∙ sym at)) ∙ holds)))
      (λ x. absurd x))
      ((stale_tells h s ws long below r old).met some))

module _ (h : Header) (s : Sound h) (l r first : ℕ) (old new shares : List ℕ) where
  abbrev m : ℕ
  m = run_length h old

  abbrev lane : ℕ → List ℕ
  lane i = lane_in h l shares (first + i)

  -- number 11 of the lanes
  run_means : (run_bad h l first m shares ≡ true) ↔ ((i : ℕ) × (i < m) × SomeFrom (size h) (lane i))
  run_means = (
    λ e. let (i, low, high, bad) = some_passes (λ i. lane_bad share_layout h l (first + i) shares) m 0 e in (i, omega (arith, high), (lane_means h l (first + i) shares).0 bad),
    λ e. let (i, inside, some) = e in passing_some (λ i. lane_bad share_layout h l (first + i) shares) m 0 i (omega arith) (omega arith) ((lane_means h l (first + i) shares).1 some),
  )

  given_tells : Tells (run_input_numbers h l r first old new shares) (run_input_fault h l r first old new shares)
  unfolding run_input_fault
  given_tells =
      line 6 (lanes_bad l) refl (lanes_means l)
      (λ _. line 7 (length_bad (h.n * l * width h) (length shares)) refl (length_means _ _)
      (λ _. line 7 (length_bad (m * width h) (length old)) refl (length_means _ _)
      (λ _. line 7 (length_bad (m * width h) (length new)) refl (length_means _ _)
      (λ _. line 8 (number_bad h.k r) refl (number_means _ _)
      (λ _. line 8 (ltb l (first + m)) refl (less_test l (first + m))
      (λ _. line 10 (symbols_bad h old) refl (symbols_mean h old)
      (λ _. line 10 (symbols_bad h new) refl (symbols_mean h new)
      (λ _. last 10 (run_bad h l first m shares) run_means))))))))

  -- the lanes where what is given meets no number
  module _ (ready : UpdatableRun h l r first old new shares) where
    abbrev fault : ℕ → ℕ
    fault = lane_fault h l r first (symbols_of (width h) old) (symbols_of (width h) shares)

    abbrev held_old : ℕ → ℕ
    held_old i = get_or (read h old) i 0

    long : (i : ℕ) → length (lane i) ≡ h.n
    long i = length_lane share_layout h.n l (first + i) (symbols_of (width h) shares)

    lane_tells : (i : ℕ) → i < m → Tells (stale_numbers h (lane i) r (held_old i)) (fault i)
    lane_tells i inside = stale_tells h s (lane i) (long i) (ready.lanes i inside) r (held_old i)

    before_means : (i : ℕ) → i < m → ((x : ℕ) → 0 ≤ x → x < i → fault x ≡ 0) → LanesBefore h l r first old shares i
    before_means i inside none x lower = fresh_means h s (lane x) (long x) (ready.lanes x (omega arith)) r (held_old x) (none x (omega arith) lower)

    none_before : (i : ℕ) → i < m → LanesBefore h l r first old shares i → (x : ℕ) → 0 ≤ x → x < i → fault x ≡ 0
    none_before i inside may x low lower = changes_fresh h s (lane x) (long x) (ready.lanes x (omega arith)) r (held_old x) (may x lower)

    -- a lane that meets a number after others that do not
    lane_decides : (i : ℕ) → i < m → LanesBefore h l r first old shares i → (f : ℕ) → Met (stale_numbers h (lane i) r (held_old i)) f → (0 < first_number m 0 fault) × (first_number m 0 fault ≤ f)
    lane_decides i inside may f met =
        let (some, most) = (lane_tells i inside).least f met in
        let is : first_number m 0 fault ≡ fault i = first_reached fault m 0 i (omega arith) (omega arith) (none_before i inside may) (λ z. omega arith) in
        rw is (some, most)

    lanes_tell : Tells (run_stale_numbers h l r first old shares) (first_number m 0 fault)
    lanes_tell =
        record {
          met = λ some.
              let (i, low, high, none, is) = first_met fault m 0 some in
              let inside : i < m = omega (arith, high) in
              let may = before_means i inside none in
              ⊎_elim (λ x. inl (x.0 ∙ sym is, (i, inside, may, x.1))) (⊎_elim (λ x. inr (inl (x.0 ∙ sym is, (i, inside, may, x.1)))) (λ x. absurd x))
              ((lane_tells i inside).met (λ z. some (is ∙ z)));
          least = λ f met.
              ⊎_elim (λ x. let (i, inside, may, none) = x.1 in lane_decides i inside may f (inl (x.0, none)))
              (⊎_elim (λ x. let (i, inside, may, other) = x.1 in lane_decides i inside may f (inr (inl (x.0, other)))) (λ x. absurd x)) met;
        }

  pub run_tells : Tells (run_numbers h l r first old new shares) (run_fault h l r first old new shares)
  unfolding run_fault
  run_tells =
      then 11 (run_input_numbers h l r first old new shares) (run_stale_numbers h l r first old shares) refl refl given_tells
      (λ none. lanes_tell (run_input_accepts h s l r first old new shares none))
