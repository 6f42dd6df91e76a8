-- The loop that judges a run: its lanes by themselves, and their numbers.
use Rattle.std.specs.Prelude.{Ok, Err}
use mathlib.Core.Path.{◌≡◌, refl, sym, ◌∙◌}
use Prim.Native.Nat.{ℕ, ◌+◌, ◌-◌, ◌≤◌, ◌<◌}
use mathlib.Core.List.{List}
use native.Mathlib.Omega.{arith}
use Rattle.layout.specs.Layout.{lane_of, share_layout}
use Rattle.layout.specs.Width.{symbol_at, symbols_of}
use Rattle.layout.proofs.Widths.{get_or_symbols}
use Rattle.generator.specs.declared.Header.{Header}
use Rattle.generator.specs.Records.{width}
use Rattle.refusals.specs.Accepted.{UpdatableLane}
use Rattle.refusals.specs.Faults.{stale_fault}
use Rattle.generator.specs.Answers.{answer_of, outcome_of}
use Rattle.generator.proofs.Answered.{refused_is, done_is, answer_refused}
use Rattle.update_lanes.specs.Runs.{run_length, first_number, lane_fault}
use Rattle.update_lanes.specs.Inner.Ready.{UpdatableRun}
use Rattle.update_lanes.proofs.Searches.{number_passed, number_met, number_end}

module _ {h : Header} {l r first : ℕ} {old new shares : List ℕ} (ready : UpdatableRun h l r first old new shares) {i : ℕ} (low : i < run_length h old) where
  -- lane first + i can be judged
  pub ready_lane : UpdatableLane h l r (first + i) shares
  ready_lane =
      record {
        sound = ready.sound;
        few_lanes = ready.few_lanes;
        row = ready.row;
        lane = omega (arith, ready.inside);
        bytes = ready.bytes;
        symbols = ready.lanes i low;
      }

  -- its number, where a symbol has w bytes
  pub lane_number : (w : ℕ) → w ≡ width h → stale_fault h (lane_of share_layout h.n l (first + i) (symbols_of (width h) shares)) r (symbol_at w old i) ≡ lane_fault h l r first (symbols_of (width h) old) (symbols_of (width h) shares) i
  lane_number w wide = rw (wide, get_or_symbols (width h) old i low) refl

-- the loop: the lanes before lane i have no number
module _ {h : Header} {l r first : ℕ} {old new shares : List ℕ} (ready : UpdatableRun h l r first old new shares) (count : ℕ) (counts : count ≡ run_length h old) where
  abbrev fault : ℕ → ℕ
  fault = lane_fault h l r first (symbols_of (width h) old) (symbols_of (width h) shares)

  abbrev lane_stale : ℕ → ℕ → ℕ
  lane_stale w i = stale_fault h (lane_of share_layout h.n l (first + i) (symbols_of (width h) shares)) r (symbol_at w old i)

  module _ {i : ℕ} (passed : first_number count 0 fault ≡ first_number (count - i) i fault) where
    -- lane i has one ..
    pub run_stopped : i < count → (w : ℕ) → w ≡ width h → (g : ℕ) → Err g ≡ outcome_of (lane_stale w i) → Err g ≡ outcome_of (first_number (run_length h old) 0 fault)
    run_stopped inside w wide g e =
        let (same, some) = refused_is _ _ _ e in
        let is : g ≡ fault i = same ∙ lane_number ready (rw (← counts) inside) w wide in
        let whole : first_number (run_length h old) 0 fault ≡ g = rw counts at (passed ∙ number_met fault count i inside (λ z. some (is ∙ z)) ∙ sym is) in
        rw whole (sym (answer_refused g _ some))

    -- .. or none ..
    pub run_goes_on : i < count → (w : ℕ) → w ≡ width h → Ok tt ≡ outcome_of (lane_stale w i) → first_number count 0 fault ≡ first_number (count - (i + 1)) (i + 1) fault
    run_goes_on inside w wide e =
        passed ∙ number_passed fault count i inside (sym (lane_number ready (rw (← counts) inside) w wide) ∙ done_is _ _ e)

    -- .. or there is no lane i
    pub run_ended : count ≤ i → Ok tt ≡ outcome_of (first_number (run_length h old) 0 fault)
    unfolding answer_of
    run_ended all =
        let none : first_number (run_length h old) 0 fault ≡ 0 = rw counts at (passed ∙ number_end fault count i all) in
        rw none refl
