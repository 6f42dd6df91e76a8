-- What holds where the call meets no number, and what it says beside one.
use Rattle.std.specs.Prelude.{Err}
use mathlib.Core.Path.{◌≡◌, sym}
use mathlib.Core.List.{List}
use Prim.Native.Nat.{ℕ, ◌+◌, ◌*◌, ◌<◌}
use native.Mathlib.Omega.{arith}
use borrow.Author.Tests.{ltb-false}
use lib.Dec.{ltb}
use lib.ListN.{length}
use Rattle.lists.proofs.Cases.{first_zero, when_zero}
use Rattle.layout.specs.Layout.{share_layout}
use Rattle.layout.specs.Width.{symbols_of}
use Rattle.generator.specs.declared.Header.{Header}
use Rattle.generator.specs.Records.{width, Sound}
use Rattle.generator.proofs.Answered.{answer_refused}
use Rattle.refusals.specs.Conditions.{lanes_bad, length_bad, number_bad, symbols_bad, lane_bad}
use Rattle.refusals.proofs.NotMet.{lanes_good, length_good, number_good, symbols_good, lane_good}
use Rattle.refusals.proofs.Accepts.{not_met}
use Rattle.blocks.proofs.Refused.{refused_value}
use Rattle.update_lanes.specs.Runs.{run_length, lane_fault, run_bad}
use Rattle.update_lanes.specs.Promise.{run_input_fault, run_fault, RunPromise}
use Rattle.update_lanes.specs.Inner.Ready.{UpdatableRun}
use Rattle.update_lanes.proofs.Searches.{none_passes, none_given}

module _ (h : Header) (sound : Sound h) (l r first : ℕ) (old new shares : List ℕ) where
  -- the run lies within the block, and it and its symbols are symbols
  pub run_input_accepts : run_input_fault h l r first old new shares ≡ 0 → UpdatableRun h l r first old new shares
  unfolding run_input_fault
  run_input_accepts e =
      let m = run_length h old in
      let (seven, a) = not_met (lanes_bad l) 6 _ e in
      let (eight, b) = not_met (length_bad (h.n * l * width h) (length shares)) 7 _ a in
      let (whole, c) = not_met (length_bad (m * width h) (length old)) 7 _ b in
      let (as_many, d) = not_met (length_bad (m * width h) (length new)) 7 _ c in
      let (row, f) = not_met (number_bad h.k r) 8 _ d in
      let (ends, g) = not_met (ltb l (first + m)) 8 _ f in
      let (one, i) = not_met (symbols_bad h old) 10 _ g in
      let (two, j) = not_met (symbols_bad h new) 10 _ i in
      let low = when_zero (run_bad h l first m shares) 10 j in
      record {
        sound = sound;
        few_lanes = (lanes_good l seven).1;
        row = number_good h.k r row;
        inside = ltb-false l (first + m) ends;
        bytes = length_good (h.n * l * width h) (length shares) eight;
        old_bytes = length_good (m * width h) (length old) whole;
        new_bytes = length_good (m * width h) (length new) as_many;
        old_symbols = symbols_good h old one;
        new_symbols = symbols_good h new two;
        lanes = λ x inside. lane_good h share_layout l (first + x) shares (none_passes (λ i. lane_bad share_layout h l (first + i) shares) m 0 low x (omega arith) (omega arith));
      }

  -- .. and no lane of the run meets a number
  pub run_accepts : run_fault h l r first old new shares ≡ 0 → UpdatableRun h l r first old new shares × ((i : ℕ) → i < run_length h old → lane_fault h l r first (symbols_of (width h) old) (symbols_of (width h) shares) i ≡ 0)
  unfolding run_fault
  run_accepts e =
      let (given, fresh) = first_zero (run_input_fault h l r first old new shares) _ e in (
        run_input_accepts given,
        λ i inside. none_given (lane_fault h l r first (symbols_of (width h) old) (symbols_of (width h) shares)) (run_length h old) 0 fresh i (omega arith) (omega arith),
      )

-- beside a number g: the number, and nothing is written
pub run_refuses : (h : Header) (g : ℕ) → (g ≡ 0 → ⊥) → (l r first : ℕ) (old new shares : List ℕ) → RunPromise l r first old new shares shares (Err g) h g
run_refuses h g some l r first old new shares = record { answered = sym (answer_refused g _ some); written = sym (refused_value g _ shares some) }
