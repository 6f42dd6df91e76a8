-- What holds where the call meets no number, and what it says beside one.
use Rattle.std.specs.Prelude.{Err}
use mathlib.Core.Path.{◌≡◌, sym}
use mathlib.Core.List.{List}
use Prim.Native.Nat.{ℕ, ◌*◌, ◌<◌}
use lib.ListN.{length}
use Rattle.lists.proofs.Cases.{first_zero, when_zero}
use Rattle.layout.specs.Layout.{lane_of, share_layout, Arrangement}
use Rattle.layout.specs.Width.{symbols_of}
use Rattle.generator.specs.declared.Header.{Header}
use Rattle.generator.specs.Records.{size, width, Sound}
use Rattle.generator.proofs.Answered.{answer_refused}
use Rattle.refusals.specs.Conditions.{lanes_bad, length_bad, number_bad, symbol_bad, lane_bad, no_word, other_symbol}
use Rattle.refusals.specs.Faults.{stale_fault}
use Rattle.refusals.specs.Accepted.{UpdatableLane, FreshLane}
use Rattle.refusals.proofs.NotMet.{lanes_good, length_good, number_good, symbol_good, lane_good, word_good, held_good}
use Rattle.refusals.proofs.Accepts.{not_met}
use Rattle.blocks.proofs.Refused.{refused_value}
use Rattle.update.specs.Promise.{input_fault, update_fault, UpdatePromise}

module _ (h : Header) (sound : Sound h) (l : ℕ) where
  -- Update: the lane holds symbols, and so are the old and the new one ..
  pub input_accepts : (r t old new : ℕ) (shares : List ℕ) → input_fault share_layout h l r t old new shares ≡ 0 → UpdatableLane h l r t shares × (old < size h) × (new < size h)
  unfolding input_fault
  input_accepts r t old new shares e =
      let (seven, a) = not_met (lanes_bad l) 6 _ e in
      let (eight, b) = not_met (length_bad (h.n * l * width h) (length shares)) 7 _ a in
      let (row, c) = not_met (number_bad h.k r) 8 _ b in
      let (lane, d) = not_met (number_bad l t) 8 _ c in
      let (first, f) = not_met (symbol_bad h old) 10 _ d in
      let (second, g) = not_met (symbol_bad h new) 10 _ f in (
        record {
          sound = sound;
          few_lanes = (lanes_good l seven).1;
          row = number_good h.k r row;
          lane = number_good l t lane;
          bytes = length_good (h.n * l * width h) (length shares) eight;
          symbols = lane_good h share_layout l t shares (when_zero (lane_bad share_layout h l t shares) 10 g);
        },
        symbol_good h old first,
        symbol_good h new second,
      )

  -- .. and it is a word, whose message holds the old symbol
  pub update_accepts : (r t old new : ℕ) (shares : List ℕ) → update_fault share_layout h l r t old new shares ≡ 0 → UpdatableLane h l r t shares × (old < size h) × (new < size h) × FreshLane h l r t old shares
  unfolding update_fault stale_fault
  update_accepts r t old new shares e =
      let (given, fresh) = first_zero (input_fault share_layout h l r t old new shares) _ e in
      let (lane, first, second) = input_accepts r t old new shares given in
      let (twelve, thirteen) = not_met (no_word h (lane_of share_layout h.n l t (symbols_of (width h) shares))) 11 _ fresh in (
        lane,
        first,
        second,
        record {
          word = word_good h _ twelve;
          holds = held_good h _ r old (when_zero (other_symbol h (lane_of share_layout h.n l t (symbols_of (width h) shares)) r old) 12 thirteen);
        },
      )

-- beside a number g: the number, and nothing is written
module _ {y : Arrangement} (h : Header) (g : ℕ) (some : g ≡ 0 → ⊥) (l : ℕ) where
  pub update_refuses : (r t old new : ℕ) (shares : List ℕ) → UpdatePromise y l r t old new shares shares (Err g) h g
  update_refuses r t old new shares = record { answered = sym (answer_refused g _ some); written = sym (refused_value g _ shares some) }
