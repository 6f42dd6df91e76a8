-- What holds where a call meets no number, and what it says beside one.
use Rattle.std.specs.Prelude.{Err}
use mathlib.Core.Path.{◌≡◌, sym}
use mathlib.Core.List.{List}
use Prim.Native.Nat.{ℕ, ◌*◌, ◌<◌}
use native.Mathlib.Nat.{one-mul}
use lib.ListN.{length}
use Rattle.lists.proofs.Cases.{when_zero}
use Rattle.generator.specs.declared.Header.{Header}
use Rattle.generator.specs.Records.{width, Sound}
use Rattle.generator.proofs.Answered.{answer_refused}
use Rattle.refusals.specs.Accepted.{SymbolBuffer}
use Rattle.refusals.specs.Conditions.{lanes_bad, length_bad, number_bad, symbols_bad}
use Rattle.refusals.proofs.NotMet.{length_good, number_good}
use Rattle.refusals.proofs.Accepts.{not_met, rows_good}
use Rattle.blocks.proofs.Refused.{refused_value}
use Rattle.differences.specs.Promise.{differences_fault, add_fault, DifferencesPromise, AddPromise}

-- both rows are rows of symbols, there is such a row in a message, and the written buffer has a row for each node
pub record DifferencesAccepted (h : Header) (l r : ℕ) (old new : List ℕ) (out : ℕ) : Type 0 where
  pub old_row : SymbolBuffer h 1 l old
  pub new_row : SymbolBuffer h 1 l new
  pub row : r < h.k
  pub room : out ≡ h.n * l * width h

module _ (h : Header) (sound : Sound h) (l : ℕ) where
  pub differences_accepts : (r : ℕ) (old new : List ℕ) (out : ℕ) → differences_fault h l r old new out ≡ 0 → DifferencesAccepted h l r old new out
  unfolding differences_fault
  differences_accepts r old new out e =
      let (seven, a) = not_met (lanes_bad l) 6 _ e in
      let (first, b) = not_met (length_bad (l * width h) (length old)) 7 _ a in
      let (second, c) = not_met (length_bad (l * width h) (length new)) 7 _ b in
      let (written, d) = not_met (length_bad (h.n * l * width h) out) 7 _ c in
      let (nine, f) = not_met (number_bad h.k r) 8 _ d in
      let (low, last) = not_met (symbols_bad h old) 10 _ f in
      record {
        old_row = rows_good h sound l 1 old seven (rw one-mul first) low;
        new_row = rows_good h sound l 1 new seven (rw one-mul second) (when_zero (symbols_bad h new) 10 last);
        row = number_good h.k r nine;
        room = length_good (h.n * l * width h) out written;
      }

  pub add_accepts : (difference share : List ℕ) → add_fault h l difference share ≡ 0 → SymbolBuffer h 1 l difference × SymbolBuffer h 1 l share
  unfolding add_fault
  add_accepts difference share e =
      let (seven, a) = not_met (lanes_bad l) 6 _ e in
      let (first, b) = not_met (length_bad (l * width h) (length difference)) 7 _ a in
      let (second, c) = not_met (length_bad (l * width h) (length share)) 7 _ b in
      let (low, last) = not_met (symbols_bad h difference) 10 _ c in
      (rows_good h sound l 1 difference seven (rw one-mul first) low, rows_good h sound l 1 share seven (rw one-mul second) (when_zero (symbols_bad h share) 10 last))

-- beside a number g: the number, and nothing is written
module _ (h : Header) (g : ℕ) (some : g ≡ 0 → ⊥) (l : ℕ) where
  pub differences_refuses : (r : ℕ) (old new out : List ℕ) → DifferencesPromise l r old new out out (Err g) h g
  differences_refuses r old new out = record { answered = sym (answer_refused g _ some); written = sym (refused_value g _ out some) }

  pub add_refuses : (difference share : List ℕ) → AddPromise l difference share share (Err g) h g
  add_refuses difference share = record { answered = sym (answer_refused g _ some); written = sym (refused_value g _ share some) }
