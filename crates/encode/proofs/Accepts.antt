-- What holds where the call meets no number, and what it says beside one.
use Rattle.std.specs.Prelude.{Err}
use mathlib.Core.Path.{◌≡◌, sym}
use mathlib.Core.List.{List}
use Prim.Native.Nat.{ℕ, ◌*◌}
use lib.ListN.{length}
use Rattle.lists.proofs.Cases.{when_zero}
use Rattle.layout.specs.Layout.{Arrangement}
use Rattle.generator.specs.declared.Header.{Header}
use Rattle.generator.specs.Records.{width, Sound}
use Rattle.generator.proofs.Answered.{answer_refused}
use Rattle.refusals.specs.Conditions.{lanes_bad, length_bad, symbols_bad}
use Rattle.refusals.specs.Accepted.{SymbolBuffer}
use Rattle.refusals.proofs.NotMet.{length_good}
use Rattle.refusals.proofs.Accepts.{not_met, rows_good}
use Rattle.blocks.proofs.Refused.{refused_value}
use Rattle.encode.specs.Promise.{encode_fault, EncodePromise}

module _ (h : Header) (sound : Sound h) (l : ℕ) where
  -- Encode: the message is a buffer of symbols, and the shares fill the written buffer
  pub encode_accepts : (out : ℕ) (message : List ℕ) → encode_fault h l out message ≡ 0 → SymbolBuffer h h.k l message × (out ≡ h.n * l * width h)
  unfolding encode_fault
  encode_accepts out message e =
      let (seven, after) = not_met (lanes_bad l) 6 _ e in
      let (read, later) = not_met (length_bad (h.k * l * width h) (length message)) 7 _ after in
      let (written, last) = not_met (length_bad (h.n * l * width h) out) 7 _ later in
      (rows_good h sound l h.k message seven read (when_zero (symbols_bad h message) 10 last), length_good (h.n * l * width h) out written)

-- beside a number g: the number, and nothing is written
module _ {y : Arrangement} (h : Header) (g : ℕ) (some : g ≡ 0 → ⊥) (l : ℕ) where
  pub encode_refuses : (message out : List ℕ) → EncodePromise y l message out out (Err g) h g
  encode_refuses message out = record { answered = sym (answer_refused g _ some); written = sym (refused_value g _ out some) }
