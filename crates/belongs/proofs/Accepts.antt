-- What holds where the call meets no number, and what it says beside one.
use Rattle.std.specs.Prelude.{Err}
use mathlib.Core.Path.{◌≡◌, sym}
use mathlib.Core.List.{List}
use Prim.Native.Nat.{ℕ, ◌*◌}
use lib.ListN.{length}
use Rattle.lists.proofs.Cases.{when_zero}
use Rattle.layout.specs.Layout.{Arrangement}
use Rattle.generator.specs.declared.Header.{Header}
use Rattle.generator.specs.Records.{width, Sound}
use Rattle.generator.proofs.Answered.{answer_refused}
use Rattle.refusals.specs.Conditions.{lanes_bad, length_bad, symbols_bad}
use Rattle.refusals.specs.Accepted.{SymbolBuffer}
use Rattle.refusals.proofs.Accepts.{not_met, rows_good}
use Rattle.belongs.specs.Promise.{belongs_fault, BelongsPromise}

module _ (h : Header) (sound : Sound h) (l : ℕ) where
  -- Belongs: the shares are a full buffer of symbols
  pub belongs_accepts : (shares : List ℕ) → belongs_fault h l shares ≡ 0 → SymbolBuffer h h.n l shares
  unfolding belongs_fault
  belongs_accepts shares e =
      let (seven, after) = not_met (lanes_bad l) 6 _ e in
      let (eight, last) = not_met (length_bad (h.n * l * width h) (length shares)) 7 _ after in
      rows_good h sound l h.n shares seven eight (when_zero (symbols_bad h shares) 10 last)

-- beside a number g: the number, and nothing is written
module _ {y : Arrangement} (h : Header) (g : ℕ) (some : g ≡ 0 → ⊥) (l : ℕ) where
  pub belongs_refuses : (shares : List ℕ) → BelongsPromise y l shares (Err g) h g
  belongs_refuses shares = record { answered = sym (answer_refused g _ some) }
