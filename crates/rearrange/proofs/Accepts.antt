-- What holds where the call meets no number, and what it says beside one.
use mathlib.Core.Path.{◌≡◌}
use Prim.Native.Nat.{ℕ, ◌*◌}
use Rattle.lists.proofs.Cases.{when_zero}
use Rattle.generator.specs.declared.Header.{Header}
use Rattle.generator.specs.Records.{width, Sound}
use Rattle.refusals.specs.Conditions.{lanes_bad, length_bad}
use Rattle.refusals.proofs.NotMet.{length_good}
use Rattle.refusals.proofs.Accepts.{not_met}
use Rattle.rearrange.specs.Promise.{rearrange_fault}

module _ (h : Header) (sound : Sound h) (l : ℕ) where
  -- both buffers have a symbol for each row and lane
  pub rearrange_accepts : (rows source out : ℕ) → rearrange_fault h rows l source out ≡ 0 → (source ≡ rows * l * width h) × (out ≡ rows * l * width h)
  unfolding rearrange_fault
  rearrange_accepts rows source out e =
      let (seven, after) = not_met (lanes_bad l) 6 _ e in
      let (read, last) = not_met (length_bad (rows * l * width h) source) 7 _ after in
      (length_good (rows * l * width h) source read, length_good (rows * l * width h) out (when_zero (length_bad (rows * l * width h) out) 7 last))
