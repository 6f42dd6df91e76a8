-- An update from a symbol to the same symbol: every symbol stays, and the count is 0.
use mathlib.Core.Path.{◌≡◌, ap, ◌∙◌}
use mathlib.Core.Bool.{true}
use mathlib.Core.List.{List}
use Prim.Native.Nat.{ℕ, ◌*◌, ◌<◌}
use native.Mathlib.Omega.{arith}
use lib.ListN.{length}
use Rattle.lists.specs.Counting.{differ}
use Rattle.lists.specs.Numbers.{all_below}
use Rattle.lists.proofs.Differ.{differ_same}
use Rattle.lists.proofs.Numbers.{below_at}
use Rattle.layout.specs.Layout.{Arrangement, held, lane_of}
use Rattle.layout.proofs.Lawful.{Lawful}
use Rattle.layout.proofs.Buffers.{length_lane, get_or_lane}
use Rattle.layout.proofs.OneLane.{with_lane_ext, with_lane_same}
use Rattle.field.specs.Fields.{add, sub}
use Rattle.field.proofs.Arithmetic.{add_neg, sub_is, zero-mul}
use Rattle.field.proofs.BothKinds.{arithmetic}
use Rattle.generator.specs.declared.Header.{Header}
use Rattle.generator.specs.Records.{modulus_of, size, Sound}
use Rattle.generator.specs.Generator.{entry}
use Rattle.generator.proofs.Bounds.{entry_below}
use Rattle.blocks.specs.Blocks.{added_at, row_added, updated}

module _ {y : Arrangement} (a : Lawful y) (h : Header) (sound : Sound h) (l r t : ℕ) (s : List ℕ) (symbols : all_below (size h) (lane_of y h.n l t s) ≡ true) where
  -- 0 times an entry added to a symbol
  added_zero : (j : ℕ) → j < h.n → added_at y h l r t 0 s j ≡ held y h.n l s j t
  unfolding added_at
  added_zero j node =
      let laws = arithmetic (modulus_of h) sound.field in
      let low : held y h.n l s j t < size h = rw (get_or_lane y h.n l t s j node) at (below_at (size h) (lane_of y h.n l t s) symbols j (omega (arith, length_lane y h.n l t s))) in
      ap (add (modulus_of h) (held y h.n l s j t)) (zero-mul laws (entry h r j) (entry_below h sound r j)) ∙ laws.add-zero (held y h.n l s j t) low

  -- an update from b to b of a lane of symbols
  pub equal_symbols : (b : ℕ) → b < size h → length s ≡ h.n * l → (updated y h l r t b b s ≡ s) × (differ s (updated y h l r t b b s) ≡ 0)
  unfolding updated row_added
  equal_symbols b low long =
      let laws = arithmetic (modulus_of h) sound.field in
      let none : sub (modulus_of h) b b ≡ 0 = sub_is laws b b low low ∙ add_neg laws b low in
      let same : updated y h l r t b b s ≡ s = rw none (with_lane_ext a h.n l t s _ _ added_zero ∙ with_lane_same a h.n l t s long) in
      (same, ap (differ s) same ∙ differ_same s)
