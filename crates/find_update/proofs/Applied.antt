-- What Update adds to a lane of any block is `word_added`: so the finding gives back what Update was told.
use mathlib.Core.Path.{◌≡◌, refl, sym, ap, ◌∙◌}
use mathlib.Core.List.{List}
use Prim.Native.Nat.{ℕ, ◌<◌}
use native.Mathlib.Omega.{arith}
use Rattle.lists.proofs.Numbers.{below_at, at_below}
use Rattle.lists.proofs.Rows.{from_ext}
use Rattle.layout.specs.Layout.{Arrangement, lane_of}
use Rattle.layout.proofs.Lawful.{Lawful}
use Rattle.layout.proofs.Buffers.{get_or_lane}
use Rattle.layout.proofs.OneLane.{lane_changed}
use Rattle.field.specs.Fields.{add, sub, mul}
use Rattle.field.proofs.Bounds.{add_below, mul_below}
use Rattle.field.proofs.FieldOf.{size_pos}
use Rattle.generator.specs.declared.Header.{Header}
use Rattle.generator.specs.Records.{modulus_of, size, Sound}
use Rattle.generator.specs.Generator.{entry}
use Rattle.generator.proofs.Bounds.{entry_below}
use Rattle.blocks.specs.Blocks.{added_at, row_added, updated, word_added}
use Rattle.find_update.specs.declared.Finding.TheVariants.{Added}
use Rattle.refusals.specs.Accepted.{IsLane}
use Rattle.find_update.specs.Finding.{finding_of}
use Rattle.find_update.proofs.Single.{get_or_added, length_added, one_addition, nothing_added}
use Rattle.find_update.proofs.Meaning.{finding_added}

module _ {y : Arrangement} (a : Lawful y) (h : Header) (l r t old new : ℕ) (s : List ℕ) (inside : t < l) where
  -- the lane after an update
  pub update_adds : lane_of y h.n l t (updated y h l r t old new s) ≡ word_added h r (sub (modulus_of h) new old) (lane_of y h.n l t s)
  unfolding updated row_added added_at word_added
  update_adds =
      lane_changed a h.n l t (added_at y h l r t (sub (modulus_of h) new old) s) s inside
      ∙ from_ext _ _ 0 h.n (λ j low high. ap (λ (w : ℕ). add (modulus_of h) w (mul (modulus_of h) (sub (modulus_of h) new old) (entry h r j))) (sym (get_or_lane y h.n l t s j (omega arith))))

module _ (h : Header) (s : Sound h) (us : List ℕ) (lane : IsLane h us) (r x : ℕ) (row : r < h.k) (low : x < size h) where
  -- a lane with a multiple of a row added is a lane
  added_lane : IsLane h (word_added h r x us)
  added_lane =
      let long = length_added h s us lane r x in
      record {
        long = long;
        symbols = at_below (size h) (word_added h r x us) (λ j l. let node : j < h.n = omega arith in rw (get_or_added h s us lane r x j node) (add_below (modulus_of h) s.field (below_at (size h) us lane.symbols j (omega (arith, lane.long))) (mul_below (modulus_of h) s.field low (entry_below h s r j))));
      }

  -- what was added to a symbol is found
  pub finds_again : (x ≡ 0 → ⊥) → finding_of h us (word_added h r x us) ≡ Added r x
  finds_again some =
      let apart : us ≡ word_added h r x us → ⊥ = λ e. some (one_addition h s us lane r x r 0 row row low (size_pos (modulus_of h) s.field) some (sym e ∙ sym (nothing_added h s us lane r))).1 in
      finding_added h s us (word_added h r x us) lane added_lane apart r x row low refl
