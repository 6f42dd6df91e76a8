-- Blocks of symbols whose shares are rearranged from y to z: the same symbols, lanes, updates, messages and wrong lanes.
use mathlib.Core.Path.{◌≡◌, sym, ap, ap₂, ◌∙◌}
use mathlib.Core.Bool.{true, not, true≢false}
use mathlib.Core.List.{List}
use Prim.Native.Nat.{ℕ, ◌*◌, ◌<◌}
use native.Mathlib.Omega.{arith}
use lib.Dec.{eqb}
use lib.ListN.{length, get_or}
use Rattle.lists.specs.Choice.{pick}
use Rattle.lists.specs.Counting.{differ}
use Rattle.lists.specs.Numbers.{all_below}
use Rattle.lists.proofs.Cases.{by_test}
use Rattle.lists.proofs.Count.{count_ext}
use Rattle.lists.proofs.Search.{search_ext}
use Rattle.layout.specs.Layout.{Arrangement, held, rearranged, with_lane}
use Rattle.layout.proofs.Lawful.{Lawful, by_row}
use Rattle.layout.proofs.Buffers.{length_buffer, held_buffer, buffer_ext, held_below, buffer_below, rearranged_lane, rearranged_back}
use Rattle.field.specs.Fields.{add, sub, mul}
use Rattle.generator.specs.declared.Header.{Header}
use Rattle.generator.specs.Records.{modulus_of}
use Rattle.generator.specs.Generator.{entry}
use Rattle.generator.specs.Codewords.{is_word}
use Rattle.blocks.specs.Blocks.{added_at, row_added, updated, first_wrong, recovered_lane, recovered}
use Rattle.blocks.proofs.Updates.{differ_added}

-- the length
pub length_rearranged : (y z : Arrangement) (rows l : ℕ) (s : List ℕ) → length (rearranged y z rows l s) ≡ rows * l
unfolding rearranged
length_rearranged y z rows l s = length_buffer z rows l (held y rows l s)

module _ {y z : Arrangement} (a : Lawful y) (b : Lawful z) where
  held_rearranged : (rows l : ℕ) (s : List ℕ) (i t : ℕ) → i < rows → t < l → held z rows l (rearranged y z rows l s) i t ≡ held y rows l s i t
  unfolding rearranged
  held_rearranged rows l s i t row lane = held_buffer b rows l (held y rows l s) i t row lane

  -- symbols stay symbols
  pub still_below : (q rows l : ℕ) (s : List ℕ) → length s ≡ rows * l → all_below q s ≡ true → all_below q (rearranged y z rows l s) ≡ true
  unfolding rearranged
  still_below q rows l s long low = buffer_below b rows l q (held y rows l s) (λ i t row lane. held_below a rows l q s long low i t row lane)

module _ {y z : Arrangement} (a : Lawful y) (b : Lawful z) where
  -- and a number that is none stays too
  pub same_below : (q rows l : ℕ) (s : List ℕ) → length s ≡ rows * l → all_below q (rearranged y z rows l s) ≡ all_below q s
  same_below q rows l s long =
      by_test (all_below q s)
      (λ low. still_below a b q rows l s long low ∙ sym low)
      (λ high.
      by_test (all_below q (rearranged y z rows l s))
      (λ low.
      let again : all_below q s ≡ true = rw (rearranged_back a b rows l s long) at (still_below b a q rows l (rearranged y z rows l s) (length_rearranged y z rows l s) low) in
      absurd (true≢false (sym again ∙ high)))
      (λ still. still ∙ sym high))

  module _ (h : Header) (l : ℕ) (s : List ℕ) where
    -- the shares, rearranged
    abbrev turned : List ℕ
    turned = rearranged y z h.n l s

    module _ (r t : ℕ) (inside : t < l) where
      -- what a node holds after a row is added
      same_added : (x j : ℕ) → j < h.n → added_at z h l r t x turned j ≡ added_at y h l r t x s j
      unfolding added_at
      same_added x j node = ap (λ (v : ℕ). add (modulus_of h) v (mul (modulus_of h) x (entry h r j))) (held_rearranged a b h.n l s j t node inside)

      -- the updated shares are the old ones rearranged
      pub same_updated : (old new : ℕ) → updated z h l r t old new turned ≡ rearranged y z h.n l (updated y h l r t old new s)
      unfolding updated row_added with_lane rearranged
      same_updated old new =
          let x : ℕ = sub (modulus_of h) new old in
          buffer_ext b h.n l _ _
          (λ j q node lane.
          ap₂ (pick (eqb q t)) (same_added x j node) (held_rearranged a b h.n l s j q node lane)
          ∙ sym (held_buffer a h.n l (λ i q. pick (eqb q t) (added_at y h l r t x s i) (held y h.n l s i q)) j q node lane))

      -- and as many symbols differ
      pub same_altered : (old new : ℕ) → length s ≡ h.n * l → differ turned (updated z h l r t old new turned) ≡ differ s (updated y h l r t old new s)
      unfolding updated
      same_altered old new long =
          let x : ℕ = sub (modulus_of h) new old in
          differ_added b h l r t x turned inside (length_rearranged y z h.n l s)
          ∙ count_ext h.n 0 _ _ (λ j above below. ap not (ap₂ eqb (held_rearranged a b h.n l s j t (omega arith) inside) (same_added x j (omega arith))))
          ∙ sym (differ_added a h l r t x s inside long)

    -- the smallest wrong lane
    pub same_wrong : first_wrong z h l turned ≡ first_wrong y h l s
    unfolding first_wrong
    same_wrong = search_ext l 0 _ _ (λ t above below. ap (is_word h) (rearranged_lane a b h.n l s t (omega arith)))

  -- the message of listed shares
  pub same_recovered : (h : Header) (l : ℕ) (nodes s : List ℕ) → recovered z h l nodes (rearranged y z h.k l s) ≡ recovered y h l nodes s
  unfolding recovered
  same_recovered h l nodes s = buffer_ext by_row h.k l _ _ (λ r t row inside. ap (λ (ys : List ℕ). get_or (recovered_lane h nodes ys) r 0) (rearranged_lane a b h.k l s t inside))
