-- Lanes of buffers in every layout, and rearrangement.
use mathlib.Core.Path.{◌≡◌, sym, ap, ap₂, ◌∙◌}
use mathlib.Core.Bool.{true}
use mathlib.Core.List.{List}
use Prim.Native.Nat.{ℕ, ◌*◌, ◌<◌}
use native.Mathlib.Nat.{zero-add}
use native.Mathlib.Omega.{arith}
use lib.ListN.{length, get_or}
use lib.Seq.{ext_get_or}
use Rattle.lists.specs.Rows.{from}
use Rattle.lists.specs.Numbers.{all_below}
use Rattle.lists.proofs.Numbers.{below_at, at_below}
use Rattle.lists.proofs.Rows.{length_from, get_or_from, from_ext}
use Rattle.layout.specs.Layout.{Arrangement, held, lane_of, buffer, rearranged}
use Rattle.layout.specs.Inner.Parts.{row_of}
use Rattle.layout.proofs.Lawful.{Lawful}

module _ (y : Arrangement) (rows l : ℕ) where
  -- a lane has as many symbols as there are rows
  pub length_lane : (t : ℕ) (s : List ℕ) → length (lane_of y rows l t s) ≡ rows
  unfolding lane_of
  length_lane t s = length_from (λ i. held y rows l s i t) 0 rows

  -- its symbol of row i
  pub get_or_lane : (t : ℕ) (s : List ℕ) (i : ℕ) → i < rows → get_or (lane_of y rows l t s) i 0 ≡ held y rows l s i t
  unfolding lane_of
  get_or_lane t s i h = rw zero-add at (get_or_from (λ i. held y rows l s i t) 0 rows i 0 h)

  -- a row has as many as there are lanes
  pub length_row : (i : ℕ) (s : List ℕ) → length (row_of y rows l i s) ≡ l
  unfolding row_of
  length_row i s = length_from (held y rows l s i) 0 l

  pub length_buffer : (f : ℕ → ℕ → ℕ) → length (buffer y rows l f) ≡ rows * l
  unfolding buffer
  length_buffer f = length_from (λ x. f ((y rows l).row x) ((y rows l).lane x)) 0 (rows * l)

module _ {y : Arrangement} (a : Lawful y) (rows l : ℕ) where
  -- a buffer holds what it was made from
  pub held_buffer : (f : ℕ → ℕ → ℕ) (i t : ℕ) → i < rows → t < l → held y rows l (buffer y rows l f) i t ≡ f i t
  unfolding held buffer
  held_buffer f i t hi ht =
      rw zero-add at (get_or_from (λ x. f ((y rows l).row x) ((y rows l).lane x)) 0 (rows * l) ((y rows l).place i t) 0 (a.inside rows l i t hi ht))
      ∙ ap₂ f (a.row_back rows l i t hi ht) (a.lane_back rows l i t hi ht)

  -- so does each of its lanes
  pub lane_buffer : (f : ℕ → ℕ → ℕ) (t : ℕ) → t < l → lane_of y rows l t (buffer y rows l f) ≡ from (λ i. f i t) 0 rows
  unfolding lane_of
  lane_buffer f t ht = from_ext _ (λ i. f i t) 0 rows (λ i low high. held_buffer f i t (omega arith) ht)

  -- functions that agree on the rows and lanes make one buffer
  pub buffer_ext : (f g : ℕ → ℕ → ℕ) → ((i t : ℕ) → i < rows → t < l → f i t ≡ g i t) → buffer y rows l f ≡ buffer y rows l g
  unfolding buffer
  buffer_ext f g same =
      from_ext _ _ 0 (rows * l)
      (λ x low high. let (row, lane, at) = a.covers rows l x (omega arith) in same ((y rows l).row x) ((y rows l).lane x) row lane)

  -- buffers that hold the same are equal
  pub held_equal : (s u : List ℕ) → length s ≡ rows * l → length u ≡ rows * l → ((i t : ℕ) → i < rows → t < l → held y rows l s i t ≡ held y rows l u i t) → s ≡ u
  unfolding held
  held_equal s u ls lu same =
      ext_get_or 0 s u (ls ∙ sym lu)
      (λ x b.
      let (row, lane, at) = a.covers rows l x (rw ls at b) in
      ap (λ (z : ℕ). get_or s z 0) (sym at) ∙ same ((y rows l).row x) ((y rows l).lane x) row lane ∙ ap (λ (z : ℕ). get_or u z 0) at)

  -- so are buffers with equal lanes
  pub lanes_equal : (s u : List ℕ) → length s ≡ rows * l → length u ≡ rows * l → ((t : ℕ) → t < l → lane_of y rows l t s ≡ lane_of y rows l t u) → s ≡ u
  lanes_equal s u ls lu same =
      held_equal s u ls lu
      (λ i t hi ht. sym (get_or_lane y rows l t s i hi) ∙ ap (λ (w : List ℕ). get_or w i 0) (same t ht) ∙ get_or_lane y rows l t u i hi)

  -- a buffer made from what one holds is that buffer
  pub buffer_held : (s : List ℕ) → length s ≡ rows * l → buffer y rows l (held y rows l s) ≡ s
  buffer_held s long = held_equal (buffer y rows l (held y rows l s)) s (length_buffer y rows l (held y rows l s)) long (held_buffer (held y rows l s))

  -- a buffer of symbols holds symbols
  pub held_below : (q : ℕ) (s : List ℕ) → length s ≡ rows * l → all_below q s ≡ true → (i t : ℕ) → i < rows → t < l → held y rows l s i t < q
  unfolding held
  held_below q s long low i t hi ht = below_at q s low ((y rows l).place i t) (rw long (a.inside rows l i t hi ht))

  -- its lanes are lists of symbols
  pub lane_symbols : (q t : ℕ) (s : List ℕ) → t < l → length s ≡ rows * l → all_below q s ≡ true → all_below q (lane_of y rows l t s) ≡ true
  lane_symbols q t s inside long low =
      at_below q (lane_of y rows l t s)
      (λ i b. let row : i < rows = rw (length_lane y rows l t s) at b in rw (get_or_lane y rows l t s i row) (held_below q s long low i t row inside))

  -- a buffer made from symbols is one of symbols
  pub buffer_below : (q : ℕ) (f : ℕ → ℕ → ℕ) → ((i t : ℕ) → i < rows → t < l → f i t < q) → all_below q (buffer y rows l f) ≡ true
  unfolding buffer
  buffer_below q f low =
      at_below q (buffer y rows l f)
      (λ x b.
      let less : x < rows * l = rw (length_buffer y rows l f) at b in
      let (row, lane, at) = a.covers rows l x less in
      rw (get_or_from (λ x. f ((y rows l).row x) ((y rows l).lane x)) 0 (rows * l) x 0 less, zero-add x) (low ((y rows l).row x) ((y rows l).lane x) row lane))

module _ {y z : Arrangement} (a : Lawful y) (b : Lawful z) (rows l : ℕ) (s : List ℕ) where
  -- a rearranged buffer has the same lanes
  pub rearranged_lane : (t : ℕ) → t < l → lane_of z rows l t (rearranged y z rows l s) ≡ lane_of y rows l t s
  unfolding lane_of rearranged
  rearranged_lane t ht = lane_buffer b rows l (held y rows l s) t ht

  -- and rearranged back it is as it was
  pub rearranged_back : length s ≡ rows * l → rearranged z y rows l (rearranged y z rows l s) ≡ s
  unfolding rearranged
  rearranged_back long =
      buffer_ext a rows l _ (held y rows l s) (λ i t hi ht. held_buffer b rows l (held y rows l s) i t hi ht)
      ∙ buffer_held a rows l s long
