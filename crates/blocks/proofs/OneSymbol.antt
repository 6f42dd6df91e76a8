-- One symbol of a message buffer replaced: its lane and the others, and the shares of the message, which an update gives.
use mathlib.Core.Path.{◌≡◌, sym, ap, ◌∙◌}
use mathlib.Core.Bool.{true}
use mathlib.Core.List.{List}
use mathlib.Core.Logic.{by_cases}
use Prim.Native.Nat.{ℕ, ◌+◌, ◌*◌, ◌<◌}
use native.Mathlib.Decide.{ℕ_discrete}
use native.Mathlib.Omega.{arith}
use lib.ListN.{length, get_or, set, length-set}
use lib.Seq.{get_or-set_same, get_or-set_other, ext_get_or}
use Rattle.lists.specs.Numbers.{all_below}
use Rattle.lists.proofs.Rows.{from_ext}
use Rattle.layout.specs.Layout.{Arrangement, row_after_row, held, lane_of}
use Rattle.layout.proofs.Lawful.{Lawful, by_row}
use Rattle.layout.proofs.Buffers.{length_lane, get_or_lane, lanes_equal}
use Rattle.layout.proofs.Places.{place_by_row, held_by_row}
use Rattle.generator.specs.declared.Header.{Header}
use Rattle.generator.specs.Records.{size, Sound}
use Rattle.generator.specs.Codewords.{encoding}
use Rattle.blocks.specs.Blocks.{shares_of, updated}
use Rattle.blocks.proofs.Messages.{lane_message}
use Rattle.blocks.proofs.Shares.{length_shares, lane_encodes}
use Rattle.blocks.proofs.Updates.{length_updated, updated_others, updated_encodes}

module _ {y : Arrangement} (a : Lawful y) (rows l : ℕ) (s : List ℕ) (long : length s ≡ rows * l) (i t x : ℕ) (row : i < rows) (inside : t < l) where
  -- the buffer with x in row i of lane t
  abbrev put : List ℕ
  put = set s ((y rows l).place i t) x

  -- what it holds there, in another row and in another lane
  held_there : held y rows l put i t ≡ x
  unfolding held
  held_there = get_or-set_same s ((y rows l).place i t) x 0 (rw long (a.inside rows l i t row inside))

  held_row : (j : ℕ) → j < rows → (j ≡ i → ⊥) → held y rows l put j t ≡ held y rows l s j t
  unfolding held
  held_row j hj other = get_or-set_other s ((y rows l).place i t) ((y rows l).place j t) x 0 (λ e. other (sym (a.row_back rows l j t hj inside) ∙ ap (y rows l).row e ∙ a.row_back rows l i t row inside))

  held_lane : (j q : ℕ) → j < rows → q < l → (q ≡ t → ⊥) → held y rows l put j q ≡ held y rows l s j q
  unfolding held
  held_lane j q hj hq other = get_or-set_other s ((y rows l).place i t) ((y rows l).place j q) x 0 (λ e. other (sym (a.lane_back rows l j q hj hq) ∙ ap (y rows l).lane e ∙ a.lane_back rows l i t row inside))

  -- the lane has it in that row
  lane_put : lane_of y rows l t put ≡ set (lane_of y rows l t s) i x
  lane_put =
      let ws = lane_of y rows l t s in
      ext_get_or 0 (lane_of y rows l t put) (set ws i x) (length_lane y rows l t put ∙ sym (length-set ws i x ∙ length_lane y rows l t s))
      (λ j b.
      let hj : j < rows = omega (arith, length_lane y rows l t put) in
      get_or_lane y rows l t put j hj
      ∙ by_cases (ℕ_discrete j i)
      (λ same. rw same (held_there ∙ sym (get_or-set_same ws i x 0 (omega (arith, length_lane y rows l t s)))))
      (λ other. held_row j hj other ∙ sym (get_or-set_other ws i j x 0 other ∙ get_or_lane y rows l t s j hj)))

  -- the other lanes stay
  lane_beside : (q : ℕ) → q < l → (q ≡ t → ⊥) → lane_of y rows l q put ≡ lane_of y rows l q s
  unfolding lane_of
  lane_beside q hq other = from_ext _ (λ j. held y rows l s j q) 0 rows (λ j low high. held_lane j q (omega arith) hq other)

module _ {y : Arrangement} (a : Lawful y) (h : Header) (sound : Sound h) (l r t new : ℕ) (m : List ℕ) (long : length m ≡ h.k * l) (below : all_below (size h) m ≡ true) (row : r < h.k) (inside : t < l) (low : new < size h) where
  -- lane q of the message
  abbrev lane : ℕ → List ℕ → List ℕ
  lane q s = lane_of row_after_row h.k l q s

  -- an update of the shares of a message gives the shares of the message with the new symbol
  pub updated_shares : updated y h l r t (get_or m (r * l + t) 0) new (shares_of y h l m) ≡ shares_of y h l (set m (r * l + t) new)
  updated_shares =
      let s = shares_of y h l m in
      let now = set m (r * l + t) new in
      let old : get_or (lane t m) r 0 ≡ get_or m (r * l + t) 0 = get_or_lane row_after_row h.k l t m r row ∙ held_by_row h.k l m r t in
      let there : lane t now ≡ set (lane t m) r new = rw (place_by_row h.k l r t) at (lane_put by_row h.k l m long r t new row inside) in
      let beside : (q : ℕ) → q < l → (q ≡ t → ⊥) → lane q now ≡ lane q m = rw (place_by_row h.k l r t) at (lane_beside by_row h.k l m long r t new row inside) in
      lanes_equal a h.n l _ _ (length_updated a h l r t (get_or m (r * l + t) 0) new s) (length_shares h l now y)
      (λ q hq.
      by_cases (ℕ_discrete q t)
      (λ same.
      rw (same, ← old)
      (updated_encodes a h sound (lane t m) s l r t new (lane_message h l m t inside long below) row inside low (length_shares h l m y) (lane_encodes h l m a t inside)
      ∙ sym (lane_encodes h l now a t inside ∙ ap (encoding h) there)))
      (λ other.
      updated_others a h l r t (get_or m (r * l + t) 0) new s q hq other
      ∙ lane_encodes h l m a q hq
      ∙ sym (lane_encodes h l now a q hq ∙ ap (encoding h) (beside q hq other))))
