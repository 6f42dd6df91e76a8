-- A buffer that is written part by part, from the front.
use Rattle.std.proofs.Common.{◌≡◌, sym, ap, ◌∙◌, List, ◌++◌, ℕ, ◌+◌, ◌-◌, ◌≤◌, ◌<◌, zero-add, arith, length, take, drop, take-append-drop, drop_of_length-le, ext_get_or, drop-drop, ◌*◌, mul-le-mul, le_refl}
use Rattle.lists.specs.Rows.{from}
use Rattle.lists.proofs.Fill.{Fills, fills_part, fills_all}
use Rattle.lists.specs.Rows.{rows_from}
use native.Mathlib.Nat.{add-sub_cancel_left}
use Rattle.lists.proofs.Rows.{length_from, get_or_from, get_d_part, part_length, row_after, row_inside, rows_next, rows_end}

module _ {start now : List ℕ} (whole : List ℕ) (a : ℕ) where
  -- the next k places of the whole are written
  pub fills_stretch : (xs : List ℕ) (k : ℕ) → Fills start now a (drop a whole) whole → xs ≡ take (a + k - a) (drop a whole) → length whole ≡ length start → a + k ≤ length start → Fills start (take a now ++ (xs ++ drop (a + k - a) (drop a now))) (a + k) (drop (a + k) whole) whole
  fills_stretch xs k f e long fits =
      let apart : drop a whole ≡ xs ++ drop (a + k) whole = rw (e, add-sub_cancel_left) (sym (take-append-drop k (drop a whole)) ∙ ap (λ (u : List ℕ). take k (drop a whole) ++ u) (drop-drop k a whole)) in
      rw add-sub_cancel_left (fills_part xs k (rw apart at f) (ap length e ∙ part_length a k whole (omega arith)) fits)

  -- nothing is left
  pub fills_whole : Fills start now a (drop a whole) whole → length whole ≤ a → length start ≤ a → now ≡ whole
  fills_whole f end all = fills_all (rw (drop_of_length-le whole end) at f) all

-- a stretch of values by a function of the index
pub from_part : (f : ℕ → ℕ) (n a k : ℕ) → a + k ≤ n → from f a k ≡ take (a + k - a) (drop a (from f 0 n))
from_part f n a k fits =
    let inside : a + k ≤ length (from f 0 n) = omega (arith, length_from f 0 n) in
    ext_get_or 0 (from f a k) _ (length_from f a k ∙ sym (part_length a k (from f 0 n) inside))
    (λ i h.
    let low : i < k = omega (arith, length_from f a k) in
    get_or_from f a k i 0 low ∙ sym (get_d_part a k (from f 0 n) i low ∙ get_or_from f 0 n (a + i) 0 (omega arith) ∙ ap f (zero-add (a + i))))

-- of `count` lanes of n symbols each, one after the other, those below t are written
abbrev pub LanesFilled : (ℕ → List ℕ) → ℕ → ℕ → List ℕ → List ℕ → ℕ → Type 0
LanesFilled f n count start now t = Fills start now (t * n) (rows_from f t (count - t)) (rows_from f 0 count)

module _ (f : ℕ → List ℕ) (n count : ℕ) {start now : List ℕ} (t : ℕ) (long : length start ≡ count * n) (filled : LanesFilled f n count start now t) where
  -- lane t lies within the buffer
  lane_in : t < count → t * n + n ≤ length start
  lane_in h = rw long (row_inside count t n h)

  pub lane_size : t < count → length (take (t * n + n - t * n) (drop (t * n) now)) ≡ n
  lane_size h = part_length (t * n) n now (omega (arith, filled.long, lane_in h))

  -- one lane more
  pub lane_more : t < count → length (f t) ≡ n → LanesFilled f n count start (take (t * n) now ++ (f t ++ drop (t * n + n - t * n) (drop (t * n) now))) (t + 1)
  lane_more h size = rw (row_after, add-sub_cancel_left) (fills_part (f t) n (rw (rows_next _ _ _ h) at filled) size (lane_in h))

  -- all lanes
  pub lanes_all : count ≤ t → now ≡ rows_from f 0 count
  lanes_all h = fills_all (rw (rows_end _ _ _ h) at filled) (rw long (mul-le-mul h (le_refl n)))
