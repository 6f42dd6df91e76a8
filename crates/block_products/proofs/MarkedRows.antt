-- Rows of bytes that mark lanes, taken one after the other.
use mathlib.Core.Path.{◌≡◌, sym, ap, ◌∙◌}
use mathlib.Core.List.{List, ◌++◌}
use Prim.Native.Nat.{ℕ, ◌+◌, ◌-◌, ◌*◌, min, ◌≤◌, ◌<◌}
use native.Mathlib.Omega.{arith}
use lib.ListN.{length, get_or, take, drop, length-drop}
use lib.Seq.{take_at, drop_at, drop-drop, get_or-take, get_or-drop, length-take-le}
use Rattle.block_products.specs.Inner.Marks.{zero_marks}

-- the first i rows are gone, and have marked the lanes
pub record Marking (rows m : ℕ) (words rows_left marks : List ℕ) : Type 0 where
  pub i : ℕ
  pub few : i ≤ rows
  pub left : rows_left ≡ drop (i * 64) (take (rows * 64) words)
  pub marked : marks ≡ zero_marks i m (λ i t. get_or words (i * 64 + t) 0)

module _ {rows m : ℕ} {words rows_left marks : List ℕ} (long : rows * 64 ≤ length words) (g : Marking rows m words rows_left marks) where
  rows_long : length rows_left ≡ rows * 64 - g.i * 64
  rows_long = ap length g.left ∙ length-drop (g.i * 64) (take (rows * 64) words) ∙ ap (λ (n : ℕ). n - g.i * 64) (length-take-le (rows * 64) words long)

  module _ (row rows_left' : List ℕ) (parts : rows_left ≡ row ++ rows_left') (size : length row ≡ min 64 (length rows_left)) (more : 0 < length rows_left) where
    marking_inside : g.i < rows
    marking_inside = omega (arith, more, rows_long)

    pub marking_long : length row ≡ 64
    marking_long = omega (arith, size, rows_long, marking_inside)

    pub marking_byte : (t : ℕ) → t < 64 → get_or row t 0 ≡ get_or words (g.i * 64 + t) 0
    marking_byte t inside =
        let first : take 64 rows_left ≡ row = rw parts (take_at row rows_left' 64 marking_long) in
        ap (λ (l : List ℕ). get_or l t 0) (sym first)
        ∙ get_or-take 64 rows_left t 0 inside
        ∙ ap (λ (l : List ℕ). get_or l t 0) g.left
        ∙ get_or-drop (g.i * 64) (take (rows * 64) words) t 0
        ∙ get_or-take (rows * 64) words (g.i * 64 + t) 0 (omega (arith, marking_inside))

    pub marking_next : (marks' : List ℕ) → marks' ≡ zero_marks (g.i + 1) m (λ i t. get_or words (i * 64 + t) 0) → Marking rows m words rows_left' marks'
    marking_next marks' marked =
        let e : (g.i + 1) * 64 ≡ g.i * 64 + 64 = omega arith in
        record {
          i = g.i + 1;
          few = omega (arith, marking_inside);
          left = rw (e, ← drop-drop, ← g.left, parts) (sym (drop_at row rows_left' 64 marking_long));
          marked = marked;
        }
