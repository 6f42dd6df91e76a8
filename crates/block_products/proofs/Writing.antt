-- The sums of a tile's lanes where they are written: the first lanes are done, and more lanes.
use mathlib.Core.Path.{◌≡◌, sym, ap, ◌∙◌}
use mathlib.Core.List.{List, ◌++◌}
use mathlib.Core.Logic.{by_cases}
use Prim.Native.Nat.{ℕ, ◌+◌, ◌-◌, ◌*◌, ◌/◌, ◌%◌, ◌≤◌, ◌<◌}
use native.Mathlib.Decide.{dec_lt}
use native.Mathlib.Nat.{add-mul, zero-add, zero-mul, mul_comm, mul_assoc, mul-le-mul, le_refl, mod-lt, div-add-mod', div-lt_iff_lt-mul}
use native.Mathlib.Omega.{arith}
use lib.ListN.{length, get_or, take, drop}
use Rattle.lists.specs.Choice.{pick}
use Rattle.lists.specs.Rows.{from, rows_from}
use Rattle.lists.proofs.Images.{from_self}
use Rattle.lists.proofs.Lanes.{get_d_rows, length_rows}
use Rattle.lists.proofs.Parts.{from_at}
use Rattle.std.proofs.lemmas.Nat.{mul-add-lt}
use Rattle.lists.proofs.Rows.{length_from, get_or_from, row_inside, rows_ext}
use Rattle.layout.specs.Layout.{row_after_row, lane_after_lane, lane_of}
use Rattle.layout.specs.Width.{symbol_bytes, bytes_of}
use Rattle.layout.proofs.Buffers.{length_lane, get_or_lane}
use Rattle.layout.proofs.LaneParts.{lanes_long, bytes_rows}
use Rattle.layout.proofs.Places.{held_by_row, held_by_lane, buffer_by_row, buffer_by_lane, lanes_whole}
use Rattle.layout.proofs.Readings.{get_or_bytes}
use Rattle.layout.proofs.Runs.{replaced, length_replaced, replaced_before, replaced_inside}
use Rattle.layout.proofs.Stretches.{rows_start, rows_end}
use Rattle.layout.proofs.Widths.{length_bytes}
use Rattle.block_products.specs.declared.Way.{Way}
use Rattle.block_products.specs.declared.Way.TheVariants.{RowsToLanes, LanesToRows, LanesToMarks}
use Rattle.block_products.specs.Inner.Marks.{all_zero, zero_marks}
use Rattle.block_products.specs.Inner.Ways.{out_bytes, result_bytes, Sums, LanesDone, MarksDone, Done}
use Rattle.block_products.proofs.Marks.{length_zero_marks, get_or_zero_marks, bytes_zero}
use Rattle.block_products.proofs.Lanes.{lane_is}

-- byte v of symbol i
sum_byte : (w n : ℕ) (g : ℕ → ℕ) (i v : ℕ) → i < n → v < w → get_or (bytes_of w (from g 0 n)) (i * w + v) 0 ≡ get_or (symbol_bytes w (g i)) v 0
sum_byte w n g i v hi hv =
    get_or_bytes w (from g 0 n) i v (rw (length_from g 0 n) hi) hv ∙ ap (λ (x : ℕ). get_or (symbol_bytes w x) v 0) (rw zero-add at (get_or_from g 0 n i 0 hi))

length_sums : (w n : ℕ) (g : ℕ → ℕ) → length (bytes_of w (from g 0 n)) ≡ w * n
length_sums w n g = length_bytes w (from g 0 n) ∙ ap (λ (x : ℕ). x * w) (length_from g 0 n) ∙ mul_comm n w

module _ (w outputs l first count : ℕ) (f : ℕ → ℕ → ℕ) (words : List ℕ) (sums : Sums w outputs first count f words) where
  -- byte v of sum i of lane q
  word_byte : (i v q : ℕ) → i < outputs → v < w → q < count → get_or words ((i * w + v) * 64 + q) 0 ≡ get_or (symbol_bytes w (f i (first + q))) v 0
  word_byte i v q output byte lane =
      sym (get_or_lane row_after_row (w * outputs) 64 q words (i * w + v) (mul-add-lt i w v outputs output byte) ∙ held_by_row (w * outputs) 64 words (i * w + v) q)
      ∙ ap (λ (u : List ℕ). get_or u (i * w + v) 0) (sums q lane)
      ∙ sum_byte w outputs (λ i. f i (first + q)) i v output byte

  module _ (fits : first + count ≤ l) where
    -- a row's symbols
    pub row_sums : 1 ≤ w → (i : ℕ) → i < outputs → (part xs : List ℕ) → ((y : ℕ) → y < w * 64 → get_or part y 0 ≡ get_or words (i * (w * 64) + y) 0) → count ≤ 64 → ((q v : ℕ) → q < count → v < w → get_or xs (q * w + v) 0 ≡ get_or part (v * 64 + q) 0) → (x : ℕ) → x < count * w → get_or xs x 0 ≡ get_or (bytes_of w (from (f i) 0 l)) (first * w + x) 0
    row_sums some i output part xs is few put x inside =
        let q : ℕ = x / w in
        let v : ℕ = x % w in
        let lane : q < count = (div-lt_iff_lt-mul some).1 inside in
        let byte : v < w = mod-lt x some in
        let at : q * w + v ≡ x = div-add-mod' x w in
        let within : v * 64 + q < w * 64 = omega (arith, row_inside w v 64 byte) in
        let place : i * (w * 64) + (v * 64 + q) ≡ (i * w + v) * 64 + q = omega (arith, mul_assoc i w 64, add-mul (i * w) v 64) in
        let from_first : first * w + (q * w + v) ≡ (first + q) * w + v = omega (arith, add-mul first q w) in
        rw (← at)
        (put q v lane byte
        ∙ is (v * 64 + q) within
        ∙ ap (λ (y : ℕ). get_or words y 0) place
        ∙ word_byte i v q output byte lane
        ∙ sym (ap (λ (y : ℕ). get_or (bytes_of w (from (f i) 0 l)) y 0) from_first ∙ sum_byte w l (f i) (first + q) v (omega arith) byte))

    -- the lanes one after the other
    abbrev n : ℕ
    n = w * outputs

    abbrev lanes : List ℕ
    lanes = rows_from (λ t. lane_of row_after_row n 64 t words) 0 count

    pub length_lanes : length lanes ≡ count * n
    length_lanes = length_rows (λ t. lane_of row_after_row n 64 t words) n (λ t. length_lane row_after_row n 64 t words) 0 count

    pub lanes_step : {out : List ℕ} → LanesDone w outputs l f first out → LanesDone w outputs l f (first + count) (take (first * n) out ++ (lanes ++ drop (count * n) (drop (first * n) out)))
    lanes_step {out} d =
        let a = first * n in
        let k = count * n in
        let inside : a + k ≤ length out = room out d.long in
        let size : length lanes ≡ k = length_lanes in
        record {
          long = length_replaced out lanes a k size inside ∙ d.long;
          holds = λ t below.
              by_cases (dec_lt t first)
              (λ low.
              lane_is n l t _ (bytes_of w (from (λ i. f i t) 0 outputs)) (length_sums w outputs (λ i. f i t))
              (λ r row.
              replaced_before out lanes a k size inside (t * n + r) (omega (arith, row_inside first t n low))
              ∙ sym (held_by_lane n l out r t)
              ∙ sym (get_or_lane lane_after_lane n l t out r row)
              ∙ ap (λ (u : List ℕ). get_or u r 0) (d.holds t low)))
              (λ high.
              let q : ℕ = t - first in
              let lane : q < count = omega arith in
              let back : first + q ≡ t = omega arith in
              lane_is n l t _ (bytes_of w (from (λ i. f i t) 0 outputs)) (length_sums w outputs (λ i. f i t))
              (λ r row.
              let moved : (first + q) * n + r ≡ a + (q * n + r) = omega (arith, add-mul first q n) in
              let place : t * n + r ≡ a + (q * n + r) = ap (λ (x : ℕ). x * n + r) (sym back) ∙ moved in
              ap (λ (x : ℕ). get_or (replaced out lanes a k size inside) x 0) place
              ∙ replaced_inside out lanes a k size inside (q * n + r) (omega (arith, row_inside count q n lane))
              ∙ get_d_rows (λ t. lane_of row_after_row n 64 t words) n (λ t. length_lane row_after_row n 64 t words) 0 count q r lane row
              ∙ ap (λ (x : ℕ). get_or (lane_of row_after_row n 64 x words) r 0) (zero-add q)
              ∙ ap (λ (u : List ℕ). get_or u r 0) (sums q lane)
              ∙ ap (λ (x : ℕ). get_or (bytes_of w (from (λ i. f i x) 0 outputs)) r 0) back));
        }
      where
        room : (out : List ℕ) → length out ≡ w * outputs * l → first * n + count * n ≤ length out
        room out long = let e : (first + count) * n ≤ l * n = mul-le-mul fits (le_refl n) in omega (arith, add-mul first count n, mul_comm n l)

    -- their marks
    abbrev marks : List ℕ
    marks = zero_marks n count (λ i t. get_or words (i * 64 + t) 0)

    pub marks_step : 1 ≤ w → w ≤ 2 → {out : List ℕ} → MarksDone outputs l f first out → MarksDone outputs l f (first + count) (take first out ++ (marks ++ drop count (drop first out)))
    marks_step some two {out} d =
        let size : length marks ≡ count = length_zero_marks count _ n in
        let inside : first + count ≤ length out = omega (arith, d.long) in
        record {
          long = length_replaced out marks first count size inside ∙ d.long;
          holds = λ t below.
              by_cases (dec_lt t first)
              (λ low. replaced_before out marks first count size inside t low ∙ d.holds t low)
              (λ high.
              let q : ℕ = t - first in
              let lane : q < count = omega arith in
              let back : first + q ≡ t = omega arith in
              ap (λ (x : ℕ). get_or (replaced out marks first count size inside) x 0) (sym back)
              ∙ replaced_inside out marks first count size inside q lane
              ∙ get_or_zero_marks count _ n q lane
              ∙ ap (λ b. pick b 0 1) (bytes_zero w outputs (λ r. get_or words (r * 64 + q) 0) (λ i. f i (first + q)) some two (λ i v output byte. word_byte i v q output byte lane))
              ∙ ap (λ (x : ℕ). pick (all_zero outputs (λ i. f i x)) 0 1) back);
        }

marks_end : (outputs l first : ℕ) (f : ℕ → ℕ → ℕ) (out : List ℕ) → l ≤ first → MarksDone outputs l f first out → out ≡ zero_marks outputs l f
unfolding zero_marks
marks_end outputs l first f out all d = from_at (λ t. pick (all_zero outputs (λ i. f i t)) 0 1) out l d.long (λ t lane. d.holds t (omega arith))

-- before the first lane
pub done_start : (way : Way) (w outputs l : ℕ) (f : ℕ → ℕ → ℕ) (out : List ℕ) → length out ≡ out_bytes way w outputs l → Done way w outputs l f 0 out
unfolding Done out_bytes
done_start RowsToLanes w outputs l f out long = record { long = long; holds = λ t none. absurd (omega arith) }
done_start LanesToRows w outputs l f out long =
    let e : w * outputs * l ≡ outputs * (l * w) = sym (lanes_long w outputs l) ∙ mul_assoc outputs l w in
    rw (zero-mul w) (rows_start out (long ∙ e))
done_start LanesToMarks w outputs l f out long = record { long = long; holds = λ t none. absurd (omega arith) }

-- after the last
pub done_end : (way : Way) (w outputs l first : ℕ) (f : ℕ → ℕ → ℕ) (out : List ℕ) → l ≤ first → Done way w outputs l f first out → out ≡ result_bytes way w outputs l f
unfolding Done result_bytes
done_end RowsToLanes w outputs l first f out all d =
    sym (lanes_whole (w * outputs) l out d.long)
    ∙ rows_ext _ _ 0 l (λ t low high. d.holds t (omega arith))
    ∙ bytes_rows w (λ t. from (λ i. f i t) 0 outputs) 0 l
    ∙ ap (bytes_of w) (sym (buffer_by_lane outputs l f))
done_end LanesToRows w outputs l first f out all d =
    rows_end (first * w) out (mul-le-mul all (le_refl w)) d
    ∙ buffer_by_row outputs (l * w) (λ i x. get_or (bytes_of w (from (f i) 0 l)) x 0)
    ∙ rows_ext _ _ 0 outputs (λ i low high. from_self (bytes_of w (from (f i) 0 l)) (l * w) (length_sums w l (f i) ∙ mul_comm w l))
    ∙ bytes_rows w (λ i. from (f i) 0 l) 0 outputs
    ∙ ap (bytes_of w) (sym (buffer_by_row outputs l f))
done_end LanesToMarks w outputs l first f out all d = marks_end outputs l first f out all d
