-- The slices of the table make the sums from each place on: the places are rows that stand one place apart, and their table has the same slices.
use mathlib.Core.Path.{◌≡◌, refl, sym, ap, ap₂, ◌∙◌}
use mathlib.Core.Bool.{true}
use mathlib.Core.List.{List, [], ◌∷◌, ◌++◌}
use Prim.Native.Nat.{ℕ, zero, suc, ◌+◌, ◌-◌, ◌*◌, ◌/◌, ◌%◌, ◌≤◌, ◌<◌}
use native.Mathlib.Nat.{zero-add}
use native.Mathlib.Omega.{arith}
use lib.Bits.{bit_xor}
use lib.ListN.{length, get_or, take, drop, length-take, length-drop}
use lib.Seq.{get_or-take, get_or-drop, drop-append-le}
use Rattle.lists.specs.Rows.{from}
use Rattle.lists.specs.Numbers.{all_below}
use Rattle.lists.specs.Padded.{zeros, padded}
use Rattle.lists.proofs.All.{All, All-at}
use Rattle.lists.proofs.Numbers.{at_below, below_cons, below_get_or}
use Rattle.lists.proofs.Fill.{drop_zeros}
use Rattle.lists.proofs.Padding.{length_padded, below_padded}
use Rattle.lists.proofs.Rows.{get_or_from, length_from, from_ext, row_inside}
use Rattle.layout.specs.Layout.{row_after_row, held, lane_of}
use Rattle.field.specs.Fields.{is_field, size_of, add, mul}
use Rattle.field.specs.Inner.Sums.{dot}
use Rattle.field.proofs.BothKinds.{arithmetic}
use Rattle.kernel.specs.Inner.Lanes.{lanewise}
use Rattle.kernel.proofs.Lanes.{lanewise_ext, get_or_lanewise, length_lanewise}
use Rattle.row_sums.specs.Inner.Combined.{combined}
use Rattle.row_sums.specs.Inner.Digits.{xor_sum, multiplied}
use Rattle.row_sums.proofs.FirstWeights.{dot_front}
use Rattle.row_sums.proofs.Turns.{length_multiplied}
use Rattle.subset_sums.specs.Inner.Subsets.{subset, table_of as table_of_rows}
use Rattle.subset_sums.specs.Inner.Lists.{subset_at, slices_from, slices_added, turns_of, Slices, Grouped}
use Rattle.subset_sums.proofs.Subsets.{subset_ext}
use Rattle.subset_sums.proofs.Adding.{length_turns}
use Rattle.subset_sums.proofs.Right.{table_at as rows_at, subset_low, slices_all, output_right}
use Rattle.sliding_sums.specs.Inner.Windows.{window_sums, Windows}
use Rattle.sliding_sums.specs.Inner.Tables.{sliding_subset, sliding_table, place_of, Placed, Slicing, sum_at}
use Rattle.sliding_sums.proofs.Tables.{table_at}

-- what a slice of a table of rows begins at: group and subset
abbrev Slice : ℕ → ℕ → Type 0
Slice groups o = (o % 64 ≡ 0) × (o < groups * 1024)

slices_are : (groups : ℕ) (v : ℕ → ℕ) → ((g : ℕ) → v g < 16) → All (Slice groups) (slices_from groups 0 v)
slices_are groups v low = slices_all (Slice groups) groups 0 groups v (λ i within. (omega arith, omega (arith, low i))) (omega arith)

-- sums over lists whose values agree
sums_agree : (f g : ℕ → ℕ) (xs ys : List ℕ) → length xs ≡ length ys → ((i : ℕ) → i < length xs → f (get_or xs i 0) ≡ g (get_or ys i 0)) → xor_sum f xs ≡ xor_sum g ys
unfolding xor_sum
sums_agree f g [] [] long same = refl
sums_agree f g [] (y ∷ ys) long same = absurd (omega arith)
sums_agree f g (x ∷ xs) [] long same = absurd (omega arith)
sums_agree f g (x ∷ xs) (y ∷ ys) long same =
    ap₂ bit_xor (same 0 (omega arith)) (sums_agree f g xs ys (omega arith) (λ i h. same (suc i) (omega arith)))

-- a sum with its lists exchanged, of which the longer has the other's symbols in front
dot_turned : (p : ℕ) → is_field p ≡ true → (xs ws ys : List ℕ) → length xs ≡ length ws → length ws ≤ length ys → all_below (size_of p) xs ≡ true → all_below (size_of p) ws ≡ true → ((i : ℕ) → i < length ws → get_or xs i 0 ≡ get_or ys i 0) → dot p xs ws ≡ dot p ws ys
unfolding dot
dot_turned p v [] [] ys long room below weights same = refl
dot_turned p v [] (w ∷ ws) ys long room below weights same = absurd (omega arith)
dot_turned p v (x ∷ xs) [] ys long room below weights same = absurd (omega arith)
dot_turned p v (x ∷ xs) (w ∷ ws) [] long room below weights same = absurd (omega arith)
dot_turned p v (x ∷ xs) (w ∷ ws) (y ∷ ys) long room below weights same =
    let a = below_cons (size_of p) x xs below in
    let b = below_cons (size_of p) w ws weights in
    ap₂ (add p) ((arithmetic p v).mul_comm x w a.0 b.0 ∙ ap (mul p w) (same 0 (omega arith))) (dot_turned p v xs ws ys (omega arith) (omega arith) a.1 b.1 (λ i h. same (suc i) (omega arith)))

module _ (groups at : ℕ) (row : List ℕ) (few : groups ≤ 64) (low : at ≤ 192) where
  -- the rows that stand one place apart, from place `at` on
  unfoldable apart : List ℕ
  apart = from (λ p. get_or row (at + (p / 64 + p % 64)) 0) 0 (groups * 256)

  apart_at : (k t : ℕ) → k < 4 * groups → t < 64 → get_or apart (k * 64 + t) 0 ≡ get_or row (at + (k + t)) 0
  unfolding apart
  apart_at k t inside lane =
      let number : (k * 64 + t) / 64 ≡ k = omega arith in
      let rest : (k * 64 + t) % 64 ≡ t = omega arith in
      rw zero-add at (get_or_from (λ p. get_or row (at + (p / 64 + p % 64)) 0) 0 (groups * 256) (k * 64 + t) 0 (omega arith)) ∙ rw (number, rest)

  apart_below : all_below 256 row ≡ true → all_below 256 apart ≡ true
  unfolding apart
  apart_below below =
      at_below 256 apart
      (λ p h.
      let inside : p < groups * 256 = omega (arith, length_from (λ p. get_or row (at + (p / 64 + p % 64)) 0) 0 (groups * 256)) in
      rw (rw zero-add at (get_or_from (λ p. get_or row (at + (p / 64 + p % 64)) 0) 0 (groups * 256) p 0 inside)) (below_get_or 256 row (omega arith) below (at + (p / 64 + p % 64))))

  module _ (ws : List ℕ) (weights : length ws ≤ 255) (room : length ws ≤ 4 * groups) (weights_below : all_below 256 ws ≡ true) (below : all_below 256 row ≡ true) where
    grouped : Grouped (length ws) groups ws apart
    unfolding apart
    grouped =
        record {
          few = weights;
          room = room;
          long = length_from (λ p. get_or row (at + (p / 64 + p % 64)) 0) 0 (groups * 256);
          symbols = apart_below below;
          weights = refl;
          weights_below = weights_below;
        }

    -- the same byte of a slice in both tables
    byte_same : (g v t : ℕ) → g < groups → v < 16 → t < 64 → get_or (drop at (sliding_table row)) (place_of (g * 1024 + v * 64) + t) 0 ≡ get_or (table_of_rows groups apart) (g * 1024 + v * 64 + t) 0
    unfolding place_of sliding_subset subset
    byte_same g v t group slice lane =
        let place : at + ((g * 1024 + v * 64) / 1024 * 4 + (g * 1024 + v * 64) % 1024 * 8 + t) ≡ v * 512 + (at + (4 * g + t)) = omega arith in
        get_or-drop at (sliding_table row) ((g * 1024 + v * 64) / 1024 * 4 + (g * 1024 + v * 64) % 1024 * 8 + t) 0
        ∙ ap (λ (x : ℕ). get_or (sliding_table row) x 0) place
        ∙ table_at row v (at + (4 * g + t)) slice (omega arith)
        ∙ subset_ext 4 (λ i. get_or row (at + (4 * g + t) + i) 0) (λ i. get_or apart ((4 * g + i) * 64 + t) 0) 0 v
        (λ i a b.
        let moved : at + (4 * g + t) + i ≡ at + (4 * g + i + t) = omega arith in
        ap (λ (x : ℕ). get_or row x 0) moved ∙ sym (apart_at (4 * g + i) t (omega arith) lane))
        ∙ sym (rows_at (length ws) groups ws apart grouped t lane g v group slice)

    slice_same : (o t : ℕ) → Slice groups o → t < 64 → get_or (drop at (sliding_table row)) (place_of o + t) 0 ≡ get_or (table_of_rows groups apart) (o + t) 0
    slice_same o t s lane =
        let parts : o / 1024 * 1024 + o % 1024 / 64 * 64 ≡ o = omega (arith, s.0) in
        rw parts at (byte_same (o / 1024) (o % 1024 / 64) t (omega (arith, s.1)) (omega arith) lane)

    module _ (list counts : List ℕ) (p : Placed groups ws list counts) where
      abbrev rows : List ℕ
      rows = p.rows

      -- the slices of digit 7 − b
      slices_same : (b t : ℕ) → b < 8 → t < 64 → xor_sum (λ o. get_or (drop at (sliding_table row)) (o + t) 0) (take (get_or counts b 0) (drop (b * groups) list)) ≡ xor_sum (λ o. get_or (table_of_rows groups apart) (o + t) 0) (take (get_or counts b 0) (drop (b * groups) rows))
      slices_same b t digit lane =
          let l = p.listing in
          let n : ℕ = get_or counts b 0 in
          let f : ℕ → ℕ → ℕ = λ t o. place_of o in
          let fits : b * groups + groups ≤ length rows = omega (arith, l.long, row_inside 8 b groups digit) in
          let size : length (take n (drop (b * groups) rows)) ≡ n = simp (length-take, length-drop) (omega (arith, l.few b digit)) in
          ap (λ (os : List ℕ). xor_sum (λ o. get_or (drop at (sliding_table row)) (o + t) 0) (take n (drop (b * groups) os))) p.moved
          ∙ (sums_agree _ _ (take n (drop (b * groups) (lanewise f rows))) (take n (drop (b * groups) rows))
          (simp (length-take, length-drop, length_lanewise) refl)
          (λ i h.
          let short : length (take n (drop (b * groups) (lanewise f rows))) ≡ length (take n (drop (b * groups) rows)) = simp (length-take, length-drop, length_lanewise) refl in
          let inside : i < n = omega arith in
          let slice : Slice groups (get_or (take n (drop (b * groups) rows)) i 0) = All-at (Slice groups) 0 (take n (drop (b * groups) rows)) (rw (l.listed b digit) (slices_are groups (subset_at ws (7 - b)) (subset_low ws (7 - b)))) i (omega arith) in
          let here : get_or (take n (drop (b * groups) rows)) i 0 ≡ get_or rows (b * groups + i) 0 = get_or-take n (drop (b * groups) rows) i 0 inside ∙ get_or-drop (b * groups) rows i 0 in
          let there : get_or (take n (drop (b * groups) (lanewise f rows))) i 0 ≡ place_of (get_or rows (b * groups + i) 0) = get_or-take n (drop (b * groups) (lanewise f rows)) i 0 inside ∙ get_or-drop (b * groups) (lanewise f rows) i 0 ∙ get_or_lanewise f rows (b * groups + i) (omega (arith, l.few b digit)) in
          rw (there, here) (slice_same (get_or rows (b * groups + i) 0) t (rw here at slice) lane)))

      turns_same : (b : ℕ) → b ≤ 8 → turns_of b groups (drop at (sliding_table row)) list counts ≡ turns_of b groups (table_of_rows groups apart) rows counts
      unfolding turns_of slices_added
      turns_same zero h = refl
      turns_same (suc b) h =
          let acc : List ℕ = multiplied (turns_of b groups (table_of_rows groups apart) rows counts) in
          rw (turns_same b (omega arith))
          (lanewise_ext _ _ acc (λ t inside. ap (bit_xor (get_or acc t 0)) (slices_same b t (omega arith) (rw (length_multiplied (turns_of b groups (table_of_rows groups apart) rows counts) ∙ length_turns b groups (table_of_rows groups apart) rows counts) at inside))))

      -- the sum from place at + t on
      pub turn_right : (t : ℕ) → t < 64 → length ws + (at + t) ≤ length row → get_or (turns_of 8 groups (drop at (sliding_table row)) list counts) t 0 ≡ dot 0 ws (drop (at + t) row)
      unfolding combined lane_of held row_after_row is_field size_of
      turn_right t lane end =
          let n : ℕ = length ws in
          let xs : List ℕ = lane_of row_after_row n 64 t apart in
          let size : length xs ≡ n = length_from (λ i. get_or apart (i * 64 + t) 0) 0 n in
          let at_i : (i : ℕ) → i < n → get_or xs i 0 ≡ get_or row (at + (i + t)) 0 = λ i h. rw zero-add at (get_or_from (λ i. get_or apart (i * 64 + t) 0) 0 n i 0 h) ∙ apart_at i t (omega arith) lane in
          ap (λ (l : List ℕ). get_or l t 0) (turns_same 8 (omega arith) ∙ output_right n groups ws apart grouped rows counts p.listing)
          ∙ rw zero-add at (get_or_from (λ t. dot 0 (lane_of row_after_row n 64 t apart) ws) 0 64 t 0 lane)
          ∙ dot_turned 0 refl xs ws (drop (at + t) row) size (simp length-drop (omega arith))
          (at_below 256 xs (λ i h. let low : i < n = omega arith in rw (at_i i low) (below_get_or 256 row (omega arith) below (at + (i + t)))))
          weights_below
          (λ i h.
          let place : at + (i + t) ≡ at + t + i = omega arith in
          at_i i h ∙ ap (λ (x : ℕ). get_or row x 0) place ∙ sym (get_or-drop (at + t) row i 0))

-- every listed slice lies in every part of the table that is used
pub slices_inside : (groups at : ℕ) (tab list counts : List ℕ) → groups ≤ 64 → at ≤ 192 → length tab ≡ 8192 → Slicing groups list counts → Slices groups (drop at tab) list counts
unfolding place_of
slices_inside groups at tab list counts few low long s =
    let p = s.placed in
    let l = p.listing in
    let f : ℕ → ℕ → ℕ = λ t o. place_of o in
    record {
      long = ap length p.moved ∙ length_lanewise f p.rows ∙ l.long;
      counted = l.counted;
      few = l.few;
      inside = λ b i digit below.
          let n : ℕ = get_or counts b 0 in
          let fits : b * groups + groups ≤ length p.rows = omega (arith, l.long, row_inside 8 b groups digit) in
          let size : length (take n (drop (b * groups) p.rows)) ≡ n = simp (length-take, length-drop) (omega (arith, l.few b digit)) in
          let slice : Slice groups (get_or (take n (drop (b * groups) p.rows)) i 0) = All-at (Slice groups) 0 (take n (drop (b * groups) p.rows)) (rw (l.listed b digit) (slices_are groups (subset_at s.weights (7 - b)) (subset_low s.weights (7 - b)))) i (omega arith) in
          let here : get_or (take n (drop (b * groups) p.rows)) i 0 ≡ get_or p.rows (b * groups + i) 0 = get_or-take n (drop (b * groups) p.rows) i 0 below ∙ get_or-drop (b * groups) p.rows i 0 in
          let there : get_or list (b * groups + i) 0 ≡ place_of (get_or p.rows (b * groups + i) 0) = ap (λ (os : List ℕ). get_or os (b * groups + i) 0) p.moved ∙ get_or_lanewise f p.rows (b * groups + i) (omega (arith, l.few b digit)) in
          let o = rw here at slice in
          rw (there, length-drop) (omega (arith, o.0, o.1));
    }

-- all sums
pub sums_right : (groups l : ℕ) (ws row list counts : List ℕ) → groups ≤ 64 → length ws ≤ 4 * groups → Windows 256 ws row l → Placed groups ws list counts → from (sum_at groups (sliding_table (padded 576 row)) list counts) 0 l ≡ window_sums 0 ws row l
unfolding window_sums sum_at padded
sums_right groups l ws row list counts few room w p =
    from_ext _ _ 0 l
    (λ t low high.
    let place : t / 64 * 64 + t % 64 ≡ t = omega arith in
    let wide : length (row ++ zeros (576 - length row)) ≡ 576 = length_padded 576 row (omega (arith, w.short)) in
    turn_right groups (t / 64 * 64) (row ++ zeros (576 - length row)) few (omega (arith, w.places)) ws w.few room w.weights (below_padded 256 576 row (omega arith) w.symbols) list counts p (t % 64) (omega arith) (omega (arith, w.room))
    ∙ ap (λ (x : ℕ). dot 0 ws (drop x (row ++ zeros (576 - length row)))) place
    ∙ ap (dot 0 ws) (drop-append-le t row (zeros (576 - length row)) (omega (arith, w.room)))
    ∙ dot_front 0 ws (drop t row) (zeros (576 - length row)) (simp length-drop (omega (arith, w.room))))

-- a row in front of zeros
pub row_in_front : (row new old : List ℕ) → new ≡ row → old ≡ zeros 576 → new ++ drop (length row) old ≡ padded 576 row
unfolding padded
row_in_front row new old e z = ap₂ (λ (a b : List ℕ). a ++ drop (length row) b) e z ∙ ap (λ (b : List ℕ). row ++ b) (drop_zeros (length row) 576)
