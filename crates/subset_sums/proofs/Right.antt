-- The slices that an output adds for a digit make the sum of the rows whose weight has the digit, and Horner's rule over them
-- the sum of the rows times the weights.
use Rattle.std.proofs.Common.{◌≡◌, refl, sym, ap, ap₂, ◌∙◌, List, ℕ, zero, suc, ◌+◌, ◌-◌, ◌*◌, ◌/◌, ◌%◌, ◌^◌, ◌≤◌, ◌<◌, add-zero, zero-add, mul-zero, suc-add, arith, eqb-true, bit_xor, eqb, length, get_or, take, drop, length-take, length-drop, get_or-take, get_or-drop, length-take-le}
use native.Mathlib.Nat.{zero-div}
use lib.Bits.{xor_zero_l, xor_zero_r, xor_assoc}
use lib.ListN.{get_or-eq_default}
use Rattle.lists.specs.Counting.{passing_from}
use Rattle.lists.proofs.All.{All, All-at}
use Rattle.lists.proofs.Cases.{by_test}
use Rattle.lists.proofs.Numbers.{below_take}
use Rattle.lists.proofs.Rows.{get_or_from, length_from, from_ext, row_inside}
use Rattle.field.specs.Inner.Sums.{dot}
use Rattle.kernel.proofs.Lanes.{lanewise_ext}
use Rattle.layout.specs.Layout.{row_after_row, held, lane_of}
use Rattle.row_sums.specs.Inner.Combined.{combined, Weighted}
use Rattle.row_sums.specs.Inner.Digits.{xor_sum, row_at, rows_added, multiplied, rows_with}
use Rattle.row_sums.proofs.Turns.{sums_of, length_sums, sums_start, sums_turn, sums_end, length_multiplied}
use Rattle.row_sums.proofs.Horner.{sum_front}
use Rattle.subset_sums.specs.Inner.Subsets.{subset_from, subset, table_byte, table_of}
use Rattle.subset_sums.specs.Inner.Lists.{subset_at, slices_from, slices_added, turns_of, Slices, Listing, Grouped}
use Rattle.subset_sums.proofs.Subsets.{subset_none, subset_ext}

-- the sum of the f values from i on, each times its digit
unfoldable sum_digits : (ℕ → ℕ) → (ℕ → ℕ) → ℕ → ℕ → ℕ
sum_digits x e zero i = 0
sum_digits x e (suc f) i = bit_xor (x i * e i) (sum_digits x e f (i + 1))

-- the digits of a subset
digits_of : (a b c d : ℕ) → a < 2 → b < 2 → c < 2 → d < 2 → ((a + b * 2 + c * 4 + d * 8) % 2 ≡ a) × ((a + b * 2 + c * 4 + d * 8) / 2 % 2 ≡ b) × ((a + b * 2 + c * 4 + d * 8) / 2 / 2 % 2 ≡ c) × ((a + b * 2 + c * 4 + d * 8) / 2 / 2 / 2 % 2 ≡ d)
digits_of a b c d ha hb hc hd =
    let one : (a + b * 2 + c * 4 + d * 8) / 2 ≡ b + c * 2 + d * 4 = omega arith in
    let two : (b + c * 2 + d * 4) / 2 ≡ c + d * 2 = omega arith in
    let three : (c + d * 2) / 2 ≡ d = omega arith in
    rw (one, two, three) (omega arith, omega arith, omega arith, omega arith)

module _ (x e : ℕ → ℕ) (digit : (i : ℕ) → e i < 2) where
  passing_digits : (f i : ℕ) → xor_sum x (passing_from f i (λ i. eqb (e i) 1)) ≡ sum_digits x e f i
  unfolding xor_sum passing_from sum_digits
  passing_digits zero i = refl
  passing_digits (suc f) i =
      sum_front x i (e i) (passing_from f (i + 1) (λ i. eqb (e i) 1)) (digit i) ∙ ap (bit_xor (x i * e i)) (passing_digits f (i + 1))

  digits_none : (n i : ℕ) → ((k : ℕ) → i ≤ k → k < i + n → e k ≡ 0) → sum_digits x e n i ≡ 0
  unfolding sum_digits
  digits_none zero i none = refl
  digits_none (suc n) i none =
      rw (none i (omega arith) (omega arith), mul-zero, xor_zero_l) (digits_none n (i + 1) (λ k low high. none k (omega arith) (omega arith)))

  digits_padded : (m n i : ℕ) → ((k : ℕ) → i + m ≤ k → k < i + m + n → e k ≡ 0) → sum_digits x e (m + n) i ≡ sum_digits x e m i
  unfolding sum_digits
  digits_padded zero n i none = rw zero-add (digits_none n i (λ k low high. none k (omega arith) (omega arith)))
  digits_padded (suc m) n i none =
      ap (λ (f : ℕ). sum_digits x e f i) (suc-add m n)
      ∙ ap (bit_xor (x i * e i)) (digits_padded m n (i + 1) (λ k low high. none k (omega arith) (omega arith)))

  digits_ext : (y : ℕ → ℕ) (f i : ℕ) → ((k : ℕ) → i ≤ k → k < i + f → x k ≡ y k) → sum_digits x e f i ≡ sum_digits y e f i
  unfolding sum_digits
  digits_ext y zero i same = refl
  digits_ext y (suc f) i same =
      ap₂ (λ (a b : ℕ). bit_xor (a * e i) b) (same i (omega arith) (omega arith)) (digits_ext y f (i + 1) (λ k low high. same k (omega arith) (omega arith)))

  -- the subset of group g
  abbrev at : ℕ → ℕ
  at g = e (4 * g) + e (4 * g + 1) * 2 + e (4 * g + 2) * 4 + e (4 * g + 3) * 8

  -- the sums of the subsets of f groups from g on
  unfoldable groups_sum : ℕ → ℕ → ℕ
  groups_sum zero g = 0
  groups_sum (suc f) g = bit_xor (subset (λ i. x (4 * g + i)) (at g)) (groups_sum f (g + 1))

  four : (a b c d r : ℕ) → bit_xor a (bit_xor b (bit_xor c (bit_xor d r))) ≡ bit_xor (bit_xor a (bit_xor b (bit_xor c (bit_xor d 0)))) r
  four a b c d r =
      rw (xor_zero_r d, xor_assoc a (bit_xor b (bit_xor c d)) r, xor_assoc b (bit_xor c d) r, xor_assoc c d r)

  digits_groups : (f g : ℕ) → sum_digits x e (4 * f) (4 * g) ≡ groups_sum f g
  unfolding sum_digits groups_sum subset subset_from
  digits_groups zero g = refl
  digits_groups (suc f) g =
      let more : 4 * suc f ≡ suc (suc (suc (suc (4 * f)))) = omega arith in
      let one : 4 * g + 1 + 1 ≡ 4 * g + 2 = omega arith in
      let two : 4 * g + 2 + 1 ≡ 4 * g + 3 = omega arith in
      let next : 4 * g + 3 + 1 ≡ 4 * (g + 1) = omega arith in
      let d₀ : e (4 * g) < 2 = digit (4 * g) in
      let d₁ : e (4 * g + 1) < 2 = digit (4 * g + 1) in
      let d₂ : e (4 * g + 2) < 2 = digit (4 * g + 2) in
      let d₃ : e (4 * g + 3) < 2 = digit (4 * g + 3) in
      let v = digits_of (e (4 * g)) (e (4 * g + 1)) (e (4 * g + 2)) (e (4 * g + 3)) d₀ d₁ d₂ d₃ in
      ap (λ (n : ℕ). sum_digits x e n (4 * g)) more
      ∙ rw (one, two, next, v.0, v.1, v.2, v.3, add-zero (4 * g), digits_groups f (g + 1))
      (four (x (4 * g) * e (4 * g)) (x (4 * g + 1) * e (4 * g + 1)) (x (4 * g + 2) * e (4 * g + 2)) (x (4 * g + 3) * e (4 * g + 3)) (groups_sum f (g + 1)))

  -- slices of a table whose bytes are the sums of the subsets
  module _ (value : ℕ → ℕ) (groups : ℕ) (right : (g v : ℕ) → g < groups → v < 16 → value (g * 1024 + v * 64) ≡ subset (λ i. x (4 * g + i)) v) where
    slices_sum : (f g : ℕ) → g + f ≤ groups → xor_sum value (slices_from f g at) ≡ groups_sum f g
    unfolding xor_sum slices_from groups_sum subset
    slices_sum zero g h = refl
    slices_sum (suc f) g h =
        let d₀ : e (4 * g) < 2 = digit (4 * g) in
        let d₁ : e (4 * g + 1) < 2 = digit (4 * g + 1) in
        let d₂ : e (4 * g + 2) < 2 = digit (4 * g + 2) in
        let d₃ : e (4 * g + 3) < 2 = digit (4 * g + 3) in
        let rest = slices_sum f (g + 1) (omega arith) in
        by_test (eqb (at g) 0)
        (λ none.
        let empty : at g ≡ 0 = eqb-true (at g) 0 none in
        rw none (rest ∙ sym (ap (λ (v : ℕ). bit_xor (subset_from 4 (λ i. x (4 * g + i)) 0 v) (groups_sum f (g + 1))) empty ∙ rw (subset_none 4 (λ i. x (4 * g + i)) 0) (xor_zero_l (groups_sum f (g + 1))))))
        (λ some. rw some (ap₂ bit_xor (right g (at g) (omega arith) (omega arith)) rest))

module _ (rows groups : ℕ) (ws buffer : List ℕ) (a : Grouped rows groups ws buffer) where
  -- the rows without the padding
  abbrev used : List ℕ
  used = take (rows * 64) buffer

  pub weighted : Weighted 256 rows 64 ws used 64
  weighted =
      record {
        few = a.few;
        weights = omega (arith, a.weights);
        weights_below = a.weights_below;
        long = length-take-le (rows * 64) buffer (omega (arith, a.room, a.long));
        symbols = below_take 256 (rows * 64) buffer a.symbols;
        out_long = refl;
      }

  -- a byte of the table
  pub table_at : (t : ℕ) → t < 64 → (g v : ℕ) → g < groups → v < 16 → get_or (table_of groups buffer) (g * 1024 + v * 64 + t) 0 ≡ subset (λ i. get_or buffer ((4 * g + i) * 64 + t) 0) v
  unfolding table_of table_byte subset
  table_at t lane g v group slice =
      let p : ℕ = g * 1024 + v * 64 + t in
      let part : (g * 1024 + v * 64 + t) / 1024 ≡ g = omega arith in
      let low : (g * 1024 + v * 64 + t) % 64 ≡ t = omega arith in
      let number : (g * 1024 + v * 64 + t) / 64 ≡ g * 16 + v = omega arith in
      let rest : (g * 16 + v) % 16 ≡ v = omega arith in
      rw zero-add at (get_or_from (table_byte buffer) 0 (groups * 1024) (g * 1024 + v * 64 + t) 0 (omega arith))
      ∙ rw (part, low, number, rest)
      (subset_ext 4 (λ i. get_or buffer (g * 256 + (i * 64 + t)) 0) (λ i. get_or buffer ((4 * g + i) * 64 + t) 0) 0 v
      (λ i b c. let place : g * 256 + (i * 64 + t) ≡ (4 * g + i) * 64 + t = omega arith in ap (λ (q : ℕ). get_or buffer q 0) place))

  -- the digit of the weight of row i
  abbrev digit_at : ℕ → ℕ → ℕ
  digit_at d i = get_or ws i 0 / 2 ^ d % 2

  padding_digit : (d k : ℕ) → rows ≤ k → digit_at d k ≡ 0
  padding_digit d k low = rw (get_or-eq_default ws 0 {n = k} (omega (arith, a.weights)), zero-div)

  used_at : (t : ℕ) → t < 64 → (k : ℕ) → k < rows → get_or buffer (k * 64 + t) 0 ≡ get_or used (k * 64 + t) 0
  used_at t lane k row = sym (get_or-take (rows * 64) buffer (k * 64 + t) 0 (omega arith))

  combined_used : combined row_after_row 0 rows 64 ws used ≡ combined row_after_row 0 rows 64 ws buffer
  unfolding combined lane_of held row_after_row
  combined_used =
      from_ext _ _ 0 64
      (λ t low high. ap (λ (lane : List ℕ). dot 0 lane ws) (from_ext _ _ 0 rows (λ i from to. sym (used_at t (omega arith) i (omega arith)))))

  -- in each lane the slices of a digit make the sum of the rows that have it
  slices_rows : (d t : ℕ) → t < 64 → xor_sum (λ o. get_or (table_of groups buffer) (o + t) 0) (slices_from groups 0 (subset_at ws d)) ≡ xor_sum (λ j. get_or used (j * 64 + t) 0) (rows_with d rows ws)
  unfolding rows_with subset_at
  slices_rows d t lane =
      let x : ℕ → ℕ = λ i. get_or buffer (i * 64 + t) 0 in
      let y : ℕ → ℕ = λ i. get_or used (i * 64 + t) 0 in
      let small : (i : ℕ) → digit_at d i < 2 = λ i. omega arith in
      let whole : rows + (4 * groups - rows) ≡ 4 * groups = omega (arith, a.room) in
      slices_sum x (digit_at d) small (λ o. get_or (table_of groups buffer) (o + t) 0) groups (table_at t lane) groups 0 (omega arith)
      ∙ sym (digits_groups x (digit_at d) small groups 0)
      ∙ ap (λ (n : ℕ). sum_digits x (digit_at d) n 0) (sym whole)
      ∙ digits_padded x (digit_at d) small rows (4 * groups - rows) 0 (λ k low high. padding_digit d k (omega arith))
      ∙ digits_ext x (digit_at d) small y rows 0 (λ k low high. used_at t lane k (omega arith))
      ∙ sym (passing_digits y (digit_at d) small rows 0)

  -- the slices of digit d added to acc are the rows that have it
  slices_added_lem : (d : ℕ) (acc : List ℕ) → length acc ≡ 64 → slices_added (table_of groups buffer) (slices_from groups 0 (subset_at ws d)) acc ≡ rows_added 64 used (rows_with d rows ws) acc
  unfolding slices_added rows_added row_at held row_after_row
  slices_added_lem d acc long =
      lanewise_ext _ _ acc (λ t inside. ap (bit_xor (get_or acc t 0)) (slices_rows d t (omega arith)))

  module _ (list counts : List ℕ) (l : Listing groups ws list counts) where
    turns_sums : (b d : ℕ) → b + d ≡ 8 → turns_of b groups (table_of groups buffer) list counts ≡ sums_of rows 64 ws used d
    unfolding turns_of
    turns_sums zero d e =
        let all : d ≡ 8 = omega arith in
        rw all (sums_start rows 64 ws used weighted)
    turns_sums (suc b) d e =
        let digit : 7 - b ≡ d = omega arith in
        let acc : List ℕ = sums_of rows 64 ws used (d + 1) in
        let held = turns_sums b (d + 1) (omega arith) in
        rw (held, l.listed b (omega arith), digit)
        (slices_added_lem d (multiplied acc) (length_multiplied acc ∙ length_sums rows 64 ws used (d + 1))
        ∙ sums_turn rows 64 ws used weighted d (d + 1) rows acc refl refl refl)

    -- the output is the sum of the rows times the weights
    pub output_right : turns_of 8 groups (table_of groups buffer) list counts ≡ combined row_after_row 0 rows 64 ws buffer
    output_right = turns_sums 8 0 refl ∙ sums_end rows 64 ws used weighted ∙ combined_used

-- what holds of every slice of n groups holds of the listed ones
pub slices_all : (P : ℕ → Type 0) (f g n : ℕ) (v : ℕ → ℕ) → ((i : ℕ) → i < n → P (i * 1024 + v i * 64)) → g + f ≤ n → All P (slices_from f g v)
unfolding slices_from
slices_all P zero g n v every h = tt
slices_all P (suc f) g n v every h =
    let rest = slices_all P f (g + 1) n v every (omega arith) in
    by_test (eqb (v g) 0)
    (λ none. rw none rest)
    (λ some. rw some (every g (omega arith), rest))

pub subset_low : (ws : List ℕ) (d g : ℕ) → subset_at ws d g < 16
unfolding subset_at
subset_low ws d g = omega arith

-- what `output` requires of the lists that `list_output` makes
pub listing_slices : (groups : ℕ) (ws tab list counts : List ℕ) → Listing groups ws list counts → length tab ≡ groups * 1024 → Slices groups tab list counts
listing_slices groups ws tab list counts l tab_long =
    record {
      long = l.long;
      counted = l.counted;
      few = l.few;
      inside = λ b i h below.
          let n : ℕ = get_or counts b 0 in
          let stretch : List ℕ = take n (drop (b * groups) list) in
          let size : length stretch ≡ n = simp (length-take, length-drop) (omega (arith, l.long, row_inside 8 b groups h, l.few b h)) in
          let all = All-at (λ o. o + 64 ≤ groups * 1024) 0 (slices_from groups 0 (subset_at ws (7 - b))) (slices_all (λ o. o + 64 ≤ groups * 1024) groups 0 groups (subset_at ws (7 - b)) (λ i within. omega (arith, subset_low ws (7 - b) i)) (omega arith)) i (rw (← l.listed b h) (omega arith)) in
          rw (tab_long, ← get_or-drop (b * groups) list i 0, ← get_or-take n (drop (b * groups) list) i 0 below, l.listed b h) all;
    }

pub length_table : (groups : ℕ) (rows : List ℕ) → length (table_of groups rows) ≡ groups * 1024
unfolding table_of
length_table groups rows = length_from (table_byte rows) 0 (groups * 1024)
