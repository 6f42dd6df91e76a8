-- Sums of subsets: a row more, the slices of a group, and the groups of a table.
use Rattle.std.proofs.Common.{length-take-le, get_or-take, pow_mono, ◌≡◌, refl, sym, ap, ap₂, ◌∙◌, List, ◌++◌, ℕ, zero, suc, ◌+◌, ◌-◌, ◌*◌, ◌/◌, ◌%◌, ◌^◌, ◌≤◌, ◌<◌, add-zero, zero-add, mul-zero, mul-one, pow-suc, arith, bit_xor, length, get_or, take, drop, length-append, length-drop}
use lib.Bits.{xor_zero_r, xor_assoc}
use Rattle.std.proofs.Math.ListN.{get_or-append}
use Rattle.lists.specs.Rows.{from}
use Rattle.lists.specs.Padded.{zeros}
use native.Mathlib.Nat.{add-sub_cancel_left}
use Rattle.lists.proofs.Rows.{length_from, get_or_from, from_ext, part_length, get_d_part, from_append}
use Rattle.lists.proofs.Fill.{length_zeros}
use Rattle.kernel.specs.Inner.Lanes.{lanewise}
use Rattle.lists.proofs.Parts.{Valued, valued_part, valued_at, from_at}
use Rattle.lists.proofs.Padding.{get_or_zeros}
use Rattle.lists.proofs.Lanes.{low_sixteen}
use Rattle.subset_sums.specs.Inner.Subsets.{subset_from, subset, group_byte, group_of, table_byte, summed, FirstSums}

pub subset_none : (f : ℕ) (x : ℕ → ℕ) (i : ℕ) → subset_from f x i 0 ≡ 0
unfolding subset_from
subset_none zero x i = refl
subset_none (suc f) x i = rw (mul-zero, subset_none f x (i + 1))

pub subset_ext : (f : ℕ) (x y : ℕ → ℕ) (i v : ℕ) → ((k : ℕ) → i ≤ k → k < i + f → x k ≡ y k) → subset_from f x i v ≡ subset_from f y i v
unfolding subset_from
subset_ext zero x y i v e = refl
subset_ext (suc f) x y i v e =
    ap₂ (λ (a b : ℕ). bit_xor (a * (v % 2)) b) (e i (omega arith) (omega arith)) (subset_ext f x y (i + 1) (v / 2) (λ k low high. e k (omega arith) (omega arith)))

-- a row higher than all of a subset
subset_high : (i f : ℕ) (x : ℕ → ℕ) (j v : ℕ) → v < 2 ^ i → i < f → subset_from f x j (2 ^ i + v) ≡ bit_xor (subset_from f x j v) (x (j + i))
unfolding subset_from
subset_high i zero x j v low room = absurd (omega arith)
subset_high zero (suc f) x j v low room =
    let none : v ≡ 0 = omega arith in
    rw (none, mul-one, mul-zero, subset_none f x (j + 1), add-zero) (xor_zero_r (x j))
subset_high (suc i) (suc f) x j v low room =
    let double : 2 ^ suc i ≡ 2 ^ i * 2 = pow-suc 2 i in
    let digit : (2 ^ suc i + v) % 2 ≡ v % 2 = omega (arith, double) in
    let half : (2 ^ suc i + v) / 2 ≡ 2 ^ i + v / 2 = omega (arith, double) in
    let place : j + 1 + i ≡ j + suc i = omega arith in
    ap₂ (λ (a b : ℕ). bit_xor (x j * a) (subset_from f x (j + 1) b)) digit half
    ∙ ap (bit_xor (x j * (v % 2))) (subset_high i f x (j + 1) (v / 2) (omega (arith, double)) (omega arith))
    ∙ sym (xor_assoc (x j * (v % 2)) (subset_from f x (j + 1) (v / 2)) (x (j + 1 + i)))
    ∙ ap (λ (n : ℕ). bit_xor (bit_xor (x j * (v % 2)) (subset_from f x (j + 1) (v / 2))) (x n)) place

-- byte t of the slice of a subset of the rows below i, and row i
group_more : (rows : List ℕ) (w i t : ℕ) → i < 4 → w < 2 ^ i → t < 64 → bit_xor (group_byte rows (w * 64 + t)) (get_or rows (i * 64 + t) 0) ≡ group_byte rows ((2 ^ i + w) * 64 + t)
unfolding group_byte subset
group_more rows w i t room low lane =
    let rest : (w * 64 + t) / 64 ≡ w = omega arith in
    let rest_lane : (w * 64 + t) % 64 ≡ t = omega arith in
    let whole : ((2 ^ i + w) * 64 + t) / 64 ≡ 2 ^ i + w = omega arith in
    let whole_lane : ((2 ^ i + w) * 64 + t) % 64 ≡ t = omega arith in
    rw (rest, rest_lane, whole, whole_lane)
    (sym (subset_high i 4 (λ k. get_or rows (k * 64 + t) 0) 0 w low room
    ∙ ap (λ (n : ℕ). bit_xor (subset_from 4 (λ k. get_or rows (k * 64 + t) 0) 0 w) (get_or rows (n * 64 + t) 0)) (zero-add i)))

pub power_low : (i : ℕ) → i < 4 → 2 ^ i ≤ 8
power_low i h = let three : i ≤ 3 = omega arith in pow_mono three

-- 1 shifted by i digits
pub shifted : (i : ℕ) → i < 4 → 1 * 2 ^ i % 18446744073709551616 ≡ 2 ^ i
shifted i h = omega (arith, power_low i h)

module _ (rows : List ℕ) where
  -- the empty subset
  group_zero : (p : ℕ) → p < 64 → group_byte rows p ≡ 0
  unfolding group_byte subset
  group_zero p h =
      let none : p / 64 ≡ 0 = omega arith in
      rw none (subset_none 4 (λ i. get_or rows (i * 64 + p % 64) 0) 0)

  pub sums_first : (tab : List ℕ) → length tab ≡ 1024 → FirstSums rows 1 (zeros 64 ++ drop 64 tab)
  sums_first tab long =
      let size : length (zeros 64) ≡ 64 = length_zeros 64 in
      record {
        long = simp (length-append, length-drop) (omega (arith, size));
        sums = λ p h. get_or-append (zeros 64) (drop 64 tab) 0 p (omega (arith, size)) ∙ get_or_zeros 64 p ∙ sym (group_zero p (omega arith));
      }

  pub sums_valued : {count : ℕ} {tab : List ℕ} → FirstSums rows count tab → count ≤ 16 → Valued (group_byte rows) 1024 tab tab (count * 64)
  sums_valued {count} {tab} s few =
      let f : ℕ → ℕ = group_byte rows in
      let c : ℕ = count * 64 in
      record {
        inside = omega (arith, s.long);
        long = refl;
        written =
            ap (λ (l : List ℕ). l ++ from f c (1024 - c)) (from_at f (take c tab) c (length-take-le c tab (omega (arith, s.long))) (λ p h. get_or-take c tab p 0 h ∙ s.sums p h))
            ∙ sym (rw zero-add at (from_append f 0 c (1024 - c)))
            ∙ (let all : c + (1024 - c) ≡ 1024 = omega arith in ap (from f 0) all);
        kept = refl;
      }

  pub valued_sums : {count : ℕ} {start now : List ℕ} → Valued (group_byte rows) 1024 start now (count * 64) → length start ≡ 1024 → FirstSums rows count now
  valued_sums {count} {start} {now} a long = record { long = a.long ∙ long; sums = λ p h. valued_at (group_byte rows) 1024 a (omega (arith, a.inside)) p h }

  -- a slice more, of the subset w of the rows below i and row i
  pub group_turn : {start now : List ℕ} (w i u : ℕ) → u ≡ 2 ^ i → Valued (group_byte rows) 1024 start now ((u + w) * 64) → length rows ≡ 256 → length start ≡ 1024 → i < 4 → w < u → Valued (group_byte rows) 1024 start (summed (take (i * 64 + 64 - i * 64) (drop (i * 64) rows)) (w * 64) ((u + w) * 64) now) ((u + (w + 1)) * 64)
  unfolding summed
  group_turn {start} {now} w i u u_is a rows_long long room low =
      let next : (u + (w + 1)) * 64 ≡ (u + w) * 64 + 64 = omega arith in
      let few : u ≤ 8 = rw u_is (power_low i room) in
      rw next
      (valued_part (group_byte rows) 1024 (from (λ t. bit_xor (get_or now (w * 64 + t) 0) (get_or (take (i * 64 + 64 - i * 64) (drop (i * 64) rows)) t 0)) 0 64) 64 ((u + w) * 64 + 64 - (u + w) * 64) a (omega arith) (omega arith) (add-sub_cancel_left ((u + w) * 64) 64)
      (length_from _ 0 64)
      (λ t lane.
      get_or_from _ 0 64 t 0 lane
      ∙ ap (λ (n : ℕ). bit_xor (get_or now (w * 64 + n) 0) (get_or (take (i * 64 + 64 - i * 64) (drop (i * 64) rows)) n 0)) (zero-add t)
      ∙ ap₂ bit_xor (valued_at (group_byte rows) 1024 a (omega arith) (w * 64 + t) (omega arith)) (get_d_part (i * 64) 64 rows t lane)
      ∙ rw u_is (group_more rows w i t room (rw u_is at low) lane)))

-- a row added to a part
pub sum_part : (row tab : List ℕ) (a : ℕ) → a + 64 ≤ length tab → lanewise (λ t y. bit_xor y (get_or row t 0)) (take (a + 64 - a) (drop a tab)) ≡ from (λ t. bit_xor (get_or tab (a + t) 0) (get_or row t 0)) 0 64
unfolding lanewise
sum_part row tab a inside =
    ap (from (λ t. bit_xor (get_or (take (a + 64 - a) (drop a tab)) t 0) (get_or row t 0)) 0) (part_length a 64 tab inside)
    ∙ from_ext _ _ 0 64 (λ t low high. ap (λ (n : ℕ). bit_xor n (get_or row t 0)) (get_d_part a 64 tab t (omega arith)))

pub length_group : (rows : List ℕ) → length (group_of rows) ≡ 1024
unfolding group_of
length_group rows = length_from (group_byte rows) 0 1024

-- a group of the table
pub table_group : (rows part : List ℕ) (g p : ℕ) → p < 1024 → ((j : ℕ) → j < 256 → get_or part j 0 ≡ get_or rows (g * 256 + j) 0) → get_or (group_of part) p 0 ≡ table_byte rows (g * 1024 + p)
unfolding group_of group_byte table_byte subset
table_group rows part g p h same =
    let group : (g * 1024 + p) / 1024 ≡ g = omega arith in
    let lane : (g * 1024 + p) % 64 ≡ p % 64 = omega arith in
    let slices : (g * 1024 + p) / 64 ≡ g * 16 + p / 64 = omega arith in
    let low : p / 64 < 16 = omega arith in
    let slice : (g * 16 + p / 64) % 16 ≡ p / 64 = low_sixteen g (p / 64) low in
    rw zero-add at (get_or_from (group_byte part) 0 1024 p 0 h)
    ∙ rw (group, lane, slices, slice)
    (subset_ext 4 (λ i. get_or part (i * 64 + p % 64) 0) (λ i. get_or rows (g * 256 + (i * 64 + p % 64)) 0) 0 (p / 64)
    (λ i low high. same (i * 64 + p % 64) (omega arith)))

pub first_long : (tab : List ℕ) → length tab ≡ 1024 → length (zeros 64 ++ drop 64 tab) ≡ 1024
first_long tab long = simp (length-append, length-drop) (omega (arith, length_zeros 64))
