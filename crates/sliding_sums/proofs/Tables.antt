-- The table of a row.
use mathlib.Core.Path.{◌≡◌, ◌∙◌}
use mathlib.Core.List.{List}
use Prim.Native.Nat.{ℕ, ◌+◌, ◌*◌, ◌/◌, ◌%◌, ◌<◌}
use native.Mathlib.Nat.{add-zero, zero-add}
use native.Mathlib.Omega.{arith}
use lib.Bits.{bit_xor, xor_zero_r}
use lib.ListN.{length, get_or, drop}
use Rattle.lists.specs.Rows.{from}
use Rattle.lists.proofs.Rows.{get_or_from, length_from}
use Rattle.field.specs.Inner.Sums.{dot}
use Rattle.subset_sums.specs.Inner.Subsets.{subset_from, subset}
use Rattle.sliding_sums.specs.Inner.Windows.{window_sums}
use Rattle.sliding_sums.specs.Inner.Tables.{sliding_subset, sliding_byte, sliding_table}

-- the sum of a subset, symbol by symbol
pub subset_is : (row : List ℕ) (v t : ℕ) → bit_xor (get_or row t 0 * (v % 2)) (bit_xor (get_or row (t + 1) 0 * (v / 2 % 2)) (bit_xor (get_or row (t + 2) 0 * (v / 2 / 2 % 2)) (get_or row (t + 3) 0 * (v / 2 / 2 / 2 % 2)))) ≡ sliding_subset row v t
unfolding sliding_subset subset subset_from
subset_is row v t = rw (add-zero t, xor_zero_r)

-- byte t of subset v
pub table_at : (row : List ℕ) (v t : ℕ) → v < 16 → t < 512 → get_or (sliding_table row) (v * 512 + t) 0 ≡ sliding_subset row v t
unfolding sliding_table sliding_byte
table_at row v t low inside =
    let part : (v * 512 + t) / 512 ≡ v = omega arith in
    let place : (v * 512 + t) % 512 ≡ t = omega arith in
    rw zero-add at (get_or_from (sliding_byte row) 0 8192 (v * 512 + t) 0 (omega arith)) ∙ rw (part, place)

-- and the part of the table that subset v has
pub table_part : (row : List ℕ) (v p : ℕ) → p < 512 → get_or (from (sliding_subset row v) 0 512) p 0 ≡ sliding_byte row (v * 512 + p)
unfolding sliding_byte
table_part row v p inside =
    let part : (v * 512 + p) / 512 ≡ v = omega arith in
    let place : (v * 512 + p) % 512 ≡ p = omega arith in
    rw zero-add at (get_or_from (sliding_subset row v) 0 512 p 0 inside) ∙ rw (part, place)

-- a sum for each place
pub length_windows : (p : ℕ) (ws row : List ℕ) (l : ℕ) → length (window_sums p ws row l) ≡ l
unfolding window_sums
length_windows p ws row l = length_from (λ t. dot p ws (drop t row)) 0 l
