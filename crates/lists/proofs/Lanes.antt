-- Rows of l places each, one after the other: their length, and what stands at place t of row j.
use mathlib.Core.Path.{◌≡◌, sym, ap, ◌∙◌}
use mathlib.Core.List.{List}
use Prim.Native.Nat.{ℕ, zero, suc, ◌+◌, ◌*◌, ◌%◌, ◌<◌}
use native.Mathlib.Omega.{arith}
use native.Mathlib.Nat.{zero-mul, suc-mul, zero-add, add-zero}
use lib.ListN.{length, get_or, length-append, get_or-append}
use lib.Seq.{get_or-append-add}
use Rattle.lists.specs.Rows.{rows_from}

module _ (g : ℕ → List ℕ) (l : ℕ) (long : (j : ℕ) → length (g j) ≡ l) where
  -- n rows are n·l places
  pub length_rows : (i n : ℕ) → length (rows_from g i n) ≡ n * l
  unfolding rows_from
  length_rows i zero = sym (zero-mul l)
  length_rows i (suc n) = length-append (g i) (rows_from g (i + 1) n) ∙ omega (arith, long i, length_rows (i + 1) n, suc-mul n l)

  -- place t of row j
  pub get_d_rows : (i n j t : ℕ) → j < n → t < l → get_or (rows_from g i n) (j * l + t) 0 ≡ get_or (g (i + j)) t 0
  unfolding rows_from
  get_d_rows i zero j t hj ht = absurd (omega arith)
  get_d_rows i (suc n) zero t hj ht = rw (zero-mul, zero-add, add-zero) (get_or-append (g i) (rows_from g (i + 1) n) 0 t (omega (arith, long i)))
  get_d_rows i (suc n) (suc j) t hj ht =
      let place : suc j * l + t ≡ length (g i) + (j * l + t) = omega (arith, long i, suc-mul j l) in
      let row : i + 1 + j ≡ i + suc j = omega arith in
      rw (place, get_or-append-add (g i) (rows_from g (i + 1) n) (j * l + t) 0) (get_d_rows (i + 1) n j t (omega arith) ht ∙ ap (λ (x : ℕ). get_or (g x) t 0) row)

-- the low part of a number in base 16
pub low_sixteen : (a b : ℕ) → b < 16 → (a * 16 + b) % 16 ≡ b
low_sixteen a b h = omega arith
