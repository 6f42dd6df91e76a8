-- Horner's rule over the binary digits of the weights, in the field of 256 elements: twice the sum with the weights' halves, and the values whose weight is odd, are the sum with the weights.
use mathlib.Core.Path.{◌≡◌, refl, sym, ap, ap₂, ◌∙◌}
use mathlib.Core.List.{List, [], ◌∷◌, ◌++◌}
use Prim.Native.Nat.{ℕ, zero, suc, ◌+◌, ◌*◌, ◌/◌, ◌%◌, ◌≤◌, ◌<◌}
use native.Mathlib.Nat.{mul-zero, mul-one}
use native.Mathlib.Omega.{arith}
use lib.Bits.{bit_xor, xor_lt, xor_shifted}
use lib.Dec.{eqb}
use Rattle.lists.specs.Choice.{pick}
use Rattle.lists.specs.Counting.{passing_from}
use Rattle.lists.specs.Rows.{from}
use Rattle.field.specs.Bytes.{times_x, product}
use Rattle.field.specs.Fields.{add, mul}
use Rattle.field.specs.Inner.Sums.{dot}
use Rattle.field.proofs.Xor.{xor_swap}
use Rattle.field.proofs.ByteSteps.{times_x_low}
use Rattle.field.proofs.Product.{times_x_additive, product_byte, product_zero, product_one, product_right, product_times_x}
use Rattle.row_sums.specs.Inner.Digits.{xor_sum}

-- the product with a digit
product_digit : (a d : ℕ) → a < 256 → d < 2 → product a d ≡ a * d
product_digit a zero ha hd = rw (mul-zero) (product_zero a)
product_digit a (suc zero) ha hd = rw (mul-one) (product_one a ha)
product_digit a (suc (suc d)) ha hd = absurd (omega arith)

-- the product by the half and the last digit of a factor
product_halved : (a w : ℕ) → a < 256 → w < 256 → bit_xor (times_x (product a (w / 2))) (a * (w % 2)) ≡ product a w
product_halved a w ha hw =
    let half : w / 2 < 128 = omega arith in
    let digit : w % 2 < 2 = omega arith in
    let whole : w / 2 * 2 + w % 2 ≡ w = omega arith in
    let parts : bit_xor (w / 2 * 2) (w % 2) ≡ w = xor_shifted (w / 2) 1 (w % 2) digit ∙ whole in
    ap₂ bit_xor (sym (product_times_x a (w / 2) ha (omega arith)) ∙ ap (product a) (sym (times_x_low (w / 2) half))) (sym (product_digit a (w % 2) ha digit))
    ∙ sym (product_right a (w / 2 * 2) (w % 2) (omega arith) (omega arith))
    ∙ ap (product a) parts

-- the sum over listed values with i in front where the digit is 1
pub sum_front : (x : ℕ → ℕ) (i d : ℕ) (js : List ℕ) → d < 2 → xor_sum x (pick (eqb d 1) (i ∷ []) [] ++ js) ≡ bit_xor (x i * d) (xor_sum x js)
unfolding xor_sum
sum_front x i zero js h = rw (mul-zero)
sum_front x i (suc zero) js h = rw (mul-one)
sum_front x i (suc (suc d)) js h = absurd (omega arith)

module _ (n : ℕ) (x : ℕ → ℕ) (bytes : (i : ℕ) → i < n → x i < 256) where
  -- sums of bytes are bytes
  dot_byte : (w : ℕ → ℕ) (f i : ℕ) → i + f ≤ n → dot 0 (from x i f) (from w i f) < 256
  unfolding dot from add mul
  dot_byte w zero i h = omega arith
  dot_byte w (suc f) i h = xor_lt 8 (product (x i) (w i)) (dot 0 (from x (i + 1) f) (from w (i + 1) f)) (product_byte (x i) (w i) (bytes i (omega arith))) (dot_byte w f (i + 1) (omega arith))

  -- weights that are 0 give 0
  pub dot_none : (w : ℕ → ℕ) → ((i : ℕ) → i < n → w i ≡ 0) → (f i : ℕ) → i + f ≤ n → dot 0 (from x i f) (from w i f) ≡ 0
  unfolding dot from add mul
  dot_none w none zero i h = refl
  dot_none w none (suc f) i h = rw (none i (omega arith), product_zero (x i)) (dot_none w none f (i + 1) (omega arith))

  -- one step of Horner's rule
  pub dot_halved : (w : ℕ → ℕ) → ((i : ℕ) → i < n → w i < 256) → (f i : ℕ) → i + f ≤ n → bit_xor (times_x (dot 0 (from x i f) (from (λ i. w i / 2) i f))) (xor_sum x (passing_from f i (λ i. eqb (w i % 2) 1))) ≡ dot 0 (from x i f) (from w i f)
  unfolding dot from add mul xor_sum passing_from times_x
  dot_halved w low zero i h = refl
  dot_halved w low (suc f) i h =
      let half : ℕ = product (x i) (w i / 2) in
      let rest : ℕ = dot 0 (from x (i + 1) f) (from (λ i. w i / 2) (i + 1) f) in
      let js : List ℕ = passing_from f (i + 1) (λ i. eqb (w i % 2) 1) in
      ap₂ bit_xor
      (times_x_additive half rest (product_byte (x i) (w i / 2) (bytes i (omega arith))) (dot_byte (λ i. w i / 2) f (i + 1) (omega arith)))
      (sum_front x i (w i % 2) js (omega arith))
      ∙ xor_swap (times_x half) (times_x rest) (x i * (w i % 2)) (xor_sum x js)
      ∙ ap₂ bit_xor (product_halved (x i) (w i) (bytes i (omega arith)) (low i (omega arith))) (dot_halved w low f (i + 1) (omega arith))
