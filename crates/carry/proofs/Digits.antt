-- A mask that is found digit by digit: one digit more.
use mathlib.Core.Path.{◌≡◌, sym, ap, ap₂, ◌∙◌}
use mathlib.Core.Bool.{Bool, true, false}
use mathlib.Core.List.{List}
use Prim.Native.Nat.{ℕ, ◌+◌, ◌-◌, ◌*◌, ◌^◌, min, ◌≤◌, ◌<◌}
use native.Mathlib.Nat.{add-mul, one-mul, mul-one, mul_comm, mul_assoc, mul-le-mul, le_refl, pow-suc, pow-le-pow_right}
use native.Mathlib.Numerals.{add-one}
use native.Mathlib.Omega.{arith}
use borrow.Author.Tests.{leb-true, leb-false}
use lib.Dec.{leb}
use Rattle.lists.specs.Choice.{pick}
use Rattle.lists.proofs.Cases.{by_test}
use Rattle.carrying.specs.Masks.{all_ruled_out, mask_from}
use Rattle.carrying.proofs.Masks.{all_halves}

some_masks : (k : ℕ) → 1 ≤ 2 ^ k
some_masks k = pow-le-pow_right {n = 2} (omega arith) {i = 0} {j = k} (omega arith)

twice : (k m : ℕ) → k + 1 ≡ m → 2 ^ m ≡ 2 ^ k * 2
twice k m e = ap (λ (x : ℕ). 2 ^ x) (sym e ∙ add-one k) ∙ pow-suc 2 k

-- the digits of a before m others
module _ (a k : ℕ) (fits : (a + 1) * 2 ^ k ≤ 65536) where
  pub whole_below : a * 2 ^ k < 65536
  whole_below = omega (arith, add-mul a 1 (2 ^ k), one-mul (2 ^ k), some_masks k)

module _ (a k m : ℕ) (one : k + 1 ≡ m) (fits : (a + 1) * 2 ^ m ≤ 65536) where
  pub digits_half : a < 32768
  digits_half = omega (arith, ap (λ (x : ℕ). (a + 1) * x) (twice k m one), mul_assoc (a + 1) (2 ^ k) 2, mul-le-mul (le_refl (a + 1)) (some_masks k), mul-one (a + 1))

  both_fit : (a * 2 + 1 + 1) * 2 ^ k ≤ 65536
  both_fit =
      let e : a * 2 + 1 + 1 ≡ (a + 1) * 2 = omega arith in
      rw (e, mul_assoc (a + 1) 2 (2 ^ k), mul_comm 2 (2 ^ k), ← twice k m one) fits

  pub next_fits : (b : Bool) → (pick b (a * 2) (a * 2 + 1) + 1) * 2 ^ k ≤ 65536
  next_fits true = omega (arith, both_fit, mul-le-mul {n₁ = a * 2 + 1} {m₁ = 2 ^ k} {n₂ = a * 2 + 1 + 1} {m₂ = 2 ^ k} (omega arith) (le_refl (2 ^ k)))
  next_fits false = both_fit

-- the two halves, and the one that is taken
module _ (p k m a low total : ℕ) (ws : List ℕ) (one : k + 1 ≡ m) (is_low : low ≡ all_ruled_out p k (a * 2) ws) (is_total : total ≡ all_ruled_out p m a ws) where
  parts : total ≡ low + all_ruled_out p k (a * 2 + 1) ws
  parts = is_total ∙ ap (λ (x : ℕ). all_ruled_out p x a ws) (sym one ∙ add-one k) ∙ all_halves p k a ws ∙ ap (λ (x : ℕ). x + all_ruled_out p k (a * 2 + 1) ws) (sym is_low)

  pub low_part : low ≤ total
  low_part = omega (arith, parts)

  is_high : total - low ≡ all_ruled_out p k (a * 2 + 1) ws
  is_high = omega (arith, parts)

  pub taken_ruled : min low (total - low) ≡ all_ruled_out p k (pick (leb low (total - low)) (a * 2) (a * 2 + 1)) ws
  taken_ruled =
      by_test (leb low (total - low))
      (λ e. let least : min low (total - low) ≡ low = omega (arith, leb-true low (total - low) e) in rw (e, least) is_low)
      (λ e. let least : min low (total - low) ≡ total - low = omega (arith, leb-false low (total - low) e) in rw (e, least) is_high)

  pub taken_mask : mask_from p m a ws ≡ mask_from p k (pick (leb low (total - low)) (a * 2) (a * 2 + 1)) ws
  unfolding mask_from
  taken_mask = ap (λ (x : ℕ). mask_from p x a ws) (sym one ∙ add-one k) ∙ ap₂ (λ (x y : ℕ). mask_from p k (pick (leb x y) (a * 2) (a * 2 + 1)) ws) (sym is_low) (sym is_high)
