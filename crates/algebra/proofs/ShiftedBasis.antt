-- The polynomials p(a^(s_r)·c·x), with the base polynomial p = Π_{i<m} (x − a^i) and k = m + 1 distinct shifts s_r < n, are a basis of the polynomials of length k.
use mathlib.Core.Path.{◌≡◌, sym, ◌∙◌}
use mathlib.Core.List.{List, map}
use Prim.Native.Nat.{ℕ, ◌+◌, ◌≤◌, ◌<◌}
use native.Mathlib.Omega.{arith}
use lib.ListN.{length, length-map}
use Rattle.lists.proofs.All.{Distinct-map, ExactlyOne}
use Rattle.lists.proofs.Places.{Places}
use Rattle.algebra.specs.Field.{Field}
use Rattle.algebra.specs.Powers.{pow, Order}
use Rattle.algebra.proofs.Ring.{mul_cancel_right}
use Rattle.algebra.proofs.Powers.{pow_injective}
use Rattle.algebra.proofs.BasePolynomial.{base, length_base, base_nonzero}
use Rattle.algebra.proofs.Dilations.{mix, Spread, dilation_basis}

module _ (F : Field) where
  infixl 80 ◌⊗◌
  open F use {Carrier, 0f, mul as ◌⊗◌}

  -- what a code is built from: a of order n, k = m + 1 ≤ n, and k distinct shifts below n
  pub record Code (a : Carrier) (n k m : ℕ) (ss : List ℕ) : Type 0 where
    pub order : Order F a n
    pub size : m + 1 ≡ k
    pub bound : k ≤ n
    pub shifts : Places n k ss

  -- the points a^s·c
  abbrev pub shifted : Carrier → Carrier → List ℕ → List Carrier
  shifted a c ss = map (λ s. pow F a s ⊗ c) ss

  module _ {a : Carrier} {n k m : ℕ} {ss : List ℕ} (code : Code a n k m ss) where
    -- the base polynomial has k coefficients ..
    pub size_base : length (base F a m) ≡ k
    size_base = omega (arith, length_base F a m)

    -- .. and there are as many points
    pub size_shifted : (c : Carrier) → length (shifted a c ss) ≡ k
    size_shifted c = length-map ss (λ s. pow F a s ⊗ c) ∙ code.shifts.size

    -- no coefficient is zero, and the points are distinct
    pub shifted_spread : (c : Carrier) → (c ≡ 0f → ⊥) → Spread F (base F a m) (shifted a c ss)
    shifted_spread c z =
        record {
          nonzero = λ i h. base_nonzero F a n code.order m (omega arith) i (omega (arith, size_base));
          distinct =
              Distinct-map (λ s. s < n) (λ s. pow F a s ⊗ c)
              (λ s t h k d. pow_injective F a n code.order s t h k (mul_cancel_right F (pow F a s) (pow F a t) c z d))
              ss code.shifts.low code.shifts.distinct;
          size = size_shifted c ∙ sym size_base;
        }

    -- every polynomial of length k is a combination of the p(a^(s_r)·c·x) in exactly one way
    pub shifted_basis : (c : Carrier) → (c ≡ 0f → ⊥) → (f : List Carrier) → length f ≡ k → ExactlyOne (λ ms. (length ms ≡ k) × (mix F (base F a m) ms (shifted a c ss) ≡ f))
    shifted_basis c z f l = rw (← size_base) (dilation_basis F (base F a m) (shifted a c ss) (shifted_spread c z) f (l ∙ sym size_base))
