-- Polynomials by their coefficients: the value is the sum of the terms, and k coefficients are determined by the values at k distinct points.
use mathlib.Core.Path.{◌≡◌, refl, sym, ap, ap₂, fun_ext, ◌∙◌}
use mathlib.Core.List.{List, [], ◌∷◌}
use Prim.Native.Nat.{ℕ, zero, suc, ◌≤◌, ◌<◌}
use native.Mathlib.Nat as Nat
use native.Mathlib.Omega.{arith}
use lib.ListN.{length, get_or}
use Rattle.lists.specs.Rows.{from}
use Rattle.lists.proofs.Rows.{length_from, get_or_from}
use Rattle.lists.proofs.All.{All-of, Distinct}
use Rattle.algebra.specs.Field.{Field}
use Rattle.algebra.specs.Powers.{pow}
use Rattle.algebra.proofs.Ring.{zero-add, mul-zero, zero-mul, mul_left_comm}
use Rattle.algebra.proofs.Sums.{sum, sum_scale, sum_agree, sum_zero}
use Rattle.algebra.proofs.Poly.{eval, unique}

module _ (F : Field) where
  infixl 70 ◌⊕◌
  infixl 80 ◌⊗◌
  open F use {Carrier, 0f, 1f, add as ◌⊕◌, mul as ◌⊗◌}
  open F use {add-zero, mul-one}

  -- the value as a sum of k terms, for every k from the length on
  pub eval_sum : (cs : List Carrier) (k : ℕ) (x : Carrier) → length cs ≤ k → eval F cs x ≡ sum F k (λ i. get_or cs i 0f ⊗ pow F x i)
  unfolding eval sum
  eval_sum [] k x l = sym (sum_zero F k (λ i. 0f ⊗ pow F x i) (λ i b. zero-mul F (pow F x i)))
  eval_sum (c ∷ cs) zero x l = absurd (omega arith)
  eval_sum (c ∷ cs) (suc k) x l =
      ap₂ ◌⊕◌ (sym (mul-one c))
      (ap (λ y. x ⊗ y) (eval_sum cs k x (omega arith)) ∙ sym (sum_scale F k x (λ i. get_or cs i 0f ⊗ pow F x i)) ∙ ap (sum F k) (fun_ext (λ i. mul_left_comm F x (get_or cs i 0f) (pow F x i))))

  -- coefficient i of the polynomial with the coefficients c_0 .. c_{k−1}
  pub coefficient_from : (c : ℕ → Carrier) (k i : ℕ) → i < k → get_or (from c 0 k) i 0f ≡ c i
  coefficient_from c k i l = get_or_from c 0 k i 0f l ∙ ap c (Nat.zero-add i)

  -- its value
  pub eval_from : (c : ℕ → Carrier) (k : ℕ) (x : Carrier) → eval F (from c 0 k) x ≡ sum F k (λ i. c i ⊗ pow F x i)
  eval_from c k x =
      eval_sum (from c 0 k) k x (omega (arith, length_from c 0 k))
      ∙ sum_agree F k (λ i. get_or (from c 0 k) i 0f ⊗ pow F x i) (λ i. c i ⊗ pow F x i) (λ i l. ap (λ y. y ⊗ pow F x i) (coefficient_from c k i l))

  module _ (xs : List Carrier) (u : Distinct xs) (c d : ℕ → Carrier) (agree : (j : ℕ) → j < length xs → sum F (length xs) (λ i. c i ⊗ pow F (get_or xs j 0f) i) ≡ sum F (length xs) (λ i. d i ⊗ pow F (get_or xs j 0f) i)) where
    same_list_lem : from c 0 (length xs) ≡ from d 0 (length xs)
    same_list_lem =
        unique F xs (from c 0 (length xs)) (from d 0 (length xs)) u (length_from c 0 (length xs) ∙ sym (length_from d 0 (length xs))) (omega (arith, length_from c 0 (length xs)))
        (All-of (λ x. eval F (from c 0 (length xs)) x ≡ eval F (from d 0 (length xs)) x) 0f xs
        (λ j b. eval_from c (length xs) (get_or xs j 0f) ∙ agree j b ∙ sym (eval_from d (length xs) (get_or xs j 0f))))

    -- coefficients with the same values at k distinct points are the same
    pub coefficients_determine : (i : ℕ) → i < length xs → c i ≡ d i
    coefficients_determine i l = sym (coefficient_from c (length xs) i l) ∙ ap (λ y. get_or y i 0f) same_list_lem ∙ coefficient_from d (length xs) i l

  -- the polynomial x^i
  unfoldable pub monomial : ℕ → List Carrier
  monomial zero = 1f ∷ []
  monomial (suc i) = 0f ∷ monomial i

  -- i + 1 coefficients ..
  pub length_monomial : (i : ℕ) → length (monomial i) ≡ suc i
  unfolding monomial
  length_monomial zero = refl
  length_monomial (suc i) = ap suc (length_monomial i)

  -- .. the last one 1 ..
  pub monomial_own : (i : ℕ) → get_or (monomial i) i 0f ≡ 1f
  unfolding monomial
  monomial_own zero = refl
  monomial_own (suc i) = monomial_own i

  -- .. and the others 0
  pub monomial_other : (i c : ℕ) → (c ≡ i → ⊥) → get_or (monomial i) c 0f ≡ 0f
  unfolding monomial
  monomial_other zero zero n = absurd (n refl)
  monomial_other zero (suc c) n = refl
  monomial_other (suc i) zero n = refl
  monomial_other (suc i) (suc c) n = monomial_other i c (λ e. n (ap suc e))

  -- its value
  pub eval_monomial : (i : ℕ) (x : Carrier) → eval F (monomial i) x ≡ pow F x i
  unfolding monomial eval
  eval_monomial zero x = ap (λ y. 1f ⊕ y) (mul-zero F x) ∙ add-zero 1f
  eval_monomial (suc i) x = zero-add F (x ⊗ eval F (monomial i) x) ∙ ap (λ y. x ⊗ y) (eval_monomial i x)
