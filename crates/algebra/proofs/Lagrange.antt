-- Lagrange's form: a polynomial is the sum of its values times the basis polynomials, in each coefficient and at every point.
use mathlib.Core.Path.{◌≡◌, sym, ap, fun_ext, ◌∙◌}
use mathlib.Core.List.{List}
use Prim.Native.Nat.{ℕ, ◌≤◌, ◌<◌}
use native.Mathlib.Decide.{dec_lt}
use native.Mathlib.Omega.{arith}
use lib.ListN.{length, get_or, get_or-eq_default}
use Rattle.lists.proofs.All.{Distinct}
use Rattle.algebra.specs.Field.{Field}
use Rattle.algebra.specs.Powers.{pow}
use Rattle.algebra.proofs.Ring.{mul-zero}
use Rattle.algebra.proofs.Sums.{sum, sum_zero, sum_one, sum_exchange}
use Rattle.algebra.proofs.Poly.{eval}
use Rattle.algebra.proofs.Coefficients.{eval_sum, coefficients_determine}
use Rattle.algebra.proofs.LagrangeBasis.{basis, length_basis, basis_own, basis_other}

module _ (F : Field) where
  infixl 80 ◌⊗◌
  open F use {Carrier, 0f, mul as ◌⊗◌}
  open F use {mul_comm, mul-one}

  -- coefficient e of Σ_i y_i·basis_i
  abbrev pub combined : List Carrier → (ℕ → Carrier) → ℕ → Carrier
  combined xs y e = sum F (length xs) (λ i. y i ⊗ get_or (basis F xs (get_or xs i 0f)) e 0f)

  -- the value as the sum of its terms, the power first
  eval_terms : (cs : List Carrier) (k : ℕ) (z : Carrier) → length cs ≤ k → eval F cs z ≡ sum F k (λ e. pow F z e ⊗ get_or cs e 0f)
  eval_terms cs k z l = eval_sum F cs k z l ∙ ap (sum F k) (fun_ext (λ e. mul_comm (get_or cs e 0f) (pow F z e)))

  module _ (xs : List Carrier) (u : Distinct xs) where
    -- the value at z of the polynomial with these coefficients
    combined_value : (y : ℕ → Carrier) (z : Carrier) → sum F (length xs) (λ e. combined xs y e ⊗ pow F z e) ≡ sum F (length xs) (λ i. y i ⊗ eval F (basis F xs (get_or xs i 0f)) z)
    combined_value y z =
        let k = length xs in
        ap (sum F k) (fun_ext (λ e. mul_comm (combined xs y e) (pow F z e)))
        ∙ sum_exchange F k k (pow F z) y (λ e i. get_or (basis F xs (get_or xs i 0f)) e 0f)
        ∙ ap (sum F k) (fun_ext (λ i. ap (λ t. y i ⊗ t) (sym (eval_terms (basis F xs (get_or xs i 0f)) k z (omega (arith, length_basis F xs (get_or xs i 0f)))))))

    -- it is y_j at the point j
    pub combined_point : (y : ℕ → Carrier) (j : ℕ) → j < length xs → sum F (length xs) (λ e. combined xs y e ⊗ pow F (get_or xs j 0f) e) ≡ y j
    combined_point y j b =
        combined_value y (get_or xs j 0f)
        ∙ sum_one F (length xs) (λ i. y i ⊗ eval F (basis F xs (get_or xs i 0f)) (get_or xs j 0f)) j b
        (λ i l n. ap (λ t. y i ⊗ t) (basis_other F xs u i j l b n) ∙ mul-zero F (y i))
        ∙ ap (λ t. y j ⊗ t) (basis_own F xs u j b)
        ∙ mul-one (y j)

    -- its coefficients end with the points
    combined_beyond : (y : ℕ → Carrier) (e : ℕ) → length xs ≤ e → combined xs y e ≡ 0f
    combined_beyond y e b =
        sum_zero F (length xs) (λ i. y i ⊗ get_or (basis F xs (get_or xs i 0f)) e 0f)
        (λ i l. ap (λ t. y i ⊗ t) (get_or-eq_default (basis F xs (get_or xs i 0f)) 0f (omega (arith, length_basis F xs (get_or xs i 0f)))) ∙ mul-zero F (y i))

    -- coefficient e of a polynomial with at most as many coefficients as points is Σ_i f(x_i)·(coefficient e of basis_i)
    pub lagrange_coefficients : (f : List Carrier) → length f ≤ length xs → (e : ℕ) → get_or f e 0f ≡ sum F (length xs) (λ i. eval F f (get_or xs i 0f) ⊗ get_or (basis F xs (get_or xs i 0f)) e 0f)
    lagrange_coefficients f l e = go (dec_lt e (length xs))
      where
        go : Dec (e < length xs) → get_or f e 0f ≡ combined xs (λ i. eval F f (get_or xs i 0f)) e
        go (yes b) =
            coefficients_determine F xs u (λ c. get_or f c 0f) (combined xs (λ i. eval F f (get_or xs i 0f)))
            (λ j h. sym (eval_sum F f (length xs) (get_or xs j 0f) l) ∙ sym (combined_point (λ i. eval F f (get_or xs i 0f)) j h)) e b
        go (no b) = get_or-eq_default f 0f (omega arith) ∙ sym (combined_beyond (λ i. eval F f (get_or xs i 0f)) e (omega arith))

    -- its value at z is Σ_i f(x_i)·basis_i(z)
    pub lagrange_value : (f : List Carrier) → length f ≤ length xs → (z : Carrier) → eval F f z ≡ sum F (length xs) (λ i. eval F f (get_or xs i 0f) ⊗ eval F (basis F xs (get_or xs i 0f)) z)
    lagrange_value f l z =
        eval_sum F f (length xs) z l
        ∙ ap (sum F (length xs)) (fun_ext (λ e. ap (λ t. t ⊗ pow F z e) (lagrange_coefficients f l e)))
        ∙ combined_value (λ i. eval F f (get_or xs i 0f)) z
