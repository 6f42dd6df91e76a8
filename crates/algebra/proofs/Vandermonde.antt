-- The transposed Vandermonde system Σ_r c_r·b_r^i = h_i, i < k, at k distinct points b_r has exactly one solution.
-- The coefficients of Lagrange's basis polynomials are the inverse matrix, from both sides.
use mathlib.Core.Path.{◌≡◌, refl, sym, ap, fun_ext, ◌∙◌}
use mathlib.Core.List.{List}
use Prim.Native.Nat.{ℕ, ◌<◌}
use native.Mathlib.Omega.{arith}
use lib.ListN.{length, get_or, replicate, length-replicate}
use lib.Seq.{ext_get_or}
use Rattle.lists.specs.Rows.{from}
use Rattle.lists.proofs.Rows.{length_from}
use Rattle.lists.proofs.All.{All-replicate, Distinct}
use Rattle.algebra.specs.Field.{Field}
use Rattle.algebra.specs.Powers.{pow}
use Rattle.algebra.proofs.Ring.{mul-zero}
use Rattle.algebra.proofs.Sums.{sum, sum_agree, sum_one, sum_exchange}
use Rattle.algebra.proofs.Combinations.{comb, comb_sum, comb_zeros}
use Rattle.algebra.proofs.Poly.{eval}
use Rattle.algebra.proofs.Coefficients.{eval_sum, coefficient_from, monomial, length_monomial, monomial_own, monomial_other, eval_monomial}
use Rattle.algebra.proofs.LagrangeBasis.{basis, length_basis, basis_own, basis_other}
use Rattle.algebra.proofs.Lagrange.{lagrange_coefficients}

module _ (F : Field) where
  infixl 80 ◌⊗◌
  open F use {Carrier, 0f, mul as ◌⊗◌}
  open F use {mul_comm, mul-one}

  -- the sum Σ_r c_r·b_r^i
  abbrev pub moment : List Carrier → List Carrier → ℕ → Carrier
  moment cs bs i = comb F (λ b. pow F b i) cs bs

  -- the weights with the moments h: Σ_c (coefficient c of basis_r)·h_c
  unfoldable pub weights : List Carrier → (ℕ → Carrier) → List Carrier
  weights bs h = from (λ r. sum F (length bs) (λ c. get_or (basis F bs (get_or bs r 0f)) c 0f ⊗ h c)) 0 (length bs)

  -- as many weights as points
  pub length_weights : (bs : List Carrier) (h : ℕ → Carrier) → length (weights bs h) ≡ length bs
  unfolding weights
  length_weights bs h = length_from (λ r. sum F (length bs) (λ c. get_or (basis F bs (get_or bs r 0f)) c 0f ⊗ h c)) 0 (length bs)

  -- weight r
  pub get_or_weights : (bs : List Carrier) (h : ℕ → Carrier) (r : ℕ) → r < length bs → get_or (weights bs h) r 0f ≡ sum F (length bs) (λ c. get_or (basis F bs (get_or bs r 0f)) c 0f ⊗ h c)
  unfolding weights
  get_or_weights bs h r l = coefficient_from F (λ r. sum F (length bs) (λ c. get_or (basis F bs (get_or bs r 0f)) c 0f ⊗ h c)) (length bs) r l

  module _ (bs : List Carrier) (u : Distinct bs) where
    -- the inverse from the left: the coefficients of basis_r take the weight r out of the moments
    pub weight_of_lem : (v : ℕ → Carrier) (r : ℕ) → r < length bs → sum F (length bs) (λ c. get_or (basis F bs (get_or bs r 0f)) c 0f ⊗ sum F (length bs) (λ s. v s ⊗ pow F (get_or bs s 0f) c)) ≡ v r
    weight_of_lem v r b =
        let k = length bs in
        let q = basis F bs (get_or bs r 0f) in
        sum_exchange F k k (λ c. get_or q c 0f) v (λ c s. pow F (get_or bs s 0f) c)
        ∙ ap (sum F k) (fun_ext (λ s. ap (λ y. v s ⊗ y) (sym (eval_sum F q k (get_or bs s 0f) (omega (arith, length_basis F bs (get_or bs r 0f)))))))
        ∙ sum_one F k (λ s. v s ⊗ eval F q (get_or bs s 0f)) r b
        (λ s h n. ap (λ y. v s ⊗ y) (basis_other F bs u r s b h (λ e. n (sym e))) ∙ mul-zero F (v s))
        ∙ ap (λ y. v r ⊗ y) (basis_own F bs u r b)
        ∙ mul-one (v r)

    -- so weights with the same moments are the same
    pub weights_determine : (v w : ℕ → Carrier) → ((c : ℕ) → c < length bs → sum F (length bs) (λ s. v s ⊗ pow F (get_or bs s 0f) c) ≡ sum F (length bs) (λ s. w s ⊗ pow F (get_or bs s 0f) c)) → (r : ℕ) → r < length bs → v r ≡ w r
    weights_determine v w h r b =
        let q = basis F bs (get_or bs r 0f) in
        sym (weight_of_lem v r b)
        ∙ sum_agree F (length bs) (λ c. get_or q c 0f ⊗ sum F (length bs) (λ s. v s ⊗ pow F (get_or bs s 0f) c)) (λ c. get_or q c 0f ⊗ sum F (length bs) (λ s. w s ⊗ pow F (get_or bs s 0f) c))
        (λ c l. ap (λ y. get_or q c 0f ⊗ y) (h c l))
        ∙ weight_of_lem w r b

    -- the same for lists of weights
    pub moments_determine : (cs ds : List Carrier) → length cs ≡ length bs → length ds ≡ length bs → ((i : ℕ) → i < length bs → moment cs bs i ≡ moment ds bs i) → cs ≡ ds
    moments_determine cs ds l m h =
        ext_get_or 0f cs ds (l ∙ sym m)
        (λ r b.
        weights_determine (λ s. get_or cs s 0f) (λ s. get_or ds s 0f)
        (λ c j. sym (comb_sum F (λ t. pow F t c) 0f cs bs l) ∙ h c j ∙ comb_sum F (λ t. pow F t c) 0f ds bs m) r (omega arith))

    -- weights whose moments of the powers below k are zero are zero
    pub moments_zero : (cs : List Carrier) → length cs ≡ length bs → ((i : ℕ) → i < length bs → moment cs bs i ≡ 0f) → cs ≡ replicate (length cs) 0f
    moments_zero cs l h =
        moments_determine cs (replicate (length cs) 0f) l (length-replicate (length cs) 0f ∙ l)
        (λ i j. h i j ∙ sym (comb_zeros F (λ b. pow F b i) (replicate (length cs) 0f) bs (All-replicate (λ c. c ≡ 0f) (length cs) 0f refl)))

    -- the inverse from the right: the powers b_r^i times the basis polynomials make x^i
    power_of : (i c : ℕ) → i < length bs → sum F (length bs) (λ r. pow F (get_or bs r 0f) i ⊗ get_or (basis F bs (get_or bs r 0f)) c 0f) ≡ get_or (monomial F i) c 0f
    power_of i c l =
        sym
        (lagrange_coefficients F bs u (monomial F i) (omega (arith, length_monomial F i)) c
        ∙ ap (sum F (length bs)) (fun_ext (λ r. ap (λ y. y ⊗ get_or (basis F bs (get_or bs r 0f)) c 0f) (eval_monomial F i (get_or bs r 0f)))))

    weight_term : (h : ℕ → Carrier) (i r : ℕ) → r < length bs → get_or (weights bs h) r 0f ⊗ pow F (get_or bs r 0f) i ≡ pow F (get_or bs r 0f) i ⊗ sum F (length bs) (λ c. h c ⊗ get_or (basis F bs (get_or bs r 0f)) c 0f)
    weight_term h i r l =
        mul_comm (get_or (weights bs h) r 0f) (pow F (get_or bs r 0f) i)
        ∙ ap (λ y. pow F (get_or bs r 0f) i ⊗ y) (get_or_weights bs h r l ∙ ap (sum F (length bs)) (fun_ext (λ c. mul_comm (get_or (basis F bs (get_or bs r 0f)) c 0f) (h c))))

    -- so the weights have the moments h
    pub moment_weights : (h : ℕ → Carrier) (i : ℕ) → i < length bs → moment (weights bs h) bs i ≡ h i
    moment_weights h i l =
        let k = length bs in
        comb_sum F (λ b. pow F b i) 0f (weights bs h) bs (length_weights bs h)
        ∙ sum_agree F k (λ r. get_or (weights bs h) r 0f ⊗ pow F (get_or bs r 0f) i) (λ r. pow F (get_or bs r 0f) i ⊗ sum F k (λ c. h c ⊗ get_or (basis F bs (get_or bs r 0f)) c 0f)) (weight_term h i)
        ∙ sum_exchange F k k (λ r. pow F (get_or bs r 0f) i) h (λ r c. get_or (basis F bs (get_or bs r 0f)) c 0f)
        ∙ ap (sum F k) (fun_ext (λ c. ap (λ y. h c ⊗ y) (power_of i c l)))
        ∙ sum_one F k (λ c. h c ⊗ get_or (monomial F i) c 0f) i l (λ c b n. ap (λ y. h c ⊗ y) (monomial_other F i c n) ∙ mul-zero F (h c))
        ∙ ap (λ y. h i ⊗ y) (monomial_own F i)
        ∙ mul-one (h i)
