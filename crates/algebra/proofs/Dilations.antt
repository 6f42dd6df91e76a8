-- The dilations p(t_r·x) of a polynomial of length k with no zero coefficient, at k distinct t_r, are a basis of the polynomials of length k.
-- So the values of their combinations at any k distinct points are in bijection with the k coefficients of the combination.
use mathlib.Core.Path.{◌≡◌, refl, sym, ap, ap₂, fun_ext, ◌∙◌}
use mathlib.Core.List.{List, [], ◌∷◌, map}
use Prim.Native.Nat.{ℕ, zero, suc, ◌+◌, ◌<◌}
use native.Mathlib.Nat as Nat
use native.Mathlib.Omega.{arith}
use lib.ListN.{length, get_or}
use lib.Seq.{ext_get_or}
use Rattle.lists.proofs.All.{Distinct, ExactlyOne}
use Rattle.algebra.specs.Field.{Field}
use Rattle.algebra.specs.Powers.{pow}
use Rattle.algebra.proofs.Ring.{mul_left_comm, one-mul, mul-zero, mul_inv_left, mul_cancel}
use Rattle.algebra.proofs.Combinations.{comb, comb_add, comb_scale, comb_zero}
use Rattle.algebra.proofs.Poly.{eval}
use Rattle.algebra.proofs.Interpolation.{interpolation}
use Rattle.algebra.proofs.Vandermonde.{moment, weights, length_weights, moment_weights, moments_determine}

module _ (F : Field) where
  infixl 70 ◌⊕◌
  infixl 80 ◌⊗◌
  open F use {Carrier, 0f, add as ◌⊕◌, mul as ◌⊗◌, inv}
  open F use {mul_comm, mul_assoc, mul-add}

  -- the coefficients of Σ_r m_r·t_r^i·p(t_r·x)
  unfoldable pub mix_from : ℕ → List Carrier → List Carrier → List Carrier → List Carrier
  mix_from i [] ms ts = []
  mix_from i (q ∷ qs) ms ts = q ⊗ moment F ms ts i ∷ mix_from (suc i) qs ms ts

  -- the coefficients of Σ_r m_r·p(t_r·x)
  abbrev pub mix : List Carrier → List Carrier → List Carrier → List Carrier
  mix p ms ts = mix_from 0 p ms ts

  -- the value Σ_r m_r·p(t_r·x)
  abbrev pub mixed : List Carrier → List Carrier → List Carrier → Carrier → Carrier
  mixed p ms ts x = comb F (λ t. eval F p (t ⊗ x)) ms ts

  -- the weights with which the dilations of p combine to f
  abbrev pub unmix : List Carrier → List Carrier → List Carrier → List Carrier
  unmix p f ts = weights F ts (λ i. inv (get_or p i 0f) ⊗ get_or f i 0f)

  -- as many coefficients as p has
  pub length_mix_from : (i : ℕ) (p ms ts : List Carrier) → length (mix_from i p ms ts) ≡ length p
  unfolding mix_from
  length_mix_from i [] ms ts = refl
  length_mix_from i (q ∷ qs) ms ts = ap suc (length_mix_from (suc i) qs ms ts)

  -- the term of one coefficient, regrouped
  mix_identity : (q x t u e : Carrier) → u ⊗ (q ⊕ t ⊗ x ⊗ e) ≡ q ⊗ u ⊕ x ⊗ (t ⊗ u ⊗ e)
  mix_identity q x t u e = simp (mul-add, mul_assoc, mul_comm, mul_left_comm F)

  -- the values of the combination are the combination of the values
  eval_mix_from : (i : ℕ) (p ms ts : List Carrier) (x : Carrier) → eval F (mix_from i p ms ts) x ≡ comb F (λ t. pow F t i ⊗ eval F p (t ⊗ x)) ms ts
  unfolding mix_from eval
  eval_mix_from i [] ms ts x = sym (ap (λ f. comb F f ms ts) (fun_ext (λ t. mul-zero F (pow F t i))) ∙ comb_zero F ms ts)
  eval_mix_from i (q ∷ qs) ms ts x =
      ap₂ (λ y z. y ⊕ x ⊗ z) (sym (comb_scale F q (λ t. pow F t i) ms ts)) (eval_mix_from (suc i) qs ms ts x)
      ∙ ap (λ y. comb F (λ t. q ⊗ pow F t i) ms ts ⊕ y) (sym (comb_scale F x (λ t. pow F t (suc i) ⊗ eval F qs (t ⊗ x)) ms ts))
      ∙ sym (comb_add F (λ t. q ⊗ pow F t i) (λ t. x ⊗ (pow F t (suc i) ⊗ eval F qs (t ⊗ x))) ms ts)
      ∙ ap (λ f. comb F f ms ts) (fun_ext (λ t. sym (mix_identity q x t (pow F t i) (eval F qs (t ⊗ x)))))

  -- the same from index 0 on
  pub eval_mix : (p ms ts : List Carrier) (x : Carrier) → eval F (mix p ms ts) x ≡ mixed p ms ts x
  eval_mix p ms ts x = eval_mix_from 0 p ms ts x ∙ ap (λ f. comb F f ms ts) (fun_ext (λ t. one-mul F (eval F p (t ⊗ x))))

  get_or_mix_from : (i : ℕ) (p ms ts : List Carrier) (j : ℕ) → j < length p → get_or (mix_from i p ms ts) j 0f ≡ get_or p j 0f ⊗ moment F ms ts (i + j)
  unfolding mix_from
  get_or_mix_from i [] ms ts j l = absurd (omega arith)
  get_or_mix_from i (q ∷ qs) ms ts zero l = ap (λ j. q ⊗ moment F ms ts j) (sym (Nat.add-zero i))
  get_or_mix_from i (q ∷ qs) ms ts (suc j) l =
      get_or_mix_from (suc i) qs ms ts j (omega arith) ∙ ap (λ k. get_or qs j 0f ⊗ moment F ms ts k) (Nat.suc-add i j ∙ sym (Nat.add-suc i j))

  -- coefficient j of the combination is that of p times the moment j of the weights
  pub get_or_mix : (p ms ts : List Carrier) (j : ℕ) → j < length p → get_or (mix p ms ts) j 0f ≡ get_or p j 0f ⊗ moment F ms ts j
  get_or_mix p ms ts j l = get_or_mix_from 0 p ms ts j l ∙ ap (λ k. get_or p j 0f ⊗ moment F ms ts k) (Nat.zero-add j)

  -- no coefficient of p is zero, and there are as many distinct points ts as coefficients
  pub record Spread (p ts : List Carrier) : Type 0 where
    pub nonzero : (i : ℕ) → i < length p → get_or p i 0f ≡ 0f → ⊥
    pub distinct : Distinct ts
    pub size : length ts ≡ length p

  module _ (p ts : List Carrier) (spread : Spread p ts) where
    -- every polynomial of length k is a combination of the dilations ..
    pub mix_unmix : (f : List Carrier) → length f ≡ length p → mix p (unmix p f ts) ts ≡ f
    mix_unmix f l =
        ext_get_or 0f (mix p (unmix p f ts) ts) f (length_mix_from 0 p (unmix p f ts) ts ∙ sym l)
        (λ i h.
        let b : i < length p = omega (arith, length_mix_from 0 p (unmix p f ts) ts) in
        get_or_mix p (unmix p f ts) ts i b
        ∙ ap (λ y. get_or p i 0f ⊗ y) (moment_weights F ts spread.distinct (λ i. inv (get_or p i 0f) ⊗ get_or f i 0f) i (omega arith))
        ∙ mul_inv_left F (get_or p i 0f) (get_or f i 0f) (spread.nonzero i b))

    -- .. in only one way
    pub mix_injective : (ms us : List Carrier) → length ms ≡ length p → length us ≡ length p → mix p ms ts ≡ mix p us ts → ms ≡ us
    mix_injective ms us l k e =
        moments_determine F ts spread.distinct ms us (omega arith) (omega arith)
        (λ i h.
        let b : i < length p = omega arith in
        mul_cancel F (get_or p i 0f) (moment F ms ts i) (moment F us ts i) (spread.nonzero i b)
        (sym (get_or_mix p ms ts i b) ∙ ap (λ y. get_or y i 0f) e ∙ get_or_mix p us ts i b))

    length_unmix : (f : List Carrier) → length (unmix p f ts) ≡ length p
    length_unmix f = length_weights F ts (λ i. inv (get_or p i 0f) ⊗ get_or f i 0f) ∙ spread.size

    -- the weights of a combination are found again
    pub unmix_mix : (ms : List Carrier) → length ms ≡ length p → unmix p (mix p ms ts) ts ≡ ms
    unmix_mix ms l = mix_injective (unmix p (mix p ms ts) ts) ms (length_unmix (mix p ms ts)) l (mix_unmix (mix p ms ts) (length_mix_from 0 p ms ts))

    -- the dilations are a basis
    pub dilation_basis : (f : List Carrier) → length f ≡ length p → ExactlyOne (λ ms. (length ms ≡ length p) × (mix p ms ts ≡ f))
    dilation_basis f l = (
      unmix p f ts,
      (length_unmix f, mix_unmix f l),
      λ us h. mix_injective us (unmix p f ts) h.0 (length_unmix f) (h.1 ∙ sym (mix_unmix f l)),
    )

    -- any k values at k distinct points are those of exactly one combination
    pub any_values : (xs ys : List Carrier) → Distinct xs → length xs ≡ length p → length ys ≡ length p → ExactlyOne (λ ms. (length ms ≡ length p) × (map (mixed p ms ts) xs ≡ ys))
    any_values xs ys u l k =
        let (f, v, o) = interpolation F xs ys u (l ∙ sym k) in
        let (ms, w, q) = dilation_basis f (v.0 ∙ l) in
        let same : (us : List Carrier) → map (mixed p us ts) xs ≡ map (eval F (mix p us ts)) xs = λ us. ap (λ g. map g xs) (fun_ext (λ x. sym (eval_mix p us ts x))) in (
          ms,
          (w.0, same ms ∙ ap (λ c. map (eval F c) xs) w.1 ∙ v.1),
          λ us h. q us (h.0, o (mix p us ts) (length_mix_from 0 p us ts ∙ sym l, sym (same us) ∙ h.1)),
        )
