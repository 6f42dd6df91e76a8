-- The base polynomial Π_{i<m} (x − a^i): its roots among the powers of a, and that none of its coefficients is zero.
use mathlib.Core.Path.{◌≡◌, sym, ap, ◌∙◌}
use mathlib.Core.List.{List, [], ◌∷◌, map}
use mathlib.Core.Logic.{◌↔◌}
use Prim.Native.Nat.{ℕ, suc, ◌+◌, ◌%◌, ◌≤◌, ◌<◌}
use native.Mathlib.Nat.{mod-lt}
use native.Mathlib.Numerals.{add-one}
use native.Mathlib.Decide.{dec_lt}
use native.Mathlib.Omega.{arith}
use lib.ListN.{length, get_or, length-map}
use Rattle.lists.specs.Rows.{from, range}
use Rattle.lists.proofs.All.{All, All-at, All-map, All-unmap, All-restore, Distinct-erase, erase, length_erase}
use Rattle.lists.proofs.Places.{length_range, Places-range, below, length_below, All-below, All-below-of}
use Rattle.algebra.specs.Field.{Field}
use Rattle.algebra.specs.Powers.{pow, Order}
use Rattle.algebra.proofs.Ring.{one-mul, mul-zero}
use Rattle.algebra.proofs.Combinations.{comb, comb_erase}
use Rattle.algebra.proofs.Poly.{eval, all_zero_lem}
use Rattle.algebra.proofs.Product.{product, length_product, leading_product, product_vanishes, product_nonzero}
use Rattle.algebra.proofs.Powers.{mul_pow, one_pow, pow_mod, pow_injective, Distinct-pow}
use Rattle.algebra.proofs.Vandermonde.{moment, moments_zero}

module _ (F : Field) where
  infixl 70 ◌⊕◌
  infixl 80 ◌⊗◌
  open F use {Carrier, 0f, 1f, add as ◌⊕◌, mul as ◌⊗◌}
  open F use {mul_comm, mul_assoc, mul-add, one_not_zero}

  -- the powers of a with the exponents s .. s + n − 1
  abbrev pub powers : Carrier → ℕ → ℕ → List Carrier
  powers a s n = map (pow F a) (range s n)

  length_powers : (a : Carrier) (s n : ℕ) → length (powers a s n) ≡ n
  length_powers a s n = length-map (range s n) (pow F a) ∙ length_range s n

  -- one coefficient more
  spectrum_step : (c u v e : Carrier) → c ⊗ u ⊕ v ⊗ u ⊗ e ≡ u ⊗ (c ⊕ v ⊗ e)
  spectrum_step c u v e = simp (mul-add, mul_assoc, mul_comm)

  -- the moments of the coefficients at consecutive powers of a are values of the polynomial
  spectrum_from : (a : Carrier) (p : List Carrier) (s r : ℕ) → moment F p (powers a s (length p)) r ≡ pow F (pow F a s) r ⊗ eval F p (pow F a r)
  unfolding comb eval from
  spectrum_from a [] s r = sym (mul-zero F (pow F (pow F a s) r))
  spectrum_from a (c ∷ p) s r =
      ap (λ y. c ⊗ pow F (pow F a s) r ⊕ y)
      (spectrum_from a p (s + 1) r ∙ ap (λ y. y ⊗ eval F p (pow F a r)) (ap (λ i. pow F (pow F a i) r) (add-one s) ∙ mul_pow F a (pow F a s) r))
      ∙ spectrum_step c (pow F (pow F a s) r) (pow F a r) (eval F p (pow F a r))

  -- the value of p at a^r is the moment r of its coefficients at the points a^0, a^1, ..
  pub spectrum : (a : Carrier) (p : List Carrier) (r : ℕ) → moment F p (powers a 0 (length p)) r ≡ eval F p (pow F a r)
  spectrum a p r = spectrum_from a p 0 r ∙ ap (λ y. y ⊗ eval F p (pow F a r)) (one_pow F r) ∙ one-mul F (eval F p (pow F a r))

  -- the polynomial Π_{i<m} (x − a^i)
  unfoldable pub base : Carrier → ℕ → List Carrier
  base a m = product F (map (pow F a) (below m))

  points : (a : Carrier) (m : ℕ) → length (map (pow F a) (below m)) ≡ m
  points a m = length-map (below m) (pow F a) ∙ length_below m

  -- it has the length m + 1 ..
  pub length_base : (a : Carrier) (m : ℕ) → length (base a m) ≡ suc m
  unfolding base
  length_base a m = length_product F (map (pow F a) (below m)) ∙ ap suc (points a m)

  -- .. and the leading coefficient 1
  pub leading_base : (a : Carrier) (m : ℕ) → get_or (base a m) m 0f ≡ 1f
  unfolding base
  leading_base a m = ap (λ i. get_or (base a m) i 0f) (sym (points a m)) ∙ leading_product F (map (pow F a) (below m))

  -- it vanishes at a^0 .. a^(m−1)
  pub base_vanishes : (a : Carrier) (m r : ℕ) → r < m → eval F (base a m) (pow F a r) ≡ 0f
  unfolding base
  base_vanishes a m r l =
      All-below (λ i. eval F (base a m) (pow F a i) ≡ 0f) m (All-unmap (λ x. eval F (base a m) x ≡ 0f) (pow F a) (below m) (product_vanishes F (map (pow F a) (below m)))) r l

  module _ (a : Carrier) (n : ℕ) (o : Order F a n) where
    -- at a power whose exponent, modulo n, is not below m it is not zero
    base_elsewhere : (m : ℕ) → m ≤ n → (e : ℕ) → (e % n < m → ⊥) → eval F (base a m) (pow F a e) ≡ 0f → ⊥
    unfolding base
    base_elsewhere m l e h =
        product_nonzero F (map (pow F a) (below m)) (pow F a e)
        (All-map (λ b. pow F a e ≡ b → ⊥) (pow F a) (below m)
        (All-below-of (λ i. pow F a e ≡ pow F a i → ⊥) m
        (λ i k q. let r : e % n ≡ i = pow_injective F a n o (e % n) i (mod-lt e o.positive) (omega arith) (pow_mod F a n o e ∙ q) in h (omega arith))))

    -- among the powers of a, the base polynomial vanishes at those with an exponent below m, modulo n, and at no others
    pub base_root : (m : ℕ) → m ≤ n → (e : ℕ) → (eval F (base a m) (pow F a e) ≡ 0f) ↔ (e % n < m)
    base_root m l e = (λ z. find z (dec_lt (e % n) m), λ h. ap (eval F (base a m)) (sym (pow_mod F a n o e)) ∙ base_vanishes a m (e % n) h)
      where
        find : eval F (base a m) (pow F a e) ≡ 0f → Dec (e % n < m) → e % n < m
        find z (yes h) = h
        find z (no h) = absurd (base_elsewhere m l e h z)

    -- the BCH bound for one coefficient: a polynomial of length k ≤ n that vanishes at a^0 .. a^(k−2) and has a zero coefficient is zero
    pub bch : (p : List Carrier) → length p ≤ n → ((r : ℕ) → suc r < length p → eval F p (pow F a r) ≡ 0f) → (i : ℕ) → i < length p → get_or p i 0f ≡ 0f → All (λ c. c ≡ 0f) p
    bch p l v i b z =
        let bs = powers a 0 (length p) in
        let lb : length bs ≡ length p = length_powers a 0 (length p) in
        let le = length_erase i p b in
        let lf = length_erase i bs (omega arith) in
        All-restore (λ c. c ≡ 0f) 0f i p
        (all_zero_lem F (erase i p) (length (erase i p))
        (moments_zero F (erase i bs) (Distinct-erase i bs (Distinct-pow F a n o (length p) (range 0 (length p)) (Places-range n 0 (length p) (omega arith)))) (erase i p) (omega arith)
        (λ r h. comb_erase F (λ x. pow F x r) i p bs (sym lb) z ∙ spectrum a p r ∙ v r (omega arith))))
        z

    -- no coefficient of the base polynomial is zero where m < n
    pub base_nonzero : (m : ℕ) → m < n → (i : ℕ) → i ≤ m → get_or (base a m) i 0f ≡ 0f → ⊥
    base_nonzero m l i b z =
        let k = length_base a m in
        one_not_zero
        (sym (leading_base a m)
        ∙ All-at (λ c. c ≡ 0f) 0f (base a m) (bch (base a m) (omega arith) (λ r h. base_vanishes a m r (omega arith)) i (omega arith) z) m (omega arith))
