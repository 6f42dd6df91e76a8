-- Where a list differs from a word of the code at no more than t places, every locator of its syndromes vanishes at those places.
use mathlib.Core.Path.{◌≡◌, refl, sym, ap, ap₂, fun_ext, ◌∙◌}
use mathlib.Core.List.{List, [], ◌∷◌, map}
use Prim.Native.Nat.{ℕ, suc, ◌+◌, ◌*◌, ◌≤◌, ◌<◌}
use native.Mathlib.Decide.{dec_lt}
use native.Mathlib.Omega.{arith}
use lib.ListN.{length, length-map}
use Rattle.algebra.specs.Field.{Field}
use Rattle.lists.proofs.All.{All, All-imp, All-both, All-map, Distinct}
use Rattle.lists.proofs.Places.{Places, Places-range, length_range}
use Rattle.lists.specs.Rows.{range}
use Rattle.algebra.proofs.Ring.{mul_left_comm, add-mul, zero-add, zero-mul, sub_cancel, sub-zero, no_divisors}
use Rattle.algebra.proofs.Combinations.{comb, comb_add, comb_scale, comb_zero, comb_map}
use Rattle.algebra.proofs.Poly.{eval, root_bound, all_zero_lem}
use Rattle.algebra.specs.Powers.{pow, Order}
use Rattle.algebra.proofs.Powers.{pow_mul, pow_nonzero, order_nonzero}
use Rattle.algebra.proofs.Vandermonde.{moment, moments_zero}
use Rattle.nearest_word.proofs.Weights.{weigh, length_weigh, comb_weigh}
use Rattle.algebra.proofs.Powers.{Distinct-pow}
use Rattle.algebra.proofs.Parity.{check, values_check}
use Rattle.nearest_word.proofs.Selection.{dec_not, stable, cons_if, keep, All-keep, All-unkeep, length_keep, Places-keep}
use Rattle.nearest_word.proofs.Recurrence.{discrepancy, sum_step}
use Rattle.nearest_word.proofs.Massey.{Locator}

module _ (F : Field) where
  infixl 70 ◌⊕◌
  infixl 80 ◌⊗◌
  infix 90 ⊖◌
  open F use {Carrier, 0f, add as ◌⊕◌, mul as ◌⊗◌, neg as ⊖◌, decide}
  open F use {add-zero, add_neg, mul_assoc, mul_comm}

  -- The places at which y and u differ.
  abbrev pub faults : (ℕ → Carrier) → (ℕ → Carrier) → List ℕ → List ℕ
  faults y u js = keep (λ j. y j ≡ u j → ⊥) (λ j. dec_not (decide (y j) (u j))) js

  -- The value of a polynomial at a^j.
  abbrev pub value : Carrier → List Carrier → ℕ → Carrier
  value a f j = eval F f (pow F a j)

  -- The syndromes Σ_j y_j·a^(j·(e+1)) over the places j < n.
  abbrev pub syndrome : Carrier → ℕ → (ℕ → Carrier) → ℕ → Carrier
  syndrome a n y e = check F a (suc e) (map y (range 0 n)) (range 0 n)

  -- The places j < n at which the locator does not vanish.
  abbrev pub free : Carrier → ℕ → List Carrier → List ℕ
  free a n v = keep (λ j. value a v j ≡ 0f → ⊥) (λ j. dec_not (decide (value a v j) 0f)) (range 0 n)

  -- Discrepancies depend on the first terms alone.
  pub discrepancy_agree : (v : List Carrier) (s r : ℕ → Carrier) (e m : ℕ) → length v + e ≤ m → ((i : ℕ) → i < m → s i ≡ r i) → discrepancy F v s e ≡ discrepancy F v r e
  discrepancy_agree [] s r e m l h = refl
  discrepancy_agree (c ∷ v) s r e m l h = ap₂ (λ x y. c ⊗ x ⊕ y) (h e (omega arith)) (discrepancy_agree v s r (suc e) m (omega arith) h)

  -- A combination whose coefficients are sums.
  comb_sum : (g p q : ℕ → Carrier) (js : List ℕ) → comb F g (map (λ j. p j ⊕ q j) js) js ≡ comb F g (map p js) js ⊕ comb F g (map q js) js
  unfolding comb
  comb_sum g p q [] = sym (add-zero 0f)
  comb_sum g p q (j ∷ js) =
      ap (λ y. (p j ⊕ q j) ⊗ g j ⊕ y) (comb_sum g p q js) ∙ sum_step F (p j) (q j) (g j) (comb F g (map p js) js) (comb F g (map q js) js)

  module _ (P : ℕ → Type 0) (d : (j : ℕ) → Dec (P j)) (g p : ℕ → Carrier) (z : (j : ℕ) → P j → p j ≡ 0f) where
    keep_step : (j : ℕ) (l : List ℕ) (c : Dec (P j)) → comb F g (map p (cons_if (dec_not c) j l)) (cons_if (dec_not c) j l) ≡ p j ⊗ g j ⊕ comb F g (map p l) l
    unfolding comb
    keep_step j l (yes h) = sym (ap (λ y. y ⊗ g j ⊕ comb F g (map p l) l) (z j h) ∙ ap (λ y. y ⊕ comb F g (map p l) l) (zero-mul F (g j)) ∙ zero-add F (comb F g (map p l) l))
    keep_step j l (no h) = refl

    -- Coefficients that are zero may be left out.
    pub comb_keep : (js : List ℕ) → let l = keep (λ j. P j → ⊥) (λ j. dec_not (d j)) js in comb F g (map p l) l ≡ comb F g (map p js) js
    unfolding comb
    comb_keep [] = refl
    comb_keep (j ∷ js) = keep_step j (keep (λ j. P j → ⊥) (λ j. dec_not (d j)) js) (d j) ∙ ap (λ y. p j ⊗ g j ⊕ y) (comb_keep js)

  term : (c x v y : Carrier) → c ⊗ y ⊕ v ⊗ (x ⊗ y) ≡ (c ⊕ x ⊗ v) ⊗ y
  term c x v y = sym (simp (add-mul F, mul_assoc, mul_left_comm F))

  -- The discrepancies against moments.
  pub discrepancy_moment : (v cs bs : List Carrier) (e : ℕ) → discrepancy F v (λ i. moment F cs bs (suc i)) e ≡ comb F (λ x. eval F v x ⊗ pow F x (suc e)) cs bs
  unfolding eval
  discrepancy_moment [] cs bs e = sym (ap (λ f. comb F f cs bs) (fun_ext (λ x. zero-mul F (pow F x (suc e)))) ∙ comb_zero F cs bs)
  discrepancy_moment (c ∷ v) cs bs e =
      ap₂ ◌⊕◌ (sym (comb_scale F c (λ x. pow F x (suc e)) cs bs)) (discrepancy_moment v cs bs (suc e))
      ∙ sym (comb_add F (λ x. c ⊗ pow F x (suc e)) (λ x. eval F v x ⊗ pow F x (suc (suc e))) cs bs)
      ∙ ap (λ f. comb F f cs bs) (fun_ext (λ x. term c x (eval F v x) (pow F x (suc e))))

  -- The same as moments of the weights c·v(b)·b.
  weighted : (v cs bs : List Carrier) (e : ℕ) → discrepancy F v (λ i. moment F cs bs (suc i)) e ≡ moment F (weigh F (λ x. eval F v x ⊗ x) cs bs) bs e
  weighted v cs bs e =
      discrepancy_moment v cs bs e
      ∙ ap (λ f. comb F f cs bs) (fun_ext (λ x. sym (mul_assoc (eval F v x) x (pow F x e))))
      ∙ sym (comb_weigh F (λ x. eval F v x ⊗ x) (λ x. pow F x e) cs bs)

  -- Weights that are zero, place by place.
  weigh_zero : (f : Carrier → Carrier) (p g : ℕ → Carrier) (js : List ℕ) → All (λ c. c ≡ 0f) (weigh F f (map p js) (map g js)) → All (λ j. p j ⊗ f (g j) ≡ 0f) js
  weigh_zero f p g [] h = tt
  weigh_zero f p g (j ∷ js) h = (h.0, weigh_zero f p g js h.1)

  -- A locator of moments at no more than t points vanishes at the points whose weight is not zero.
  moments_located : (t : ℕ) (v cs bs : List Carrier) → Distinct bs → length cs ≡ length bs → length bs ≤ t → ((e : ℕ) → e < t → discrepancy F v (λ i. moment F cs bs (suc i)) e ≡ 0f) → All (λ c. c ≡ 0f) (weigh F (λ x. eval F v x ⊗ x) cs bs)
  moments_located t v cs bs u l b h =
      let ws = weigh F (λ x. eval F v x ⊗ x) cs bs in
      all_zero_lem F ws (length ws) (moments_zero F bs u ws (length_weigh F (λ x. eval F v x ⊗ x) cs bs l) (λ i k. sym (weighted v cs bs i) ∙ h i (omega arith)))

  module _ (a : Carrier) (n : ℕ) (o : Order F a n) where
    every : Places n n (range 0 n)
    every = Places-range n 0 n (omega arith)

    -- A polynomial of length at most t + 1 that is not zero vanishes at no more than t of the places, so at least n − t are free.
    pub length_free : (t : ℕ) (v : List Carrier) → length v ≤ suc t → (All (λ c. c ≡ 0f) v → ⊥) → n ≤ t + length (free a n v)
    length_free t v l z = bound (dec_lt t (length (keep (λ j. value a v j ≡ 0f) (λ j. decide (value a v j) 0f) (range 0 n))))
      where
        P : ℕ → Type 0
        P = λ j. value a v j ≡ 0f

        d : (j : ℕ) → Dec (P j)
        d = λ j. decide (value a v j) 0f

        js : List ℕ
        js = keep P d (range 0 n)

        bound : Dec (t < length js) → n ≤ t + length (free a n v)
        bound (no h) = omega (arith, length_keep P d (range 0 n), length_range 0 n)
        bound (yes h) =
            absurd
            (z
            (all_zero_lem F v (length v)
            (root_bound F (map (pow F a) js) v (Distinct-pow F a n o (length js) js (Places-keep P d n n (range 0 n) every)) (omega (arith, length-map js (pow F a)))
            (All-map (λ x. eval F v x ≡ 0f) (pow F a) js (All-keep P d (range 0 n))))))

    module _ (f : List Carrier) (y : ℕ → Carrier) where
      -- The error at place j.
      abbrev pub error : ℕ → Carrier
      error j = y j ⊕ ⊖ value a f j

      abbrev pub wrong : List ℕ
      wrong = faults y (value a f) (range 0 n)

      -- The syndromes of y are those of the errors.
      pub syndrome_errors : (e : ℕ) → suc e + length f ≤ n → syndrome a n y e ≡ moment F (map error wrong) (map (pow F a) wrong) (suc e)
      syndrome_errors e l =
          let g : ℕ → Carrier = λ j. pow F a (j * suc e) in
          ap (λ p. comb F g (map p (range 0 n)) (range 0 n)) (fun_ext (λ j. sym (sub_cancel F (value a f j) (y j))))
          ∙ comb_sum g (value a f) error (range 0 n)
          ∙ ap (λ x. x ⊕ comb F g (map error (range 0 n)) (range 0 n)) (values_check F a n o f (suc e) (omega arith) l)
          ∙ zero-add F (comb F g (map error (range 0 n)) (range 0 n))
          ∙ sym (comb_keep (λ j. y j ≡ value a f j) (λ j. decide (y j) (value a f j)) g error (λ j h. ap (λ x. x ⊕ ⊖ value a f j) h ∙ add_neg (value a f j)) (range 0 n))
          ∙ ap (λ p. comb F p (map error wrong) wrong) (fun_ext (λ j. pow_mul F a j (suc e)))
          ∙ sym (comb_map F (λ x. pow F x (suc e)) (pow F a) (map error wrong) wrong)

      -- Where error·(v·a^j) is zero and the error is not, v is.
      factor : (v : List Carrier) (j : ℕ) → (error j ⊗ (value a v j ⊗ pow F a j) ≡ 0f) × (y j ≡ value a f j → ⊥) → value a v j ≡ 0f
      factor v j h =
          no_divisors F (pow F a j) (value a v j) (pow_nonzero F a (order_nonzero F a n o) j)
          (mul_comm (pow F a j) (value a v j)
          ∙ no_divisors F (error j) (value a v j ⊗ pow F a j) (λ z. h.1 (sub-zero F (y j) (value a f j) z)) h.0)

      module _ (k t : ℕ) (size : length f ≡ k) (bound : k + (t + t) ≤ n) (few : length wrong ≤ t) (v : List Carrier) (locator : Locator F (syndrome a n y) t v) where
        -- Every locator vanishes where y differs from the word.
        pub errors_located : All (λ j. value a v j ≡ 0f) wrong
        errors_located =
            let P : ℕ → Type 0 = λ j. y j ≡ value a f j → ⊥ in
            let d : (j : ℕ) → Dec (P j) = λ j. dec_not (decide (y j) (value a f j)) in
            All-imp (λ j. (error j ⊗ (value a v j ⊗ pow F a j) ≡ 0f) × P j) (λ j. value a v j ≡ 0f) (factor v) wrong
            (All-both (λ j. error j ⊗ (value a v j ⊗ pow F a j) ≡ 0f) P wrong
            (weigh_zero (λ x. eval F v x ⊗ x) error (pow F a) wrong
            (moments_located t v (map error wrong) (map (pow F a) wrong) (Distinct-pow F a n o (length wrong) wrong (Places-keep P d n n (range 0 n) every))
            (length-map wrong error ∙ sym (length-map wrong (pow F a)))
            (omega (arith, length-map wrong (pow F a)))
            (λ e h.
            discrepancy_agree v (λ i. moment F (map error wrong) (map (pow F a) wrong) (suc i)) (syndrome a n y) e (t + t) (omega (arith, locator.short)) (λ i b. sym (syndrome_errors i (omega arith)))
            ∙ locator.recurs e h)))
            (All-keep P d (range 0 n)))

        -- So y agrees with the word where the locator does not vanish.
        pub free_agrees : All (λ j. (value a v j ≡ 0f → ⊥) → y j ≡ value a f j) (range 0 n)
        free_agrees =
            All-imp (λ j. (y j ≡ value a f j → ⊥) → value a v j ≡ 0f) (λ j. (value a v j ≡ 0f → ⊥) → y j ≡ value a f j)
            (λ j h g. stable (y j ≡ value a f j) (decide (y j) (value a f j)) (λ m. g (h m)))
            (range 0 n)
            (All-unkeep (λ j. y j ≡ value a f j → ⊥) (λ j. dec_not (decide (y j) (value a f j))) (λ j. value a v j ≡ 0f) (range 0 n) errors_located)
