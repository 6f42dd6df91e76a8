-- The parity checks: w is the list of values at a^0 .. a^(n−1) of a polynomial of length k exactly where Σ_j w_j·a^(j·e) = 0 for 0 < e ≤ n − k.
use mathlib.Core.Path.{◌≡◌, sym, ap, ap₂, fun_ext, ◌∙◌}
use mathlib.Core.List.{List, [], ◌∷◌, ◌++◌, map, map-map, map-append}
use mathlib.Core.Logic.{◌↔◌}
use Prim.Native.Nat.{ℕ, suc, ◌+◌, ◌*◌, ◌%◌, ◌≤◌, ◌<◌}
use native.Mathlib.Nat as Nat
use native.Mathlib.Omega.{arith}
use lib.ListN.{length, get_or, take, drop, length-map, take-append-drop, length-drop}
use lib.Seq.{length-take-le, ext_get_or}
use Rattle.lists.specs.Rows.{range}
use Rattle.std.proofs.lemmas.List.{get_or-map}
use Rattle.lists.proofs.Places.{Places, Places-range, length_range, range_append}
use Rattle.algebra.specs.Field.{Field}
use Rattle.algebra.specs.Powers.{pow, Order}
use Rattle.algebra.proofs.Ring.{mul_left_comm, add-mul, mul-zero, zero-mul, add_cancel, mul_cancel_right}
use Rattle.algebra.proofs.Sums.{sum, sum_add, sum_scale, sum_zero}
use Rattle.algebra.proofs.Combinations.{comb, comb_map, comb_append, comb_sum, comb_range}
use Rattle.algebra.proofs.Poly.{eval, values}
use Rattle.algebra.proofs.Interpolation.{interpolate, length_interpolate, interpolate_values}
use Rattle.algebra.proofs.Powers.{pow_add, pow_mul, pow_nonzero, order_nonzero, power_sum_zero, Distinct-pow}
use Rattle.algebra.proofs.Vandermonde.{weights_determine}

module _ (F : Field) where
  infixl 70 ◌⊕◌
  infixl 80 ◌⊗◌
  open F use {Carrier, 0f, add as ◌⊕◌, mul as ◌⊗◌}
  open F use {add-zero, mul_comm, mul_assoc}

  -- the sum Σ_j w_j·a^(j·e) over the exponents js
  abbrev pub check : Carrier → ℕ → List Carrier → List ℕ → Carrier
  check a e ws js = comb F (λ j. pow F a (j * e)) ws js

  -- the lowest coefficient apart
  pub peel : (c x v y : Carrier) → (c ⊕ x ⊗ v) ⊗ y ≡ c ⊗ y ⊕ v ⊗ (y ⊗ x)
  peel c x v y = simp (add-mul F, mul_assoc, mul_comm, mul_left_comm F)

  -- the sum Σ_j f(a^j)·a^(j·e), with the lowest coefficient of f apart
  value_sum_step : (a : Carrier) (n : ℕ) (c : Carrier) (f : List Carrier) (e : ℕ) → sum F n (λ j. eval F (c ∷ f) (pow F a j) ⊗ pow F a (j * e)) ≡ c ⊗ sum F n (λ j. pow F a (j * e)) ⊕ sum F n (λ j. eval F f (pow F a j) ⊗ pow F a (j * suc e))
  unfolding eval
  value_sum_step a n c f e =
      ap (sum F n) (fun_ext (λ j. peel c (pow F a j) (eval F f (pow F a j)) (pow F a (j * e)) ∙ ap (λ y. c ⊗ pow F a (j * e) ⊕ eval F f (pow F a j) ⊗ y) (sym (pow_add F a (j * e) j) ∙ ap (pow F a) (sym (Nat.mul-suc j e)))))
      ∙ sum_add F n (λ j. c ⊗ pow F a (j * e)) (λ j. eval F f (pow F a j) ⊗ pow F a (j * suc e))
      ∙ ap (λ y. y ⊕ sum F n (λ j. eval F f (pow F a j) ⊗ pow F a (j * suc e))) (sum_scale F n c (λ j. pow F a (j * e)))

  module _ (a : Carrier) (n : ℕ) (o : Order F a n) where
    -- that sum is zero for 0 < e ≤ n − k
    value_sum_lem : (f : List Carrier) (e : ℕ) → 0 < e → e + length f ≤ n → sum F n (λ j. eval F f (pow F a j) ⊗ pow F a (j * e)) ≡ 0f
    unfolding eval
    value_sum_lem [] e p l = sum_zero F n (λ j. 0f ⊗ pow F a (j * e)) (λ j b. zero-mul F (pow F a (j * e)))
    value_sum_lem (c ∷ f) e p l =
        value_sum_step a n c f e
        ∙ ap₂ (λ x y. c ⊗ x ⊕ y) (power_sum_zero F a n o e (λ z. let h : e % n ≡ e = Nat.mod-eq_of_lt (omega arith) in omega arith)) (value_sum_lem f (suc e) (omega arith) (omega arith))
        ∙ add-zero (c ⊗ 0f) ∙ mul-zero F c

    -- the values of a polynomial of length k pass every check with 0 < e ≤ n − k
    pub values_check : (f : List Carrier) (e : ℕ) → 0 < e → e + length f ≤ n → check a e (values F a f (range 0 n)) (range 0 n) ≡ 0f
    values_check f e p l =
        comb_range F (λ j. eval F f (pow F a j)) (λ j. pow F a (j * e)) 0 n
        ∙ ap (sum F n) (fun_ext (λ i. ap (λ k. eval F f (pow F a k) ⊗ pow F a (k * e)) (Nat.zero-add i)))
        ∙ value_sum_lem f e p l

    -- a check is a sum of powers of the nodes' points
    check_sum : (e : ℕ) (vs : List Carrier) (js : List ℕ) → length vs ≡ length js → check a e vs js ≡ sum F (length (map (pow F a) js)) (λ s. get_or vs s 0f ⊗ pow F (get_or (map (pow F a) js) s 0f) e)
    check_sum e vs js l =
        ap (λ f. comb F f vs js) (fun_ext (λ j. pow_mul F a j e))
        ∙ sym (comb_map F (λ b. pow F b e) (pow F a) vs js)
        ∙ comb_sum F (λ b. pow F b e) 0f vs (map (pow F a) js) (l ∙ sym (length-map js (pow F a)))

    -- one factor taken into the symbol
    check_terms : (i : ℕ) (vs : List Carrier) (js : List ℕ) → length vs ≡ length js → check a (suc i) vs js ≡ sum F (length (map (pow F a) js)) (λ s. get_or vs s 0f ⊗ get_or (map (pow F a) js) s 0f ⊗ pow F (get_or (map (pow F a) js) s 0f) i)
    check_terms i vs js l =
        check_sum (suc i) vs js l
        ∙ ap (sum F (length (map (pow F a) js))) (fun_ext (λ s. sym (mul_assoc (get_or vs s 0f) (get_or (map (pow F a) js) s 0f) (pow F (get_or (map (pow F a) js) s 0f) i))))

    -- the points of nodes are not zero
    point_nonzero : (js : List ℕ) (s : ℕ) → s < length js → get_or (map (pow F a) js) s 0f ≡ 0f → ⊥
    point_nonzero js s l z = pow_nonzero F a (order_nonzero F a n o) (get_or js s 0) (sym (get_or-map (pow F a) js s 0 0f l) ∙ z)

    -- symbols at r distinct nodes are determined by r checks
    pub checks_determine : (r : ℕ) (js : List ℕ) (vs us : List Carrier) → Places n r js → length vs ≡ r → length us ≡ r → ((e : ℕ) → 0 < e → e ≤ r → check a e vs js ≡ check a e us js) → vs ≡ us
    checks_determine r js vs us b l k h =
        let bs = map (pow F a) js in
        let w : length bs ≡ r = length-map js (pow F a) ∙ b.size in
        ext_get_or 0f vs us (l ∙ sym k)
        (λ s d.
        mul_cancel_right F (get_or vs s 0f) (get_or us s 0f) (get_or bs s 0f) (point_nonzero js s (omega (arith, b.size)))
        (weights_determine F bs (Distinct-pow F a n o r js b) (λ s. get_or vs s 0f ⊗ get_or bs s 0f) (λ s. get_or us s 0f ⊗ get_or bs s 0f)
        (λ i j. sym (check_terms i vs js (l ∙ sym b.size)) ∙ h (suc i) (omega arith) (omega arith) ∙ check_terms i us js (k ∙ sym b.size)) s (omega arith)))

    module _ (k r : ℕ) (sum_is_lem : k + r ≡ n) where
      -- the nodes are the first k and the other r, and so are a word's checks and a polynomial's values
      split : range 0 n ≡ range 0 k ++ range k r
      split = ap (range 0) (sym sum_is_lem) ∙ range_append 0 k r ∙ ap (λ z. range 0 k ++ range z r) (Nat.zero-add k)

      split_check : (us vs : List Carrier) → length us ≡ k → (e : ℕ) → check a e (us ++ vs) (range 0 n) ≡ check a e us (range 0 k) ⊕ check a e vs (range k r)
      split_check us vs l e =
          ap (check a e (us ++ vs)) split ∙ comb_append F (λ j. pow F a (j * e)) us vs (range 0 k) (range k r) (l ∙ sym (length_range 0 k))

      split_values : (f us : List Carrier) → values F a f (range 0 k) ≡ us → values F a f (range 0 n) ≡ us ++ values F a f (range k r)
      split_values f us h =
          ap (values F a f) split ∙ map-append (λ j. eval F f (pow F a j)) (range 0 k) (range k r) ∙ ap (λ y. y ++ values F a f (range k r)) h

      -- two words that begin with the same k symbols and pass the checks are the same
      pub rest_determined : (us vs ts : List Carrier) → length us ≡ k → length vs ≡ r → length ts ≡ r → ((e : ℕ) → 0 < e → e ≤ r → check a e (us ++ vs) (range 0 n) ≡ 0f) → ((e : ℕ) → 0 < e → e ≤ r → check a e (us ++ ts) (range 0 n) ≡ 0f) → vs ≡ ts
      rest_determined us vs ts l b c h g =
          checks_determine r (range k r) vs ts (Places-range n k r (omega arith)) b c
          (λ e p q.
          add_cancel F (check a e us (range 0 k)) (check a e vs (range k r)) (check a e ts (range k r))
          (sym (split_check us vs l e) ∙ h e p q ∙ sym (g e p q) ∙ split_check us ts l e))

      -- the polynomial of length k that has the values us at the first k nodes
      start : List Carrier → List Carrier
      start us = interpolate F (map (pow F a) (range 0 k)) us

      start_length : (us : List Carrier) → length (start us) ≡ k
      unfolding start
      start_length us = length_interpolate F (map (pow F a) (range 0 k)) us ∙ length-map (range 0 k) (pow F a) ∙ length_range 0 k

      start_values : (us : List Carrier) → length us ≡ k → values F a (start us) (range 0 k) ≡ us
      unfolding start
      start_values us l =
          sym (map-map (eval F (start us)) (pow F a) (range 0 k))
          ∙ interpolate_values F (map (pow F a) (range 0 k)) us (Distinct-pow F a n o k (range 0 k) (Places-range n 0 k (omega arith)))
          (length-map (range 0 k) (pow F a) ∙ length_range 0 k ∙ sym l)

      -- that polynomial passes through the other symbols of a word that passes the checks
      start_all : (us vs : List Carrier) → length us ≡ k → length vs ≡ r → ((e : ℕ) → 0 < e → e ≤ r → check a e (us ++ vs) (range 0 n) ≡ 0f) → values F a (start us) (range 0 n) ≡ us ++ vs
      start_all us vs l b h =
          let w = split_values (start us) us (start_values us l) in
          w
          ∙ ap (λ y. us ++ y)
          (sym
          (rest_determined us vs (values F a (start us) (range k r)) l b (length-map (range k r) (λ j. eval F (start us) (pow F a j)) ∙ length_range k r) h
          (λ e p q. ap (λ y. check a e y (range 0 n)) (sym w) ∙ values_check (start us) e p (omega (arith, start_length us)))))

      -- the words of the code are those that pass the checks
      pub parity : (ws : List Carrier) → length ws ≡ n → ((e : ℕ) → 0 < e → e ≤ r → check a e ws (range 0 n) ≡ 0f) ↔ ((f : List Carrier) × (length f ≡ k) × (values F a f (range 0 n) ≡ ws))
      parity ws l = (to, from)
        where
          to : ((e : ℕ) → 0 < e → e ≤ r → check a e ws (range 0 n) ≡ 0f) → (f : List Carrier) × (length f ≡ k) × (values F a f (range 0 n) ≡ ws)
          to h =
              let w = take-append-drop k ws in (
                start (take k ws),
                start_length (take k ws),
                start_all (take k ws) (drop k ws) (length-take-le k ws (omega arith)) (omega (arith, length-drop k ws)) (λ e p q. ap (λ y. check a e y (range 0 n)) w ∙ h e p q) ∙ w,
              )

          from : (f : List Carrier) × (length f ≡ k) × (values F a f (range 0 n) ≡ ws) → (e : ℕ) → 0 < e → e ≤ r → check a e ws (range 0 n) ≡ 0f
          from (f, s, v) e p q = ap (λ y. check a e y (range 0 n)) (sym v) ∙ values_check f e p (omega arith)
