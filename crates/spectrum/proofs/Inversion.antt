-- Sums of a polynomial's values times powers of a, over every field: each is n times one coefficient.
use mathlib.Core.Path.{◌≡◌, sym, ap, ap₂, fun_ext, ◌∙◌}
use mathlib.Core.List.{List, [], ◌∷◌, map}
use Prim.Native.Nat.{ℕ, zero, suc, ◌+◌, ◌-◌, ◌*◌, ◌%◌, ◌≤◌, ◌<◌}
use native.Mathlib.Nat as Nat
use native.Mathlib.Decide.{dec_lt, ℕ_discrete}
use native.Mathlib.Omega.{arith}
use lib.ListN.{length, get_or, length-map}
use Rattle.lists.specs.Rows.{range}
use Rattle.std.proofs.lemmas.List.{get_or-map}
use Rattle.lists.proofs.Places.{Places-range, length_range}
use Rattle.algebra.specs.Field.{Field}
use Rattle.algebra.specs.Powers.{pow, Order}
use Rattle.algebra.proofs.Ring.{mul-zero, zero-mul, zero-add, one-mul}
use Rattle.algebra.proofs.Sums.{sum, sum_add, sum_scale, sum_zero}
use Rattle.algebra.proofs.Combinations.{comb_range}
use Rattle.algebra.proofs.Poly.{eval, values}
use Rattle.algebra.proofs.Powers.{pow_add, pow_mul, one_pow, pow_mod, power_sum_zero}
use Rattle.algebra.proofs.Parity.{check, checks_determine, peel}

module _ (F : Field) where
  infixl 70 ◌⊕◌
  infixl 80 ◌⊗◌
  open F use {Carrier, 0f, 1f, add as ◌⊕◌, mul as ◌⊗◌, inv}
  open F use {add-zero, mul_comm, mul_assoc, mul-one, one_not_zero}

  -- n as an element of the field
  abbrev pub times : ℕ → Carrier
  times n = sum F n (λ j. 1f)

  -- Σ_j f(a^j)·a^(j·e)
  abbrev value_sum : Carrier → ℕ → List Carrier → ℕ → Carrier
  value_sum a n f e = sum F n (λ j. eval F f (pow F a j) ⊗ pow F a (j * e))

  value_step : (a : Carrier) (n : ℕ) (c : Carrier) (f : List Carrier) (e : ℕ) → value_sum a n (c ∷ f) e ≡ c ⊗ sum F n (λ j. pow F a (j * e)) ⊕ value_sum a n f (suc e)
  unfolding eval
  value_step a n c f e =
      ap (sum F n) (fun_ext (λ j. peel F c (pow F a j) (eval F f (pow F a j)) (pow F a (j * e)) ∙ ap (λ y. c ⊗ pow F a (j * e) ⊕ eval F f (pow F a j) ⊗ y) (sym (pow_add F a (j * e) j) ∙ ap (pow F a) (sym (Nat.mul-suc j e)))))
      ∙ sum_add F n (λ j. c ⊗ pow F a (j * e)) (λ j. eval F f (pow F a j) ⊗ pow F a (j * suc e))
      ∙ ap (λ y. y ⊕ value_sum a n f (suc e)) (sum_scale F n c (λ j. pow F a (j * e)))

  module _ (a : Carrier) (n : ℕ) (o : Order F a n) where
    -- the powers with a multiple of n as exponent are 1
    power_sum_one : (e : ℕ) → e % n ≡ 0 → sum F n (λ j. pow F a (j * e)) ≡ times n
    power_sum_one e z =
        ap (sum F n)
        (fun_ext (λ j. ap (pow F a) (Nat.mul_comm j e) ∙ pow_mul F a e j ∙ ap (λ y. pow F y j) (sym (pow_mod F a n o e) ∙ ap (pow F a) z) ∙ one_pow F j))

    -- no exponent is a multiple of n
    value_none : (f : List Carrier) (e : ℕ) → ((i : ℕ) → i < length f → (e + i) % n ≡ 0 → ⊥) → value_sum a n f e ≡ 0f
    unfolding eval
    value_none [] e h = sum_zero F n (λ j. 0f ⊗ pow F a (j * e)) (λ j b. zero-mul F (pow F a (j * e)))
    value_none (c ∷ f) e h =
        value_step a n c f e
        ∙ ap₂ (λ x y. c ⊗ x ⊕ y)
        (power_sum_zero F a n o e (λ z. h 0 (omega arith) (ap (λ (x : ℕ). x % n) (Nat.add-zero e) ∙ z)))
        (value_none f (suc e) (λ i l z. h (suc i) (omega arith) (let q : e + suc i ≡ suc e + i = omega arith in ap (λ (x : ℕ). x % n) q ∙ z)))
        ∙ add-zero (c ⊗ 0f) ∙ mul-zero F c

    -- one is
    value_one : (f : List Carrier) (e c : ℕ) → c < length f → (e + c) % n ≡ 0 → ((i : ℕ) → i < length f → (i ≡ c → ⊥) → (e + i) % n ≡ 0 → ⊥) → value_sum a n f e ≡ get_or f c 0f ⊗ times n
    value_one [] e c l z h = absurd (omega arith)
    value_one (x ∷ f) e zero l z h =
        value_step a n x f e
        ∙ ap₂ (λ u v. x ⊗ u ⊕ v)
        (power_sum_one e (sym (ap (λ (y : ℕ). y % n) (Nat.add-zero e)) ∙ z))
        (value_none f (suc e) (λ i b w. h (suc i) (omega arith) (λ q. omega arith) (let q : e + suc i ≡ suc e + i = omega arith in ap (λ (y : ℕ). y % n) q ∙ w)))
        ∙ add-zero (x ⊗ times n)
    value_one (x ∷ f) e (suc c) l z h =
        value_step a n x f e
        ∙ ap₂ (λ u v. x ⊗ u ⊕ v)
        (power_sum_zero F a n o e (λ w. h 0 (omega arith) (λ q. omega arith) (ap (λ (y : ℕ). y % n) (Nat.add-zero e) ∙ w)))
        (value_one f (suc e) c (omega arith) (let q : suc e + c ≡ e + suc c = omega arith in ap (λ (y : ℕ). y % n) q ∙ z) (λ i b d w. h (suc i) (omega arith) (λ q. d (omega arith)) (let q : e + suc i ≡ suc e + i = omega arith in ap (λ (y : ℕ). y % n) q ∙ w)))
        ∙ ap (λ u. u ⊕ get_or f c 0f ⊗ times n) (mul-zero F x)
        ∙ zero-add F (get_or f c 0f ⊗ times n)

    -- check sum n − c of a polynomial's values is n times coefficient c
    pub check_coefficient : (f : List Carrier) → length f ≤ n → (c : ℕ) → c < length f → check F a (n - c) (values F a f (range 0 n)) (range 0 n) ≡ get_or f c 0f ⊗ times n
    check_coefficient f short c l =
        comb_range F (λ j. eval F f (pow F a j)) (λ j. pow F a (j * (n - c))) 0 n
        ∙ ap (sum F n) (fun_ext (λ i. ap (λ k. eval F f (pow F a k) ⊗ pow F a (k * (n - c))) (Nat.zero-add i)))
        ∙ value_one f (n - c) c l own other
      where
        own : (n - c + c) % n ≡ 0
        own = let e : n - c + c ≡ n = omega arith in ap (λ (x : ℕ). x % n) e ∙ Nat.mod_self n

        other : (i : ℕ) → i < length f → (i ≡ c → ⊥) → (n - c + i) % n ≡ 0 → ⊥
        other i b d z = compare (dec_lt i c)
          where
            compare : Dec (i < c) → ⊥
            compare (yes low) = let e : (n - c + i) % n ≡ n - c + i = Nat.mod-eq_of_lt (omega arith) in omega arith
            compare (no high) =
                let q : n - c + i ≡ i - c + n = omega arith in
                let e : (n - c + i) % n ≡ i - c = ap (λ (x : ℕ). x % n) q ∙ Nat.add-mod_right (i - c) n ∙ Nat.mod-eq_of_lt (omega arith) in
                d (omega arith)

    -- n is not zero in the field
    pub times_nonzero : times n ≡ 0f → ⊥
    times_nonzero z =
        one_not_zero
        (sym (get_or-map (λ (j : ℕ). 1f) (range 0 n) 0 0 0f some) ∙ ap (λ l. get_or l 0 0f) same ∙ get_or-map (λ (j : ℕ). 0f) (range 0 n) 0 0 0f some)
      where
        some : 0 < length (range 0 n)
        some = omega (arith, length_range 0 n, o.positive)

        -- the check sums of n ones are zero, as are those of n zeros
        ones : (e : ℕ) → check F a e (map (λ (j : ℕ). 1f) (range 0 n)) (range 0 n) ≡ 0f
        ones e =
            comb_range F (λ j. 1f) (λ j. pow F a (j * e)) 0 n
            ∙ ap (sum F n) (fun_ext (λ i. one-mul F (pow F a ((0 + i) * e)) ∙ ap (λ (j : ℕ). pow F a (j * e)) (Nat.zero-add i)))
            ∙ go (ℕ_discrete (e % n) 0)
          where
            go : Dec (e % n ≡ 0) → sum F n (λ j. pow F a (j * e)) ≡ 0f
            go (yes q) = power_sum_one e q ∙ z
            go (no q) = power_sum_zero F a n o e q

        none : (e : ℕ) → check F a e (map (λ (j : ℕ). 0f) (range 0 n)) (range 0 n) ≡ 0f
        none e = comb_range F (λ j. 0f) (λ j. pow F a (j * e)) 0 n ∙ sum_zero F n (λ i. 0f ⊗ pow F a ((0 + i) * e)) (λ i b. zero-mul F (pow F a ((0 + i) * e)))

        same : map (λ (j : ℕ). 1f) (range 0 n) ≡ map (λ (j : ℕ). 0f) (range 0 n)
        same =
            checks_determine F a n o n (range 0 n) _ _ (Places-range n 0 n (omega arith))
            (length-map (range 0 n) (λ (j : ℕ). 1f) ∙ length_range 0 n) (length-map (range 0 n) (λ (j : ℕ). 0f) ∙ length_range 0 n)
            (λ e p q. ones e ∙ sym (none e))
