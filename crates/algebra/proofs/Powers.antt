-- Powers of an element, and of an element of order n: they are distinct below n, go round modulo n, and have power sums that vanish.
use mathlib.Core.Path.{◌≡◌, refl, sym, ap, ap₂, fun_ext, ◌∙◌}
use mathlib.Core.List.{List, map}
use Prim.Native.Nat.{ℕ, zero, suc, ◌+◌, ◌-◌, ◌*◌, ◌/◌, ◌%◌, ◌<◌}
use native.Mathlib.Nat as Nat
use native.Mathlib.Numerals.{add-one}
use native.Mathlib.Decide.{dec_lt}
use native.Mathlib.Omega.{arith}
use Rattle.lists.proofs.All.{Distinct, Distinct-map}
use Rattle.lists.proofs.Places.{Places}
use Rattle.algebra.specs.Field.{Field}
use Rattle.algebra.specs.Powers.{pow, Order}
use Rattle.algebra.proofs.Ring.{mul_left_comm, one-mul, zero-mul, add-mul, neg_mul, sub-zero, add_cancel, mul_cancel, mul_nonzero, no_divisors}
use Rattle.algebra.proofs.Sums.{sum, sum_next, sum_scale}

module _ (F : Field) where
  infixl 70 ◌⊕◌
  infixl 80 ◌⊗◌
  infix 90 ⊖◌
  open F use {Carrier, 0f, 1f, add as ◌⊕◌, mul as ◌⊗◌, neg as ⊖◌}
  open F use {add_comm, add_neg, mul_comm, mul_assoc, mul-one, one_not_zero}

  -- a^(i + j) = a^i · a^j
  pub pow_add : (a : Carrier) (i j : ℕ) → pow F a (i + j) ≡ pow F a i ⊗ pow F a j
  pow_add a zero j = ap (pow F a) (Nat.zero-add j) ∙ sym (one-mul F (pow F a j))
  pow_add a (suc i) j = ap (pow F a) (Nat.suc-add i j) ∙ ap (λ y. a ⊗ y) (pow_add a i j) ∙ sym (mul_assoc a (pow F a i) (pow F a j))

  -- a^(i · j) = (a^i)^j
  pub pow_mul : (a : Carrier) (i j : ℕ) → pow F a (i * j) ≡ pow F (pow F a i) j
  pow_mul a i zero = ap (pow F a) (Nat.mul-zero i)
  pow_mul a i (suc j) = ap (pow F a) (Nat.mul-suc i j) ∙ pow_add a (i * j) i ∙ mul_comm (pow F a (i * j)) (pow F a i) ∙ ap (λ y. pow F a i ⊗ y) (pow_mul a i j)

  -- 1^n = 1
  pub one_pow : (n : ℕ) → pow F 1f n ≡ 1f
  one_pow zero = refl
  one_pow (suc n) = one-mul F (pow F 1f n) ∙ one_pow n

  regroup : (a b x y : Carrier) → a ⊗ b ⊗ (x ⊗ y) ≡ a ⊗ x ⊗ (b ⊗ y)
  regroup a b x y = simp (mul_assoc, mul_left_comm F)

  -- (a · b)^n = a^n · b^n
  pub mul_pow : (a b : Carrier) (n : ℕ) → pow F (a ⊗ b) n ≡ pow F a n ⊗ pow F b n
  mul_pow a b zero = sym (mul-one 1f)
  mul_pow a b (suc n) = ap (λ y. a ⊗ b ⊗ y) (mul_pow a b n) ∙ regroup a b (pow F a n) (pow F b n)

  -- powers of an element that is not zero are not zero
  pub pow_nonzero : (a : Carrier) → (a ≡ 0f → ⊥) → (n : ℕ) → pow F a n ≡ 0f → ⊥
  pow_nonzero a h zero = one_not_zero
  pow_nonzero a h (suc n) = mul_nonzero F a (pow F a n) h (pow_nonzero a h n)

  -- the geometric sum, one term longer at either end
  geometric : (x : Carrier) (n : ℕ) → sum F n (pow F x) ⊕ pow F x n ≡ 1f ⊕ x ⊗ sum F n (pow F x)
  unfolding sum
  geometric x n = sym (sum_next F n (pow F x)) ∙ ap (λ k. sum F k (pow F x)) (add-one n) ∙ ap (λ y. 1f ⊕ y) (sum_scale F n x (pow F x))

  -- only zero is fixed by a factor other than 1
  fixed_zero : (x s : Carrier) → (x ≡ 1f → ⊥) → s ≡ x ⊗ s → s ≡ 0f
  fixed_zero x s n h =
      no_divisors F (x ⊕ ⊖ 1f) s (λ z. n (sub-zero F x 1f z))
      (add-mul F x (⊖ 1f) s ∙ ap₂ ◌⊕◌ (sym h) (neg_mul F 1f s ∙ ap ⊖◌ (one-mul F s)) ∙ add_neg s)

  -- the sum of the first n powers of x is zero where x^n = 1 and x ≠ 1
  pub geometric_zero : (x : Carrier) (n : ℕ) → pow F x n ≡ 1f → (x ≡ 1f → ⊥) → sum F n (pow F x) ≡ 0f
  geometric_zero x n e k =
      fixed_zero x (sum F n (pow F x)) k
      (add_cancel F 1f (sum F n (pow F x)) (x ⊗ sum F n (pow F x)) (add_comm 1f (sum F n (pow F x)) ∙ ap (λ y. sum F n (pow F x) ⊕ y) (sym e) ∙ geometric x n))

  module _ (a : Carrier) (n : ℕ) (o : Order F a n) where
    -- multiples of n as exponents give 1
    pub pow_times : (m : ℕ) → pow F a (n * m) ≡ 1f
    pow_times m = pow_mul a n m ∙ ap (λ y. pow F y m) o.returns ∙ one_pow m

    -- exponents count modulo n
    pub pow_mod : (e : ℕ) → pow F a (e % n) ≡ pow F a e
    pow_mod e =
        sym (one-mul F (pow F a (e % n)))
        ∙ ap (λ y. y ⊗ pow F a (e % n)) (sym (pow_times (e / n)))
        ∙ sym (pow_add a (n * (e / n)) (e % n))
        ∙ ap (pow F a) (Nat.div-add-mod e n)

    -- an element with a power 1 is not zero
    root_nonzero : (m : ℕ) → 0 < m → pow F a m ≡ 1f → a ≡ 0f → ⊥
    root_nonzero zero p r z = omega arith
    root_nonzero (suc m) p r z = one_not_zero (sym r ∙ ap (λ y. y ⊗ pow F a m) z ∙ zero-mul F (pow F a m))

    -- an element of some order is not zero
    pub order_nonzero : a ≡ 0f → ⊥
    order_nonzero = root_nonzero n o.positive o.returns

    -- no power below n is met twice
    never_again : (i j : ℕ) → i < j → j < n → pow F a i ≡ pow F a j → ⊥
    never_again i j l b e =
        let d : j ≡ i + (j - i) = omega arith in
        o.least (j - i) (omega arith) (omega arith)
        (sym (mul_cancel F (pow F a i) 1f (pow F a (j - i)) (pow_nonzero a order_nonzero i) (mul-one (pow F a i) ∙ e ∙ ap (pow F a) d ∙ pow_add a i (j - i))))

    -- the powers a^0 .. a^(n−1) are pairwise distinct
    pub pow_injective : (i j : ℕ) → i < n → j < n → pow F a i ≡ pow F a j → i ≡ j
    pow_injective i j b c e = compare (dec_lt i j) (dec_lt j i)
      where
        compare : Dec (i < j) → Dec (j < i) → i ≡ j
        compare (yes l) k = absurd (never_again i j l c e)
        compare (no l) (yes k) = absurd (never_again j i k b (sym e))
        compare (no l) (no k) = omega arith

    -- powers with distinct exponents below n are distinct
    pub Distinct-pow : (k : ℕ) (js : List ℕ) → Places n k js → Distinct (map (pow F a) js)
    Distinct-pow k js h = Distinct-map (λ j. j < n) (pow F a) pow_injective js h.low h.distinct

    -- a^e = 1 only where n divides e
    pub pow_one : (e : ℕ) → pow F a e ≡ 1f → e % n ≡ 0
    pow_one e h = pow_injective (e % n) 0 (Nat.mod-lt e o.positive) o.positive (pow_mod e ∙ h)

    -- the power sum Σ_{j<n} a^(j·e) is zero unless n divides e
    pub power_sum_zero : (e : ℕ) → (e % n ≡ 0 → ⊥) → sum F n (λ j. pow F a (j * e)) ≡ 0f
    power_sum_zero e h =
        ap (sum F n) (fun_ext (λ j. ap (pow F a) (Nat.mul_comm j e) ∙ pow_mul a e j))
        ∙ geometric_zero (pow F a e) n (sym (pow_mul a e n) ∙ ap (pow F a) (Nat.mul_comm e n) ∙ pow_times e) (λ k. h (pow_one e k))
