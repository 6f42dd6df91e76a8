-- Maps a ↦ a^r that keep sums, and the trace Σ a^(r^i) onto the subfield of r elements.
use mathlib.Core.Path.{◌≡◌, sym, ap, ap₂, ◌∙◌}
use Prim.Native.Nat.{ℕ, zero, suc, ◌-◌, ◌*◌, ◌^◌, ◌≤◌, ◌<◌}
use native.Mathlib.Nat as Nat
use native.Mathlib.Omega.{arith}
use Rattle.algebra.specs.Field.{Field}
use Rattle.algebra.specs.Powers.{pow}
use Rattle.algebra.proofs.Ring.{mul_left_comm, zero-add, zero-mul, mul-zero, add-mul, inv_mul, mul_cancel_right}
use Rattle.algebra.proofs.Powers.{pow_mul, mul_pow, one_pow, pow_nonzero}
use Rattle.algebra.proofs.Sums.{sum}

module _ (F : Field) where
  infixl 70 ◌⊕◌
  infixl 80 ◌⊗◌
  open F use {Carrier, 0f, 1f, add as ◌⊕◌, mul as ◌⊗◌, inv, decide}
  open F use {add_assoc, add_comm, add-zero, mul_comm, mul_assoc, mul-one, mul-add}

  -- a ↦ a^r keeps sums, and l times over it is the identity: the field has r^l elements, or fewer
  pub record Frobenius (r l : ℕ) : Type 0 where
    pub two : 2 ≤ r
    pub some : 0 < l
    pub additive : (a b : Carrier) → pow F (a ⊕ b) r ≡ pow F a r ⊕ pow F b r
    pub returns : (a : Carrier) → pow F a (r ^ l) ≡ a

  -- the trace a + a^r + a^(r^2) + .. + a^(r^(l−1))
  unfoldable pub trace : ℕ → ℕ → Carrier → Carrier
  trace r l a = sum F l (λ i. pow F a (r ^ i))

  -- 0^n = 0 for n > 0
  pub zero_pow : (n : ℕ) → 0 < n → pow F 0f n ≡ 0f
  zero_pow zero p = absurd (omega arith)
  zero_pow (suc n) p = zero-mul F (pow F 0f n)

  -- a ↦ a^(r^i) keeps sums where a ↦ a^r does
  module _ (r : ℕ) (additive : (a b : Carrier) → pow F (a ⊕ b) r ≡ pow F a r ⊕ pow F b r) where
    -- one map more
    again : (a : Carrier) (i : ℕ) → pow F a (r ^ suc i) ≡ pow F (pow F a (r ^ i)) r
    again a i = ap (pow F a) (Nat.pow-suc r i) ∙ pow_mul F a (r ^ i) r

    pub power_add : (i : ℕ) (a b : Carrier) → pow F (a ⊕ b) (r ^ i) ≡ pow F a (r ^ i) ⊕ pow F b (r ^ i)
    power_add zero a b = rw (Nat.pow-zero r) (mul-one (a ⊕ b) ∙ sym (ap₂ ◌⊕◌ (mul-one a) (mul-one b)))
    power_add (suc i) a b =
        again (a ⊕ b) i ∙ ap (λ y. pow F y r) (power_add i a b) ∙ additive (pow F a (r ^ i)) (pow F b (r ^ i)) ∙ sym (ap₂ ◌⊕◌ (again a i) (again b i))

  module _ (r l : ℕ) (fr : Frobenius r l) where
    pub power_pos : (i : ℕ) → 0 < r ^ i
    power_pos i = Nat.one-le-pow i r (omega (arith, fr.two))

    frobenius_add : (i : ℕ) (a b : Carrier) → pow F (a ⊕ b) (r ^ i) ≡ pow F a (r ^ i) ⊕ pow F b (r ^ i)
    frobenius_add = power_add r fr.additive

    -- sums of any length
    pub frobenius_sum : (i n : ℕ) (f : ℕ → Carrier) → pow F (sum F n f) (r ^ i) ≡ sum F n (λ j. pow F (f j) (r ^ i))
    unfolding sum
    frobenius_sum i zero f = zero_pow (r ^ i) (power_pos i)
    frobenius_sum i (suc n) f = frobenius_add i (f 0) (sum F n (λ j. f (suc j))) ∙ ap (λ y. pow F (f 0) (r ^ i) ⊕ y) (frobenius_sum i n (λ j. f (suc j)))

    -- with Q·q = r^l: y·(1/y)^q = (y^(Q−1))^q, for y ≠ 0
    inverse_power : (y : Carrier) (q Q : ℕ) → (y ≡ 0f → ⊥) → 0 < Q → Q * q ≡ r ^ l → y ⊗ pow F (inv y) q ≡ pow F (pow F y (Q - 1)) q
    inverse_power y q Q n pos e =
        let Q-is : suc (Q - 1) ≡ Q = omega arith in
        mul_cancel_right F (y ⊗ pow F (inv y) q) (pow F (pow F y (Q - 1)) q) (pow F y q) (pow_nonzero F y n q)
        (mul_assoc y (pow F (inv y) q) (pow F y q)
        ∙ ap (λ z. y ⊗ z) (sym (mul_pow F (inv y) y q) ∙ ap (λ z. pow F z q) (inv_mul F y n) ∙ one_pow F q)
        ∙ mul-one y
        ∙ sym (fr.returns y)
        ∙ ap (pow F y) (sym e)
        ∙ pow_mul F y Q q
        ∙ ap (λ (m : ℕ). pow F (pow F y m) q) (sym Q-is)
        ∙ mul_pow F y (pow F y (Q - 1)) q
        ∙ mul_comm (pow F y q) (pow F (pow F y (Q - 1)) q))

    -- the same with a factor c, for every y where Q > 1
    pub inverse_term : (c y : Carrier) (q Q : ℕ) → 0 < q → 1 < Q → Q * q ≡ r ^ l → y ⊗ pow F (c ⊗ inv y) q ≡ pow F (c ⊗ pow F y (Q - 1)) q
    inverse_term c y q Q some pos e = by (decide y 0f)
      where
        by : Dec (y ≡ 0f) → y ⊗ pow F (c ⊗ inv y) q ≡ pow F (c ⊗ pow F y (Q - 1)) q
        by (yes z) =
            ap (λ x. x ⊗ pow F (c ⊗ inv y) q) z ∙ zero-mul F (pow F (c ⊗ inv y) q)
            ∙ sym (ap (λ x. pow F (c ⊗ pow F x (Q - 1)) q) z ∙ ap (λ x. pow F (c ⊗ x) q) (zero_pow (Q - 1) (omega arith)) ∙ ap (λ x. pow F x q) (mul-zero F c) ∙ zero_pow q some)
        by (no n) =
            ap (λ x. y ⊗ x) (mul_pow F c (inv y) q) ∙ mul_left_comm F y (pow F c q) (pow F (inv y) q)
            ∙ ap (λ x. pow F c q ⊗ x) (inverse_power y q Q n (omega arith) e) ∙ sym (mul_pow F c (pow F y (Q - 1)) q)

  -- where 1 + 1 = 0, squaring keeps sums
  module _ (even : (a : Carrier) → a ⊕ a ≡ 0f) where
    square_step : (a b : Carrier) → (a ⊕ b) ⊗ (a ⊕ b) ≡ a ⊗ a ⊕ b ⊗ b
    square_step a b =
        add-mul F a b (a ⊕ b) ∙ ap₂ ◌⊕◌ (mul-add a a b) (mul-add b a b)
        ∙ add_assoc (a ⊗ a) (a ⊗ b) (b ⊗ a ⊕ b ⊗ b)
        ∙ ap (λ x. a ⊗ a ⊕ x) (sym (add_assoc (a ⊗ b) (b ⊗ a) (b ⊗ b)) ∙ ap (λ x. a ⊗ b ⊕ x ⊕ b ⊗ b) (mul_comm b a) ∙ ap (λ x. x ⊕ b ⊗ b) (even (a ⊗ b)) ∙ zero-add F (b ⊗ b))

    pub square_add : (a b : Carrier) → pow F (a ⊕ b) 2 ≡ pow F a 2 ⊕ pow F b 2
    square_add a b = ap (λ x. (a ⊕ b) ⊗ x) (mul-one (a ⊕ b)) ∙ square_step a b ∙ sym (ap₂ ◌⊕◌ (ap (λ x. a ⊗ x) (mul-one a)) (ap (λ x. b ⊗ x) (mul-one b)))
