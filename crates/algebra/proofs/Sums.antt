-- Sums over the indices below a number.
use mathlib.Core.Path.{◌≡◌, refl, sym, ap, ap₂, fun_ext, ◌∙◌}
use Prim.Native.Nat.{ℕ, zero, suc, ◌+◌, ◌<◌}
use native.Mathlib.Numerals.{add-one}
use native.Mathlib.Omega.{arith}
use Rattle.algebra.specs.Field.{Field}
use Rattle.algebra.proofs.Ring.{add_left_comm, mul_left_comm, zero-add, mul-zero}

module _ (F : Field) where
  infixl 70 ◌⊕◌
  infixl 80 ◌⊗◌
  open F use {Carrier, 0f, add as ◌⊕◌, mul as ◌⊗◌}
  open F use {add_assoc, add-zero, mul-add}

  -- the sum of f i over the indices i < n
  unfoldable pub sum : ℕ → (ℕ → Carrier) → Carrier
  sum zero f = 0f
  sum (suc n) f = f 0 ⊕ sum n (λ i. f (suc i))

  -- the last term apart, as a loop that goes up adds it
  pub sum_next : (n : ℕ) (f : ℕ → Carrier) → sum (n + 1) f ≡ sum n f ⊕ f n
  unfolding sum
  sum_next n f = ap (λ k. sum k f) (add-one n) ∙ last n f
    where
      last : (n : ℕ) (f : ℕ → Carrier) → sum (suc n) f ≡ sum n f ⊕ f n
      last zero f = add-zero (f 0) ∙ sym (zero-add F (f 0))
      last (suc n) f = ap (λ x. f 0 ⊕ x) (last n (λ i. f (suc i))) ∙ sym (add_assoc (f 0) (sum n (λ i. f (suc i))) (f (suc n)))

  -- a sum of functions
  pub sum_add : (n : ℕ) (f g : ℕ → Carrier) → sum n (λ i. f i ⊕ g i) ≡ sum n f ⊕ sum n g
  unfolding sum
  sum_add zero f g = sym (add-zero 0f)
  sum_add (suc n) f g = ap (λ x. f 0 ⊕ g 0 ⊕ x) (sum_add n (λ i. f (suc i)) (λ i. g (suc i))) ∙ regroup (f 0) (g 0) (sum n (λ i. f (suc i))) (sum n (λ i. g (suc i)))
    where
      regroup : (a b c d : Carrier) → a ⊕ b ⊕ (c ⊕ d) ≡ a ⊕ c ⊕ (b ⊕ d)
      regroup a b c d = simp (add_assoc, add_left_comm F)

  -- a multiple of a function
  pub sum_scale : (n : ℕ) (k : Carrier) (f : ℕ → Carrier) → sum n (λ i. k ⊗ f i) ≡ k ⊗ sum n f
  unfolding sum
  sum_scale zero k f = sym (mul-zero F k)
  sum_scale (suc n) k f = ap (λ x. k ⊗ f 0 ⊕ x) (sum_scale n k (λ i. f (suc i))) ∙ sym (mul-add k (f 0) (sum n (λ i. f (suc i))))

  -- functions that agree below n have one sum
  pub sum_agree : (n : ℕ) (f g : ℕ → Carrier) → ((i : ℕ) → i < n → f i ≡ g i) → sum n f ≡ sum n g
  unfolding sum
  sum_agree zero f g h = refl
  sum_agree (suc n) f g h = ap₂ ◌⊕◌ (h 0 (omega arith)) (sum_agree n (λ i. f (suc i)) (λ i. g (suc i)) (λ i l. h (suc i) (omega arith)))

  -- a function that is zero below n has the sum zero
  pub sum_zero : (n : ℕ) (f : ℕ → Carrier) → ((i : ℕ) → i < n → f i ≡ 0f) → sum n f ≡ 0f
  unfolding sum
  sum_zero zero f h = refl
  sum_zero (suc n) f h = ap₂ ◌⊕◌ (h 0 (omega arith)) (sum_zero n (λ i. f (suc i)) (λ i l. h (suc i) (omega arith))) ∙ add-zero 0f

  -- a function that is zero but at j has the sum f j
  pub sum_one : (n : ℕ) (f : ℕ → Carrier) (j : ℕ) → j < n → ((i : ℕ) → i < n → (i ≡ j → ⊥) → f i ≡ 0f) → sum n f ≡ f j
  unfolding sum
  sum_one zero f j l h = absurd (omega arith)
  sum_one (suc n) f zero l h = ap (λ x. f 0 ⊕ x) (sum_zero n (λ i. f (suc i)) (λ i b. h (suc i) (omega arith) (λ e. omega arith))) ∙ add-zero (f 0)
  sum_one (suc n) f (suc j) l h =
      ap₂ ◌⊕◌ (h 0 (omega arith) (λ e. omega arith)) (sum_one n (λ i. f (suc i)) j (omega arith) (λ i b d. h (suc i) (omega arith) (λ e. d (omega arith)))) ∙ zero-add F (f (suc j))

  -- two sums may be exchanged
  pub sum_swap : (m n : ℕ) (f : ℕ → ℕ → Carrier) → sum m (λ i. sum n (λ j. f i j)) ≡ sum n (λ j. sum m (λ i. f i j))
  unfolding sum
  sum_swap zero n f = sym (sum_zero n (λ j. 0f) (λ j l. refl))
  sum_swap (suc m) n f =
      ap (λ x. sum n (λ j. f 0 j) ⊕ x) (sum_swap m n (λ i. f (suc i))) ∙ sym (sum_add n (λ j. f 0 j) (λ j. sum m (λ i. f (suc i) j)))

  -- the same with weights: the form Σ u_i v_j w_ij summed in either order
  pub sum_exchange : (m n : ℕ) (u v : ℕ → Carrier) (w : ℕ → ℕ → Carrier) → sum m (λ i. u i ⊗ sum n (λ j. v j ⊗ w i j)) ≡ sum n (λ j. v j ⊗ sum m (λ i. u i ⊗ w i j))
  sum_exchange m n u v w =
      ap (sum m) (fun_ext (λ i. sym (sum_scale n (u i) (λ j. v j ⊗ w i j))))
      ∙ sum_swap m n (λ i j. u i ⊗ (v j ⊗ w i j))
      ∙ ap (sum n) (fun_ext (λ j. ap (sum m) (fun_ext (λ i. mul_left_comm F (u i) (v j) (w i j))) ∙ sum_scale m (v j) (λ i. u i ⊗ w i j)))
