-- Linear combinations Σ c_r · f(b_r) over two lists.
use mathlib.Core.Path.{◌≡◌, refl, sym, ap, ap₂, fun_ext, ◌∙◌}
use mathlib.Core.List.{List, [], ◌∷◌, ◌++◌, map}
use Prim.Native.Nat.{ℕ, zero, suc, ◌+◌}
use native.Mathlib.Nat as Nat
use native.Mathlib.Omega.{arith}
use lib.ListN.{length, get_or}
use Rattle.lists.specs.Rows.{from, range}
use Rattle.lists.proofs.All.{All, erase}
use Rattle.algebra.specs.Field.{Field}
use Rattle.algebra.proofs.Ring.{add_left_comm, mul_left_comm, zero-add, mul-zero, zero-mul}
use Rattle.algebra.proofs.Sums.{sum}

module _ (F : Field) where
  infixl 70 ◌⊕◌
  infixl 80 ◌⊗◌
  open F use {Carrier, 0f, add as ◌⊕◌, mul as ◌⊗◌}
  open F use {add_assoc, add-zero, mul-add}

  scale_out : (c k x y : Carrier) → c ⊗ (k ⊗ x) ⊕ k ⊗ y ≡ k ⊗ (c ⊗ x ⊕ y)
  scale_out c k x y = ap (λ z. z ⊕ k ⊗ y) (mul_left_comm F c k x) ∙ sym (mul-add k (c ⊗ x) y)

  add_step : (c x y u v : Carrier) → c ⊗ (x ⊕ y) ⊕ (u ⊕ v) ≡ c ⊗ x ⊕ u ⊕ (c ⊗ y ⊕ v)
  add_step c x y u v = simp (mul-add, add_assoc, add_left_comm F)

  module _ {A : Type 0} where
    -- the combination Σ_r c_r · f(b_r), as far as both lists go
    unfoldable pub comb : (A → Carrier) → List Carrier → List A → Carrier
    comb f [] bs = 0f
    comb f (c ∷ cs) [] = 0f
    comb f (c ∷ cs) (b ∷ bs) = c ⊗ f b ⊕ comb f cs bs

    -- a sum of functions
    pub comb_add : (f g : A → Carrier) (cs : List Carrier) (bs : List A) → comb (λ b. f b ⊕ g b) cs bs ≡ comb f cs bs ⊕ comb g cs bs
    unfolding comb
    comb_add f g [] bs = sym (add-zero 0f)
    comb_add f g (c ∷ cs) [] = sym (add-zero 0f)
    comb_add f g (c ∷ cs) (b ∷ bs) = ap (λ x. c ⊗ (f b ⊕ g b) ⊕ x) (comb_add f g cs bs) ∙ add_step c (f b) (g b) (comb f cs bs) (comb g cs bs)

    -- a multiple of a function
    pub comb_scale : (k : Carrier) (f : A → Carrier) (cs : List Carrier) (bs : List A) → comb (λ b. k ⊗ f b) cs bs ≡ k ⊗ comb f cs bs
    unfolding comb
    comb_scale k f [] bs = sym (mul-zero F k)
    comb_scale k f (c ∷ cs) [] = sym (mul-zero F k)
    comb_scale k f (c ∷ cs) (b ∷ bs) = ap (λ x. c ⊗ (k ⊗ f b) ⊕ x) (comb_scale k f cs bs) ∙ scale_out c k (f b) (comb f cs bs)

    -- the function that is zero
    pub comb_zero : (cs : List Carrier) (bs : List A) → comb (λ b. 0f) cs bs ≡ 0f
    unfolding comb
    comb_zero [] bs = refl
    comb_zero (c ∷ cs) [] = refl
    comb_zero (c ∷ cs) (b ∷ bs) = ap (λ x. c ⊗ 0f ⊕ x) (comb_zero cs bs) ∙ add-zero (c ⊗ 0f) ∙ mul-zero F c

    -- zero coefficients give zero
    pub comb_zeros : (f : A → Carrier) (cs : List Carrier) (bs : List A) → All (λ c. c ≡ 0f) cs → comb f cs bs ≡ 0f
    unfolding comb
    comb_zeros f [] bs h = refl
    comb_zeros f (c ∷ cs) [] h = refl
    comb_zeros f (c ∷ cs) (b ∷ bs) h = ap₂ (λ x y. x ⊗ f b ⊕ y) h.0 (comb_zeros f cs bs h.1) ∙ add-zero (0f ⊗ f b) ∙ zero-mul F (f b)

    -- combinations over joined lists
    pub comb_append : (f : A → Carrier) (cs ds : List Carrier) (xs ys : List A) → length cs ≡ length xs → comb f (cs ++ ds) (xs ++ ys) ≡ comb f cs xs ⊕ comb f ds ys
    unfolding comb
    comb_append f [] ds [] ys l = sym (zero-add F (comb f ds ys))
    comb_append f [] ds (x ∷ xs) ys l = absurd (omega arith)
    comb_append f (c ∷ cs) ds [] ys l = absurd (omega arith)
    comb_append f (c ∷ cs) ds (x ∷ xs) ys l = ap (λ y. c ⊗ f x ⊕ y) (comb_append f cs ds xs ys (omega arith)) ∙ sym (add_assoc (c ⊗ f x) (comb f cs xs) (comb f ds ys))

    -- a term whose coefficient is zero may be left out
    pub comb_erase : (f : A → Carrier) (i : ℕ) (cs : List Carrier) (bs : List A) → length cs ≡ length bs → get_or cs i 0f ≡ 0f → comb f (erase i cs) (erase i bs) ≡ comb f cs bs
    unfolding comb
    comb_erase f i [] bs l z = refl
    comb_erase f i (c ∷ cs) [] l z = let n : suc (length cs) ≡ 0 = l in absurd (omega arith)
    comb_erase f zero (c ∷ cs) (b ∷ bs) l z = sym (ap (λ x. x ⊗ f b ⊕ comb f cs bs) z ∙ ap (λ x. x ⊕ comb f cs bs) (zero-mul F (f b)) ∙ zero-add F (comb f cs bs))
    comb_erase f (suc i) (c ∷ cs) (b ∷ bs) l z = ap (λ x. c ⊗ f b ⊕ x) (comb_erase f i cs bs (omega arith) z)

  module _ {A B : Type 0} where
    -- combinations over a mapped list
    pub comb_map : (f : B → Carrier) (g : A → B) (cs : List Carrier) (bs : List A) → comb f cs (map g bs) ≡ comb (λ b. f (g b)) cs bs
    unfolding comb
    comb_map f g [] bs = refl
    comb_map f g (c ∷ cs) [] = refl
    comb_map f g (c ∷ cs) (b ∷ bs) = ap (λ x. c ⊗ f (g b) ⊕ x) (comb_map f g cs bs)

  -- a combination is a sum over the indices
  pub comb_sum : {A : Type 0} (f : A → Carrier) (d : A) (cs : List Carrier) (bs : List A) → length cs ≡ length bs → comb f cs bs ≡ sum F (length bs) (λ i. get_or cs i 0f ⊗ f (get_or bs i d))
  unfolding comb sum
  comb_sum f d [] [] l = refl
  comb_sum f d [] (b ∷ bs) l = absurd (omega arith)
  comb_sum f d (c ∷ cs) [] l = absurd (omega arith)
  comb_sum f d (c ∷ cs) (b ∷ bs) l = ap (λ x. c ⊗ f b ⊕ x) (comb_sum f d cs bs (omega arith))

  -- a combination over consecutive numbers is a sum over indices
  pub comb_range : (h g : ℕ → Carrier) (s n : ℕ) → comb g (map h (range s n)) (range s n) ≡ sum F n (λ i. h (s + i) ⊗ g (s + i))
  unfolding comb sum from
  comb_range h g s zero = refl
  comb_range h g s (suc n) =
      ap₂ ◌⊕◌ (ap (λ i. h i ⊗ g i) (sym (Nat.add-zero s)))
      (comb_range h g (s + 1) n ∙ ap (sum F n) (fun_ext (λ i. let e : s + 1 + i ≡ s + suc i = omega arith in ap (λ k. h k ⊗ g k) e)))
