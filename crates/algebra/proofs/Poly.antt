-- Polynomials as lists of coefficients, lowest first: values, division by x − a, and the bound on the number of roots.
use mathlib.Core.Path.{◌≡◌, refl, sym, ap, ap₂, ◌∙◌, subst}
use mathlib.Core.List.{List, [], ◌∷◌, map}
use Prim.Native.Nat.{ℕ, zero, suc, ◌≤◌}
use native.Mathlib.Omega.{arith}
use lib.ListN.{length, replicate, length-replicate}
use Rattle.lists.proofs.All.{All, All-imp, All-both, All-replicate, Distinct}
use Rattle.algebra.specs.Field.{Field}
use Rattle.algebra.specs.Powers.{pow}
use Rattle.algebra.proofs.Ring.{add_sub, sub_add, add_cancel_right, mul_left_comm, zero-add, mul-zero, add-mul, sub-zero, sub_cancel, add_cancel, mul_cancel, neg_zero, neg_unique}

module _ (F : Field) where
  infixl 70 ◌⊕◌
  infixl 80 ◌⊗◌
  infix 90 ⊖◌
  open F use {Carrier, 0f, add as ◌⊕◌, mul as ◌⊗◌, neg as ⊖◌}
  open F use {add_comm, add_assoc, add-zero, mul-add}

  -- the value at x, by Horner's rule
  unfoldable pub eval : List Carrier → Carrier → Carrier
  eval [] x = 0f
  eval (c ∷ cs) x = c ⊕ x ⊗ eval cs x

  -- the values at the powers of a with the exponents js
  abbrev pub values : Carrier → List Carrier → List ℕ → List Carrier
  values a f js = map (λ j. eval f (pow F a j)) js

  -- a polynomial times a constant
  abbrev pub scale : Carrier → List Carrier → List Carrier
  scale k cs = map (λ c. k ⊗ c) cs

  -- the coefficients of p + (x − a)·q(x), for a constant p
  unfoldable pub newton : Carrier → Carrier → List Carrier → List Carrier
  newton a p [] = p ∷ []
  newton a p (q ∷ qs) = p ⊕ ⊖ (a ⊗ q) ∷ newton a q qs

  -- the quotient of c + x·cs(x) by x − a, whatever c is: the values at a of the parts of cs from each index on
  unfoldable pub quotient : Carrier → List Carrier → List Carrier
  quotient a [] = []
  quotient a (c ∷ cs) = eval (c ∷ cs) a ∷ quotient a cs

  scale_step : (k c x e : Carrier) → k ⊗ c ⊕ x ⊗ (k ⊗ e) ≡ k ⊗ (c ⊕ x ⊗ e)
  scale_step k c x e = ap (λ y. k ⊗ c ⊕ y) (mul_left_comm F x k e) ∙ sym (mul-add k c (x ⊗ e))

  -- the value of a multiple
  pub eval_scale : (k : Carrier) (cs : List Carrier) (x : Carrier) → eval (scale k cs) x ≡ k ⊗ eval cs x
  unfolding eval
  eval_scale k [] x = sym (mul-zero F k)
  eval_scale k (c ∷ cs) x = ap (λ y. k ⊗ c ⊕ x ⊗ y) (eval_scale k cs x) ∙ scale_step k c x (eval cs x)

  -- coefficients that are all zero give zero everywhere
  pub eval_zeros : (m : ℕ) (x : Carrier) → eval (replicate m 0f) x ≡ 0f
  unfolding eval
  eval_zeros zero x = refl
  eval_zeros (suc m) x = ap (λ y. 0f ⊕ x ⊗ y) (eval_zeros m x) ∙ zero-add F (x ⊗ 0f) ∙ mul-zero F x

  -- the one identity behind division and multiplication by x − a, with x = a + t
  shift_identity : (a t c e q : Carrier) → c ⊕ (a ⊕ t) ⊗ (e ⊕ t ⊗ q) ≡ c ⊕ a ⊗ e ⊕ t ⊗ (e ⊕ (a ⊕ t) ⊗ q)
  shift_identity a t c e q = simp (mul-add, add-mul F, add_assoc, mul_left_comm F)

  -- the same in terms of x
  shift_step : (a x t c e q : Carrier) → a ⊕ t ≡ x → c ⊕ x ⊗ (e ⊕ t ⊗ q) ≡ c ⊕ a ⊗ e ⊕ t ⊗ (e ⊕ x ⊗ q)
  shift_step a x t c e q h = subst (λ y. c ⊕ y ⊗ (e ⊕ t ⊗ q) ≡ c ⊕ a ⊗ e ⊕ t ⊗ (e ⊕ y ⊗ q)) h (shift_identity a t c e q)

  constant_step : (c x a t : Carrier) → c ⊕ x ⊗ 0f ≡ c ⊕ a ⊗ 0f ⊕ t ⊗ 0f
  constant_step c x a t = simp (mul-zero F, add-zero)

  -- division with remainder: c + x·cs(x) is its value at a plus (x − a) times the quotient
  pub eval_quotient : (a c : Carrier) (cs : List Carrier) (x : Carrier) → eval (c ∷ cs) x ≡ eval (c ∷ cs) a ⊕ (x ⊕ ⊖ a) ⊗ eval (quotient a cs) x
  unfolding eval quotient
  eval_quotient a c [] x = constant_step c x a (x ⊕ ⊖ a)
  eval_quotient a c (d ∷ cs) x = ap (λ y. c ⊕ x ⊗ y) (eval_quotient a d cs x) ∙ shift_step a x (x ⊕ ⊖ a) c (eval (d ∷ cs) a) (eval (quotient a cs) x) (sub_cancel F a x)

  -- the value of p + (x − a)·q(x)
  pub eval_newton : (a p : Carrier) (qs : List Carrier) (x : Carrier) → eval (newton a p qs) x ≡ p ⊕ (x ⊕ ⊖ a) ⊗ eval qs x
  unfolding eval newton
  eval_newton a p [] x = ap (λ y. p ⊕ y) (mul-zero F x ∙ sym (mul-zero F (x ⊕ ⊖ a)))
  eval_newton a p (q ∷ qs) x =
      ap (λ y. p ⊕ ⊖ (a ⊗ q) ⊕ x ⊗ y) (eval_newton a q qs x)
      ∙ shift_step a x (x ⊕ ⊖ a) (p ⊕ ⊖ (a ⊗ q)) q (eval qs x) (sub_cancel F a x)
      ∙ ap (λ y. y ⊕ (x ⊕ ⊖ a) ⊗ (q ⊕ x ⊗ eval qs x)) (sub_add F p (a ⊗ q))

  -- multiplication by x − a makes one coefficient more
  pub length_newton : (a p : Carrier) (qs : List Carrier) → length (newton a p qs) ≡ suc (length qs)
  unfolding newton
  length_newton a p [] = refl
  length_newton a p (q ∷ qs) = ap suc (length_newton a q qs)

  -- the quotient has the length of cs
  pub length_quotient : (a : Carrier) (cs : List Carrier) → length (quotient a cs) ≡ length cs
  unfolding quotient
  length_quotient a [] = refl
  length_quotient a (c ∷ cs) = ap suc (length_quotient a cs)

  -- the quotient multiplied by x − a again
  newton_quotient_step : (a p : Carrier) (cs : List Carrier) → newton a p (quotient a cs) ≡ p ⊕ ⊖ (a ⊗ eval cs a) ∷ cs
  unfolding eval newton quotient
  newton_quotient_step a p [] = ap (λ y. y ∷ []) (sym (rw (mul-zero F, neg_zero F, add-zero)))
  newton_quotient_step a p (c ∷ cs) =
      ap (λ y. p ⊕ ⊖ (a ⊗ eval (c ∷ cs) a) ∷ y) (newton_quotient_step a (eval (c ∷ cs) a) cs ∙ ap (λ y. y ∷ cs) (add_sub F c (a ⊗ eval cs a)))

  -- exact division: where a is a root, the polynomial is (x − a) times its quotient, coefficient by coefficient
  pub newton_quotient : (a c : Carrier) (cs : List Carrier) → eval (c ∷ cs) a ≡ 0f → newton a 0f (quotient a cs) ≡ c ∷ cs
  unfolding eval
  newton_quotient a c cs h =
      newton_quotient_step a 0f cs ∙ ap (λ y. y ∷ cs) (zero-add F (⊖ (a ⊗ eval cs a)) ∙ sym (neg_unique F (a ⊗ eval cs a) c (add_comm (a ⊗ eval cs a) c ∙ h)))

  -- equal tails and equal values give equal lists
  same_cons : (a c d : Carrier) (cs ds : List Carrier) → cs ≡ ds → eval (c ∷ cs) a ≡ eval (d ∷ ds) a → c ∷ cs ≡ d ∷ ds
  unfolding eval
  same_cons a c d cs ds t h = ap₂ ◌∷◌ (add_cancel_right F c d (a ⊗ eval ds a) (ap (λ y. c ⊕ a ⊗ eval y a) (sym t) ∙ h)) t

  -- the values of the parts of a polynomial determine it
  quotient_injective : (a : Carrier) (cs ds : List Carrier) → length cs ≡ length ds → quotient a cs ≡ quotient a ds → cs ≡ ds
  unfolding quotient
  quotient_injective a [] [] l e = refl
  quotient_injective a [] (d ∷ ds) l e = absurd (omega arith)
  quotient_injective a (c ∷ cs) [] l e = absurd (omega arith)
  quotient_injective a (c ∷ cs) (d ∷ ds) l e = same_cons a c d cs ds (quotient_injective a cs ds (omega arith) (cc)) (cc)

  -- polynomials that agree at a and at x ≠ a have quotients that agree at x
  quotient_agree : (a x c d : Carrier) (cs ds : List Carrier) → (a ≡ x → ⊥) → eval (c ∷ cs) a ≡ eval (d ∷ ds) a → eval (c ∷ cs) x ≡ eval (d ∷ ds) x → eval (quotient a cs) x ≡ eval (quotient a ds) x
  quotient_agree a x c d cs ds n h k =
      mul_cancel F (x ⊕ ⊖ a) (eval (quotient a cs) x) (eval (quotient a ds) x) (λ z. n (sym (sub-zero F x a z)))
      (add_cancel F (eval (c ∷ cs) a) ((x ⊕ ⊖ a) ⊗ eval (quotient a cs) x) ((x ⊕ ⊖ a) ⊗ eval (quotient a ds) x)
      (sym (eval_quotient a c cs x) ∙ k ∙ eval_quotient a d ds x ∙ ap (λ y. y ⊕ (x ⊕ ⊖ a) ⊗ eval (quotient a ds) x) (sym h)))

  -- uniqueness: two polynomials of one length that agree at as many distinct points are one
  pub unique : (xs cs ds : List Carrier) → Distinct xs → length cs ≡ length ds → length cs ≤ length xs → All (λ x. eval cs x ≡ eval ds x) xs → cs ≡ ds
  unique [] [] [] u l b h = refl
  unique [] [] (d ∷ ds) u l b h = absurd (omega arith)
  unique [] (c ∷ cs) ds u l b h = absurd (omega arith)
  unique (a ∷ xs) [] [] u l b h = refl
  unique (a ∷ xs) [] (d ∷ ds) u l b h = absurd (omega arith)
  unique (a ∷ xs) (c ∷ cs) [] u l b h = absurd (omega arith)
  unique (a ∷ xs) (c ∷ cs) (d ∷ ds) u l b h =
      same_cons a c d cs ds
      (quotient_injective a cs ds (omega arith)
      (unique xs (quotient a cs) (quotient a ds) u.1 (omega (arith, length_quotient a cs, length_quotient a ds)) (omega (arith, length_quotient a cs))
      (All-imp (λ x. (a ≡ x → ⊥) × (eval (c ∷ cs) x ≡ eval (d ∷ ds) x)) (λ x. eval (quotient a cs) x ≡ eval (quotient a ds) x)
      (λ x g. quotient_agree a x c d cs ds g.0 h.0 g.1) xs (All-both (λ x. a ≡ x → ⊥) (λ x. eval (c ∷ cs) x ≡ eval (d ∷ ds) x) xs u.0 h.1))))
      h.0

  -- the root bound: a polynomial of length at most m that vanishes at m distinct points is zero
  pub root_bound : (xs cs : List Carrier) → Distinct xs → length cs ≤ length xs → All (λ x. eval cs x ≡ 0f) xs → cs ≡ replicate (length cs) 0f
  root_bound xs cs u b h =
      unique xs cs (replicate (length cs) 0f) u (sym (length-replicate (length cs) 0f)) b
      (All-imp (λ x. eval cs x ≡ 0f) (λ x. eval cs x ≡ eval (replicate (length cs) 0f) x) (λ x z. z ∙ sym (eval_zeros (length cs) x)) xs h)

  -- a list of zeros has every coefficient zero
  pub all_zero_lem : (cs : List Carrier) (n : ℕ) → cs ≡ replicate n 0f → All (λ c. c ≡ 0f) cs
  all_zero_lem cs n e = subst (All (λ c. c ≡ 0f)) (sym e) (All-replicate (λ c. c ≡ 0f) n 0f refl)
