-- Changing one coefficient of a combination.
use mathlib.Core.Path.{◌≡◌, sym, ap, ◌∙◌}
use mathlib.Core.List.{List, [], ◌∷◌}
use Prim.Native.Nat.{ℕ, zero, suc, ◌<◌}
use native.Mathlib.Omega.{arith}
use lib.ListN.{length, get_or, set}
use Rattle.algebra.specs.Field.{Field}
use Rattle.algebra.proofs.Ring.{add-mul, sub_cancel, add_cancel, no_divisors, sub-zero}
use Rattle.algebra.proofs.Combinations.{comb}

module _ (F : Field) where
  infixl 70 ◌⊕◌
  infixl 80 ◌⊗◌
  infix 90 ⊖◌
  open F use {Carrier, 0f, add as ◌⊕◌, mul as ◌⊗◌, neg as ⊖◌}
  open F use {add_assoc, add_comm, add-zero}

  -- x·y = c·y + (x − c)·y, with a further term
  replace_step : (x c y w : Carrier) → x ⊗ y ⊕ w ≡ c ⊗ y ⊕ w ⊕ (x ⊕ ⊖ c) ⊗ y
  replace_step x c y w =
      ap (λ z. z ⊗ y ⊕ w) (sym (sub_cancel F c x))
      ∙ ap (λ z. z ⊕ w) (add-mul F c (x ⊕ ⊖ c) y)
      ∙ add_assoc (c ⊗ y) ((x ⊕ ⊖ c) ⊗ y) w
      ∙ ap (λ z. c ⊗ y ⊕ z) (add_comm ((x ⊕ ⊖ c) ⊗ y) w)
      ∙ sym (add_assoc (c ⊗ y) w ((x ⊕ ⊖ c) ⊗ y))

  -- the change of coefficient r from c to x adds (x − c) times its term
  pub comb_set : {A : Type 0} (f : A → Carrier) (cs : List Carrier) (bs : List A) (r : ℕ) (x : Carrier) (d : A) → r < length cs → r < length bs → comb F f (set cs r x) bs ≡ comb F f cs bs ⊕ (x ⊕ ⊖ get_or cs r 0f) ⊗ f (get_or bs r d)
  unfolding comb
  comb_set f [] bs r x d l k = absurd (omega arith)
  comb_set f (c ∷ cs) [] r x d l k = absurd (omega arith)
  comb_set f (c ∷ cs) (b ∷ bs) zero x d l k = replace_step x c (f b) (comb F f cs bs)
  comb_set f (c ∷ cs) (b ∷ bs) (suc r) x d l k =
      ap (λ z. c ⊗ f b ⊕ z) (comb_set f cs bs r x d (omega arith) (omega arith))
      ∙ sym (add_assoc (c ⊗ f b) (comb F f cs bs) ((x ⊕ ⊖ get_or cs r 0f) ⊗ f (get_or bs r d)))

  -- adding (x − c)·y with x ≠ c changes a sum just where y is not zero
  pub change_zero : (w x c y : Carrier) → (x ≡ c → ⊥) → w ≡ w ⊕ (x ⊕ ⊖ c) ⊗ y → y ≡ 0f
  change_zero w x c y n e =
      no_divisors F (x ⊕ ⊖ c) y (λ z. n (sub-zero F x c z)) (sym (add_cancel F w 0f ((x ⊕ ⊖ c) ⊗ y) (add-zero w ∙ e)))
