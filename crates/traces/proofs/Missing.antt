-- Repair by traces where further nodes are missing: the symbols are multiplied by a product that is 0 at the missing nodes and 1 at the target, so these send nothing.
use mathlib.Core.Path.{◌≡◌, refl, ap, ap₂, fun_ext, ◌∙◌}
use mathlib.Core.List.{List, [], ◌∷◌}
use Prim.Native.Nat.{ℕ, suc, ◌+◌, ◌-◌, ◌^◌, ◌≤◌, ◌<◌}
use native.Mathlib.Omega.{arith}
use lib.ListN.{length}
use Rattle.lists.proofs.All.{All}
use Rattle.algebra.specs.Field.{Field}
use Rattle.algebra.specs.Powers.{pow}
use Rattle.algebra.proofs.Ring.{mul_left_comm, mul-zero, zero-mul, one-mul, sub-zero}
use Rattle.algebra.proofs.Sums.{sum, sum_add, sum_scale, sum_zero}
use Rattle.traces.proofs.Frobenius.{Frobenius, trace, zero_pow, power_pos}
use Rattle.traces.proofs.Repair.{Balanced, repair}

module _ (F : Field) where
  infixl 70 ◌⊕◌
  infixl 80 ◌⊗◌
  infix 90 ⊖◌
  open F use {Carrier, 0f, 1f, add as ◌⊕◌, mul as ◌⊗◌, neg as ⊖◌, inv}
  open F use {add-zero, add_neg, mul_comm, mul_assoc, mul-one, mul_inv, mul-add}

  -- the product of (x − a) / (1 − a) over the missing points a
  unfoldable pub erase : List Carrier → Carrier → Carrier
  erase [] x = 1f
  erase (a ∷ as') x = (x ⊕ ⊖ a) ⊗ inv (1f ⊕ ⊖ a) ⊗ erase as' x

  -- it is 1 at 1, where no missing point is there ..
  pub erase_one : (as' : List Carrier) → All (λ a. 1f ≡ a → ⊥) as' → erase as' 1f ≡ 1f
  unfolding erase
  erase_one [] h = refl
  erase_one (a ∷ as') h = ap₂ ◌⊗◌ (mul_inv (1f ⊕ ⊖ a) (λ z. h.0 (sub-zero F 1f a z))) (erase_one as' h.1) ∙ mul-one 1f

  -- .. and 0 at the first missing point, and where a later part is 0
  pub erase_here : (as' : List Carrier) (a : Carrier) → erase (a ∷ as') a ≡ 0f
  unfolding erase
  erase_here as' a = ap (λ z. z ⊗ inv (1f ⊕ ⊖ a) ⊗ erase as' a) (add_neg a) ∙ ap (λ z. z ⊗ erase as' a) (zero-mul F (inv (1f ⊕ ⊖ a))) ∙ zero-mul F (erase as' a)

  pub erase_later : (as' : List Carrier) (a x : Carrier) → erase as' x ≡ 0f → erase (a ∷ as') x ≡ 0f
  unfolding erase
  erase_later as' a x z = ap (λ y. (x ⊕ ⊖ a) ⊗ inv (1f ⊕ ⊖ a) ⊗ y) z ∙ mul-zero F ((x ⊕ ⊖ a) ⊗ inv (1f ⊕ ⊖ a))

  factor_step : (s g p x a c : Carrier) → (x ⊕ ⊖ a) ⊗ c ⊗ g ⊗ s ⊗ p ≡ c ⊗ (g ⊗ s ⊗ (x ⊗ p)) ⊕ ⊖ a ⊗ c ⊗ (g ⊗ s ⊗ p)
  factor_step s g p x a c =
      ap (λ z. z ⊗ p) (mul_assoc ((x ⊕ ⊖ a) ⊗ c) g s) ∙ mul_assoc ((x ⊕ ⊖ a) ⊗ c) (g ⊗ s) p
      ∙ ap (λ z. z ⊗ (g ⊗ s ⊗ p)) (mul_comm (x ⊕ ⊖ a) c ∙ mul-add c x (⊖ a))
      ∙ mul_comm (c ⊗ x ⊕ c ⊗ ⊖ a) (g ⊗ s ⊗ p)
      ∙ mul-add (g ⊗ s ⊗ p) (c ⊗ x) (c ⊗ ⊖ a)
      ∙ ap₂ ◌⊕◌
      (mul_left_comm F (g ⊗ s ⊗ p) c x ∙ ap (λ z. c ⊗ z) (mul_assoc (g ⊗ s) p x ∙ ap (λ z. g ⊗ s ⊗ z) (mul_comm p x)))
      (mul_comm (g ⊗ s ⊗ p) (c ⊗ ⊖ a) ∙ ap (λ z. z ⊗ (g ⊗ s ⊗ p)) (mul_comm c (⊖ a)))

  -- each factor takes one sum away
  erased_sums : (n R : ℕ) (s x : ℕ → Carrier) → ((e : ℕ) → 0 < e → e ≤ R → sum F n (λ j. s j ⊗ pow F (x j) e) ≡ 0f) → (as' : List Carrier) (e : ℕ) → 0 < e → e + length as' ≤ R → sum F n (λ j. erase as' (x j) ⊗ s j ⊗ pow F (x j) e) ≡ 0f
  unfolding erase
  erased_sums n R s x h [] e p l = ap (sum F n) (fun_ext (λ j. ap (λ z. z ⊗ pow F (x j) e) (one-mul F (s j)))) ∙ h e p (omega arith)
  erased_sums n R s x h (a ∷ as') e p l =
      let c = inv (1f ⊕ ⊖ a) in
      ap (sum F n) (fun_ext (λ j. factor_step (s j) (erase as' (x j)) (pow F (x j) e) (x j) a c))
      ∙ sum_add F n (λ j. c ⊗ (erase as' (x j) ⊗ s j ⊗ pow F (x j) (suc e))) (λ j. ⊖ a ⊗ c ⊗ (erase as' (x j) ⊗ s j ⊗ pow F (x j) e))
      ∙ ap₂ ◌⊕◌
      (sum_scale F n c (λ j. erase as' (x j) ⊗ s j ⊗ pow F (x j) (suc e)) ∙ ap (λ z. c ⊗ z) (erased_sums n R s x h as' (suc e) (omega arith) (omega arith)) ∙ mul-zero F c)
      (sum_scale F n (⊖ a ⊗ c) (λ j. erase as' (x j) ⊗ s j ⊗ pow F (x j) e) ∙ ap (λ z. ⊖ a ⊗ c ⊗ z) (erased_sums n R s x h as' e p (omega arith)) ∙ mul-zero F (⊖ a ⊗ c))
      ∙ add-zero 0f

  -- so the erased symbols are balanced, with R less the number of missing points
  erased_balanced : (n R t : ℕ) (s x : ℕ → Carrier) → Balanced F n R t s x → (as' : List Carrier) (Q : ℕ) → 1 ≤ Q → Q + length as' ≤ R → Balanced F n Q t (λ j. erase as' (x j) ⊗ s j) x
  erased_balanced n R t s x b as' Q some fits =
      record {
        inside = b.inside;
        some = some;
        here = b.here;
        others = b.others;
        sums = λ e p q. erased_sums n R s x b.sums as' e p (omega arith);
      }

  -- the target's symbol from the traces of the nodes that are there
  pub repair_missing : (n R t : ℕ) (s x : ℕ → Carrier) → Balanced F n R t s x → (r l : ℕ) → Frobenius F r l → (as' : List Carrier) → All (λ a. 1f ≡ a → ⊥) as' → r ^ (l - 1) + length as' ≤ R → sum F n (λ j. (x j ⊕ ⊖ 1f) ⊗ trace F r l (x j ⊗ inv (x j ⊕ ⊖ 1f) ⊗ erase as' (x j) ⊗ s j)) ≡ ⊖ (s t)
  repair_missing n R t s x b r l fr as' away enough =
      ap (sum F n) (fun_ext (λ j. ap (λ z. (x j ⊕ ⊖ 1f) ⊗ trace F r l z) (mul_assoc (x j ⊗ inv (x j ⊕ ⊖ 1f)) (erase as' (x j)) (s j))))
      ∙ repair F n (r ^ (l - 1)) t (λ j. erase as' (x j) ⊗ s j) x (erased_balanced n R t s x b as' (r ^ (l - 1)) (power_pos F r l fr (l - 1)) enough) r l fr (omega arith)
      ∙ ap ⊖◌ (ap (λ z. erase as' z ⊗ s t) b.here ∙ ap (λ z. z ⊗ s t) (erase_one as' away) ∙ one-mul F (s t))

  -- nothing comes of a node whose factor is 0
  pub missing_term : (r l : ℕ) → Frobenius F r l → (y z g w : Carrier) → g ≡ 0f → y ⊗ trace F r l (z ⊗ g ⊗ w) ≡ 0f
  unfolding trace
  missing_term r l fr y z g w e =
      let none : z ⊗ g ⊗ w ≡ 0f = ap (λ v. v ⊗ w) (ap (λ v. z ⊗ v) e ∙ mul-zero F z) ∙ zero-mul F w in
      ap (λ v. y ⊗ trace F r l v) none ∙ ap (λ v. y ⊗ v) (sum_zero F l (λ i. pow F 0f (r ^ i)) (λ i h. zero_pow F (r ^ i) (power_pos F r l fr i))) ∙ mul-zero F y
