-- Check sums cleared of the places at which a polynomial G vanishes: T_e = Σ_m G_m·S_(e+m) are the check sums of the errors times G,
-- so a locator of the T_e vanishes at every other place that is wrong.
use mathlib.Core.Path.{◌≡◌, refl, sym, ap, ap₂, fun_ext, ◌∙◌}
use mathlib.Core.List.{List, [], ◌∷◌, map}
use Prim.Native.Nat.{ℕ, suc, ◌+◌, ◌≤◌, ◌<◌}
use native.Mathlib.Omega.{arith}
use lib.ListN.{length}
use Rattle.algebra.specs.Field.{Field}
use Rattle.lists.specs.Rows.{range}
use Rattle.algebra.proofs.Ring.{sub-zero, no_divisors}
use Rattle.algebra.proofs.Combinations.{comb}
use Rattle.algebra.proofs.Poly.{eval}
use Rattle.algebra.specs.Powers.{pow, Order}
use Rattle.algebra.proofs.Powers.{pow_mul}
use Rattle.nearest_word.proofs.Selection.{dec_not, All-unkeep}
use Rattle.nearest_word.proofs.Recurrence.{discrepancy}
use Rattle.nearest_word.proofs.Massey.{Locator}
use Rattle.nearest_word.proofs.Errors.{value, syndrome, error, faults, discrepancy_agree, errors_located}
use Rattle.nearest_word.proofs.Correction.{range_at, discrepancy_errors}

module _ (F : Field) where
  infixl 70 ◌⊕◌
  infixl 80 ◌⊗◌
  infix 90 ⊖◌
  open F use {Carrier, 0f, add as ◌⊕◌, mul as ◌⊗◌, neg as ⊖◌, decide, mul_assoc, mul_comm}

  -- weights taken into the coefficients
  comb_weights : (p q g : ℕ → Carrier) (js : List ℕ) → comb F (λ j. q j ⊗ g j) (map p js) js ≡ comb F g (map (λ j. p j ⊗ q j) js) js
  unfolding comb
  comb_weights p q g [] = refl
  comb_weights p q g (j ∷ js) = ap₂ ◌⊕◌ (sym (mul_assoc (p j) (q j) (g j))) (comb_weights p q g js)

  module _ (a : Carrier) (n : ℕ) (o : Order F a n) (f : List Carrier) (y : ℕ → Carrier) where
    abbrev e : ℕ → Carrier
    e = error F a n o f y

    module _ (G : List Carrier) where
      -- the errors times the values of G
      abbrev pub cleared : ℕ → Carrier
      cleared j = e j ⊗ value F a G j

      -- T_e is check sum e of these
      pub cleared_sums : (i : ℕ) → length G + i + length f ≤ n → discrepancy F G (syndrome F a n y) i ≡ syndrome F a n cleared i
      cleared_sums i l =
          discrepancy_errors F a n o f y G i l
          ∙ comb_weights e (value F a G) (λ j. pow F (pow F a j) (suc i)) (range 0 n)
          ∙ ap (λ g. comb F g (map cleared (range 0 n)) (range 0 n)) (fun_ext (λ j. sym (pow_mul F a j (suc i))))

      -- every locator of the T_e vanishes where y is wrong and G does not vanish
      pub cleared_located : (t : ℕ) (v : List Carrier) → 0 < length G → length G + (t + t) + length f ≤ suc n → length (faults F cleared (value F a []) (range 0 n)) ≤ t → Locator F (discrepancy F G (syndrome F a n y)) t v → (j : ℕ) → j < n → (y j ≡ value F a f j → ⊥) → (value F a G j ≡ 0f → ⊥) → value F a v j ≡ 0f
      unfolding eval
      cleared_located t v some bound few loc j b q g =
          range_at (λ j. (cleared j ≡ value F a [] j → ⊥) → value F a v j ≡ 0f) 0 n
          (All-unkeep (λ j. cleared j ≡ value F a [] j → ⊥) (λ j. dec_not (decide (cleared j) (value F a [] j))) (λ j. value F a v j ≡ 0f) (range 0 n)
          (errors_located F a n o [] cleared 0 t refl (omega arith) few v
          (record {
            short = loc.short;
            nonzero = loc.nonzero;
            recurs = λ i c. discrepancy_agree F v (syndrome F a n cleared) (discrepancy F G (syndrome F a n y)) i (t + t) (omega (arith, loc.short)) (λ m d. sym (cleared_sums m (omega arith))) ∙ loc.recurs i c;
          })))
          j (omega arith) (omega arith)
          (λ z. q (sub-zero F (y j) (value F a f j) (no_divisors F (value F a G j) (e j) g (mul_comm (value F a G j) (e j) ∙ z))))
