-- Weighted sums over points.
use mathlib.Core.Path.{◌≡◌, refl, ap, ap₂}
use mathlib.Core.List.{List, [], ◌∷◌}
use Prim.Native.Nat.{suc}
use native.Mathlib.Omega.{arith}
use lib.ListN.{length}
use Rattle.algebra.specs.Field.{Field}
use Rattle.algebra.proofs.Combinations.{comb}

module _ (F : Field) where
  infixl 70 ◌⊕◌
  infixl 80 ◌⊗◌
  open F use {Carrier, 0f, add as ◌⊕◌, mul as ◌⊗◌}
  open F use {mul_assoc, mul_comm, mul-add}

  -- the coefficients c_r·f(b_r)
  abbrev pub weigh : (Carrier → Carrier) → List Carrier → List Carrier → List Carrier
  weigh f [] bs = []
  weigh f (c ∷ cs) [] = []
  weigh f (c ∷ cs) (b ∷ bs) = c ⊗ f b ∷ weigh f cs bs

  pub length_weigh : (f : Carrier → Carrier) (cs bs : List Carrier) → length cs ≡ length bs → length (weigh f cs bs) ≡ length bs
  length_weigh f [] bs l = l
  length_weigh f (c ∷ cs) [] l = refl
  length_weigh f (c ∷ cs) (b ∷ bs) l = ap suc (length_weigh f cs bs (omega arith))

  -- weights taken into the function
  pub comb_weigh : (f g : Carrier → Carrier) (cs bs : List Carrier) → comb F g (weigh f cs bs) bs ≡ comb F (λ b. f b ⊗ g b) cs bs
  unfolding comb
  comb_weigh f g [] bs = refl
  comb_weigh f g (c ∷ cs) [] = refl
  comb_weigh f g (c ∷ cs) (b ∷ bs) = ap₂ ◌⊕◌ (mul_assoc c (f b) (g b)) (comb_weigh f g cs bs)
