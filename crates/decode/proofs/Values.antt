-- The value of a polynomial by Horner's rule, from the last coefficient back to the first.
use mathlib.Core.Path.{◌≡◌, refl, ap, ◌∙◌}
use mathlib.Core.Bool.{true}
use mathlib.Core.List.{List, [], ◌∷◌}
use Prim.Native.Nat.{ℕ, ◌<◌}
use Rattle.field.specs.Fields.{is_field, size_of, add, mul}
use Rattle.field.proofs.BothKinds.{arithmetic}
use Rattle.field.proofs.Bounds.{mul_below}
use Rattle.generator.specs.Codewords.{poly_at}

module _ (p x : ℕ) where
  pub horner_none : 0 ≡ poly_at p [] x
  unfolding poly_at
  horner_none = refl

  pub horner_next : is_field p ≡ true → x < size_of p → (c : ℕ) (cs : List ℕ) (sum : ℕ) → c < size_of p → sum < size_of p → sum ≡ poly_at p cs x → add p (mul p x sum) c ≡ poly_at p (c ∷ cs) x
  unfolding poly_at
  horner_next v low c cs sum symbol low_sum is =
      (arithmetic p v).add_comm (mul p x sum) c (mul_below p v low low_sum) symbol ∙ ap (λ (s : ℕ). add p c (mul p x s)) is
