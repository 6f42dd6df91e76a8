-- Values of basis polynomials from products over the points before and after.
use mathlib.Core.Path.{◌≡◌, refl, sym, ap, ◌∙◌}
use mathlib.Core.Bool.{true}
use mathlib.Core.List.{List, [], ◌∷◌}
use Prim.Native.Nat.{ℕ, zero, suc, ◌+◌, ◌-◌, ◌<◌}
use native.Mathlib.Numerals.{add-one}
use native.Mathlib.Omega.{arith}
use lib.ListN.{length, get_or, take, drop}
use Rattle.lists.specs.Numbers.{all_below}
use Rattle.lists.specs.Padded.{padded}
use Rattle.lists.specs.Rows.{from}
use Rattle.lists.proofs.Numbers.{below_cons, below_take, below_at}
use Rattle.lists.proofs.Padding.{get_or_padded}
use Rattle.lists.proofs.Rows.{length_from, get_or_from}
use Rattle.field.specs.Fields.{is_field, size_of, sub, mul}
use Rattle.field.proofs.BothKinds.{arithmetic}
use Rattle.field.proofs.Bounds.{one_below, sub_below}
use Rattle.interpolation.specs.Inner.Lagrange.{product_at, others_at, scale_at, basis_at}
use Rattle.interpolation.proofs.Values.{product_at_below}

module _ (p : ℕ) (v : is_field p ≡ true) (z : ℕ) (low : z < size_of p) where
  pub product_last : (xs : List ℕ) (i : ℕ) → all_below (size_of p) xs ≡ true → i < length xs → product_at p (take (i + 1) xs) z ≡ mul p (product_at p (take i xs) z) (sub p z (get_or xs i 0))
  unfolding product_at
  product_last [] i below inside = absurd (omega arith)
  product_last (x ∷ xs) zero below inside =
      (arithmetic p v).mul_comm (sub p z x) 1 (sub_below p v low (below_cons (size_of p) x xs below).0) (one_below p v)
  product_last (x ∷ xs) (suc i) below inside =
      let parts = below_cons (size_of p) x xs below in
      let next : i < length xs = omega arith in
      let before = rw add-one at (product_last xs i parts.1 next) in
      rw add-one
      (ap (mul p (sub p z x)) before
      ∙ sym ((arithmetic p v).mul_assoc (sub p z x) (product_at p (take i xs) z) (sub p z (get_or xs i 0)) (sub_below p v low parts.0) (product_at_below p v (take i xs) z (below_take (size_of p) i xs parts.1) low) (sub_below p v low (below_at (size_of p) xs parts.1 i next))))

module _ (p : ℕ) (xs : List ℕ) (z i : ℕ) (inside : i < length xs) where
  -- the product over the points after number i, among those over the last m
  pub after_at : get_or (padded 255 (from (λ m. product_at p (drop (length xs - m) xs) z) 0 (length xs))) (length xs - i - 1) 0 ≡ product_at p (drop (i + 1) xs) z
  after_at =
      let f : ℕ → ℕ = λ m. product_at p (drop (length xs - m) xs) z in
      let place : length xs - (0 + (length xs - i - 1)) ≡ i + 1 = omega arith in
      get_or_padded 255 (from f 0 (length xs)) (length xs - i - 1) (omega (arith, length_from f 0 (length xs)))
      ∙ get_or_from f 0 (length xs) (length xs - i - 1) 0 (omega arith)
      ∙ ap (λ (x : ℕ). product_at p (drop x xs) z) place

  pub basis_is : mul p (scale_at p xs i) (mul p (product_at p (take i xs) z) (product_at p (drop (i + 1) xs) z)) ≡ basis_at p xs i z
  unfolding basis_at others_at
  basis_is = refl

pub product_none : (p : ℕ) (xs : List ℕ) (z : ℕ) → product_at p (take 0 xs) z ≡ 1
unfolding product_at
product_none p xs z = refl
