-- Values of products and of Lagrange's basis polynomials: one factor more, and that they are symbols.
use mathlib.Core.Path.{◌≡◌, ap, ◌∙◌}
use mathlib.Core.Bool.{true}
use mathlib.Core.List.{List, [], ◌∷◌}
use Prim.Native.Nat.{ℕ, ◌+◌, ◌<◌}
use native.Mathlib.Nat.{zero-add}
use lib.ListN.{length, get_or, take, drop}
use Rattle.lists.specs.Numbers.{all_below}
use Rattle.lists.proofs.Numbers.{below_cons, below_take, below_drop, below_at}
use Rattle.lists.proofs.Rows.{length_from, get_or_from}
use Rattle.field.specs.Fields.{is_field, size_of}
use Rattle.field.proofs.Bounds.{one_below, sub_below, mul_below}
use Rattle.field.proofs.Inverse.{inverse_below}
use Rattle.interpolation.specs.Inner.Lagrange.{product_at, others_at, scale_at, basis_at, basis_values, scales_of}

-- as many scales as points, and scale i
pub length_scales : (p : ℕ) (xs : List ℕ) → length (scales_of p xs) ≡ length xs
unfolding scales_of
length_scales p xs = length_from (scale_at p xs) 0 (length xs)

pub get_or_scales : (p : ℕ) (xs : List ℕ) (i : ℕ) → i < length xs → get_or (scales_of p xs) i 0 ≡ scale_at p xs i
unfolding scales_of
get_or_scales p xs i l = get_or_from (scale_at p xs) 0 (length xs) i 0 l ∙ ap (scale_at p xs) (zero-add i)

-- as many values as points, and value i
pub length_values : (p : ℕ) (xs : List ℕ) (z : ℕ) → length (basis_values p xs z) ≡ length xs
unfolding basis_values
length_values p xs z = length_from (λ i. basis_at p xs i z) 0 (length xs)

pub get_or_values : (p : ℕ) (xs : List ℕ) (z i : ℕ) → i < length xs → get_or (basis_values p xs z) i 0 ≡ basis_at p xs i z
unfolding basis_values
get_or_values p xs z i l = get_or_from (λ i. basis_at p xs i z) 0 (length xs) i 0 l ∙ ap (λ (j : ℕ). basis_at p xs j z) (zero-add i)

module _ (p : ℕ) (v : is_field p ≡ true) where
  pub product_at_below : (xs : List ℕ) (z : ℕ) → all_below (size_of p) xs ≡ true → z < size_of p → product_at p xs z < size_of p
  unfolding product_at
  product_at_below [] z h l = one_below p v
  product_at_below (x ∷ xs) z h l =
      let a = below_cons (size_of p) x xs h in
      mul_below p v (sub_below p v l a.0) (product_at_below xs z a.1 l)

  pub others_at_below : (xs : List ℕ) (i z : ℕ) → all_below (size_of p) xs ≡ true → z < size_of p → others_at p xs i z < size_of p
  unfolding others_at
  others_at_below xs i z h l =
      mul_below p v
      (product_at_below (take i xs) z (below_take (size_of p) i xs h) l)
      (product_at_below (drop (i + 1) xs) z (below_drop (size_of p) (i + 1) xs h) l)

  pub scale_at_below : (xs : List ℕ) (i : ℕ) → all_below (size_of p) xs ≡ true → i < length xs → scale_at p xs i < size_of p
  unfolding scale_at
  scale_at_below xs i h l = inverse_below p v (others_at_below xs i (get_or xs i 0) h (below_at (size_of p) xs h i l))
