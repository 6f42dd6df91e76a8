-- The errors that are worked out are symbols.
use mathlib.Core.Path.{◌≡◌}
use mathlib.Core.Bool.{true}
use mathlib.Core.List.{List}
use Prim.Native.Nat.{ℕ, ◌<◌}
use native.Mathlib.Omega.{arith}
use lib.ListN.{length, get_or}
use Rattle.lists.specs.Numbers.{all_below}
use Rattle.lists.proofs.Numbers.{below_at, at_below}
use Rattle.lists.proofs.Rows.{length_from, get_or_from}
use Rattle.field.specs.Fields.{is_field, size_of}
use Rattle.field.proofs.Bounds.{mul_below}
use Rattle.field.proofs.Sums.{dot_below}
use Rattle.field.proofs.Inverse.{inverse_below}
use Rattle.interpolation.proofs.Coefficients.{quotient_of_below}
use Rattle.decode.specs.Inner.Errors.{error_of, errors_from}

module _ (p : ℕ) (v : is_field p ≡ true) where
  module _ (cs ts : List ℕ) (below_cs : all_below (size_of p) cs ≡ true) (below_ts : all_below (size_of p) ts ≡ true) where
    pub error_of_below : (x d : ℕ) → x < size_of p → d < size_of p → error_of p cs ts x d < size_of p
    unfolding error_of
    error_of_below x d a b = mul_below p v (mul_below p v (dot_below p v ts _ below_ts (quotient_of_below p v x cs a below_cs)) b) (inverse_below p v a)

    pub errors_from_below : (xs ds : List ℕ) → length ds ≡ length xs → all_below (size_of p) xs ≡ true → all_below (size_of p) ds ≡ true → all_below (size_of p) (errors_from p cs ts xs ds) ≡ true
    unfolding errors_from
    errors_from_below xs ds l a b =
        at_below (size_of p) _
        (λ i h.
        let c : i < length xs = omega (arith, length_from (λ i. error_of p cs ts (get_or xs i 0) (get_or ds i 0)) 0 (length xs)) in
        rw (get_or_from (λ i. error_of p cs ts (get_or xs i 0) (get_or ds i 0)) 0 (length xs) i 0 c)
        (error_of_below _ _ (below_at (size_of p) xs a _ (omega arith)) (below_at (size_of p) ds b _ (omega arith))))
