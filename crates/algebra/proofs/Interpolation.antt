-- Interpolation: exactly one polynomial of length k takes k given values at k distinct points.
use mathlib.Core.Path.{◌≡◌, sym, ◌∙◌}
use mathlib.Core.List.{List, map}
use Prim.Native.Nat.{◌≤◌}
use native.Mathlib.Omega.{arith}
use lib.ListN.{length, get_or, length-map}
use lib.Seq.{ext_get_or}
use Rattle.lists.specs.Rows.{from}
use Rattle.lists.proofs.Rows.{length_from}
use Rattle.std.proofs.lemmas.List.{get_or-map}
use Rattle.lists.proofs.All.{Distinct, ExactlyOne, agree_map}
use Rattle.algebra.specs.Field.{Field}
use Rattle.algebra.proofs.Poly.{eval, unique}
use Rattle.algebra.proofs.Coefficients.{eval_from}
use Rattle.algebra.proofs.Lagrange.{combined, combined_point}

module _ (F : Field) where
  open F use {Carrier, 0f}

  -- the polynomial Σ_i y_i·basis_i
  unfoldable pub interpolate : List Carrier → List Carrier → List Carrier
  interpolate xs ys = from (combined F xs (λ i. get_or ys i 0f)) 0 (length xs)

  -- as many coefficients as points
  pub length_interpolate : (xs ys : List Carrier) → length (interpolate xs ys) ≡ length xs
  unfolding interpolate
  length_interpolate xs ys = length_from (combined F xs (λ i. get_or ys i 0f)) 0 (length xs)

  -- it takes the given values
  pub interpolate_values : (xs ys : List Carrier) → Distinct xs → length xs ≡ length ys → map (eval F (interpolate xs ys)) xs ≡ ys
  unfolding interpolate
  interpolate_values xs ys u l =
      let s = length-map xs (eval F (interpolate xs ys)) in
      ext_get_or 0f (map (eval F (interpolate xs ys)) xs) ys (s ∙ l)
      (λ j h.
      get_or-map (eval F (interpolate xs ys)) xs j 0f 0f (omega arith)
      ∙ eval_from F (combined F xs (λ i. get_or ys i 0f)) (length xs) (get_or xs j 0f)
      ∙ combined_point F xs u (λ i. get_or ys i 0f) j (omega arith))

  -- a polynomial of length at most k is determined by its values at k distinct points
  pub values_determine : (xs cs ds : List Carrier) → Distinct xs → length cs ≡ length ds → length cs ≤ length xs → map (eval F cs) xs ≡ map (eval F ds) xs → cs ≡ ds
  values_determine xs cs ds u l b h = unique F xs cs ds u l b (agree_map (eval F cs) (eval F ds) xs h)

  -- exactly one polynomial of length k takes the values ys at the k distinct points xs
  pub interpolation : (xs ys : List Carrier) → Distinct xs → length xs ≡ length ys → ExactlyOne (λ cs. (length cs ≡ length xs) × (map (eval F cs) xs ≡ ys))
  interpolation xs ys u l =
      let k = length_interpolate xs ys in
      let v = interpolate_values xs ys u l in
      (interpolate xs ys, (k, v), λ ds h. values_determine xs ds (interpolate xs ys) u (h.0 ∙ sym k) (omega arith) (h.1 ∙ sym v))
