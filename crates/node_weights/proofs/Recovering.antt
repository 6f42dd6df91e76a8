-- The rows of the inverse of the encoding at the nodes are weights for the symbols of the message.
use mathlib.Core.Path.{◌≡◌, refl, ap, ap₂, fun_ext, ◌∙◌}
use mathlib.Core.Bool.{true}
use mathlib.Core.List.{List, map}
use Prim.Native.Nat.{ℕ, ◌-◌, ◌≤◌, ◌<◌}
use native.Mathlib.Omega.{arith}
use lib.ListN.{length, get_or, drop, length-map}
use Rattle.std.proofs.lemmas.List.{get_or-map}
use Rattle.lists.specs.Padded.{padded}
use Rattle.algebra.specs.Powers.{pow}
use Rattle.algebra.proofs.Sums.{sum}
use Rattle.algebra.proofs.Powers.{pow_add}
use Rattle.algebra.proofs.LagrangeBasis.{basis}
use Rattle.algebra.proofs.BasePolynomial.{base}
use Rattle.algebra.proofs.ShiftedBasis.{shifted, size_base, size_shifted}
use Rattle.algebra.proofs.Recovery.{recover_row, inverse}
use Rattle.field.specs.Symbols.{Symbol, numbers}
use Rattle.field.proofs.Symbols.{get_or_numbers}
use Rattle.field.proofs.FieldOf.{size_pos}
use Rattle.generator.specs.declared.Header.{Header}
use Rattle.generator.specs.Records.{modulus_of, size, Sound}
use Rattle.generator.specs.Shifts.{shifts}
use Rattle.generator.specs.Claims.{are_nodes}
use Rattle.generator.proofs.Sound.{field_for, root_for}
use Rattle.generator.proofs.Recovery.{the_code, shifts_are_places, nodes_places, lifted, length_lifted, message_size}
use Rattle.node_weights.specs.Inner.Weights.{Recovers}
use Rattle.interpolation.specs.Inner.Points.{points_of}
use Rattle.interpolation.specs.Inner.Lagrange.{scales_of}
use Rattle.interpolation.specs.Inner.Polynomials.{product_of, base_of}
use Rattle.node_weights.specs.Inner.Rows.{row_points, base_inverses, row_terms, weight_of, weights_of}
use Rattle.interpolation.proofs.Bridge.{points_of_is, base_of_is}
use Rattle.node_weights.proofs.Weights.{size_points, held_by, weights_for_lem}
use Rattle.node_weights.proofs.Rebuilding.{node_points_lem}
use Rattle.node_weights.proofs.InverseRows.{terms_of, length_weights_of, get_or_weights_of, weight_is}

-- row r of the inverse at the nodes with the points xs
abbrev pub row_of : Header → List ℕ → ℕ → List ℕ
row_of h xs r = weights_of (modulus_of h) (get_or (scales_of (modulus_of h) (row_points h)) r 0) (row_terms h r) (drop 1 (product_of (modulus_of h) xs)) xs (scales_of (modulus_of h) xs)

module _ (h : Header) (s : Sound h) where
  -- the rows' points, as symbols
  pub row_points_lem : row_points h ≡ numbers (size h) (shifted (field_for h s) (root_for h s) (pow (field_for h s) (root_for h s) (h.k - 1)) (shifts h))
  unfolding row_points
  row_points_lem =
      points_of_is (modulus_of h) s.field (root_for h s) (h.k - 1) (shifts h)
      ∙ ap (λ (f : ℕ → Symbol (size h)). numbers (size h) (map f (shifts h))) (fun_ext (λ j. pow_add (field_for h s) (root_for h s) j (h.k - 1)))

  module _ (js : List ℕ) (nodes : are_nodes h js ≡ true) (r : ℕ) (row : r < h.k) where
    abbrev points : List ℕ
    points = points_of (modulus_of h) h.root 0 js

    abbrev weights : List ℕ
    weights = row_of h points r

    size_weights : length weights ≡ h.k
    size_weights = length_weights_of (modulus_of h) _ _ _ points _ ∙ size_points h s js nodes

    -- weight i, as a symbol: entry (r, i) of the inverse
    abbrev weight : ℕ → Symbol (size h)
    weight i = inverse (field_for h s) (root_for h s) h.k (h.k - 1) (h.k - 1) (shifts h) js r i

    entry_is : (i : ℕ) → i < h.k → get_or weights i 0 ≡ (weight i).0
    unfolding row_terms base_inverses
    entry_is i l =
        let F = field_for h s in
        let a = root_for h s in
        let e = h.k - 1 in
        let bs = shifted F a (pow F a e) (shifts h) in
        let cs = base F a e in
        let xs = map (pow F a) js in
        let p = modulus_of h in
        let nums = numbers (size h) in
        get_or_weights_of p _ _ _ points _ i (omega (arith, size_points h s js nodes))
        ∙ ap (λ (l : List ℕ). weight_of p (get_or (scales_of p l) r 0) (terms_of p l (base_of p h.root e) r) (drop 1 (product_of p points)) (get_or points i 0) (get_or (scales_of p points) i 0)) row_points_lem
        ∙ ap (λ (l : List ℕ). weight_of p (get_or (scales_of p (nums bs)) r 0) (terms_of p (nums bs) l r) (drop 1 (product_of p points)) (get_or points i 0) (get_or (scales_of p points) i 0)) (base_of_is p s.field a e)
        ∙ ap (λ (l : List ℕ). weight_of p (get_or (scales_of p (nums bs)) r 0) (terms_of p (nums bs) (nums cs) r) (drop 1 (product_of p l)) (get_or l i 0) (get_or (scales_of p l) i 0)) (node_points_lem h s js nodes)
        ∙ weight_is p s.field h.k bs cs xs (size_shifted F (the_code h s) (pow F a e)) (size_base F (the_code h s)) (length-map js (pow F a) ∙ (nodes_places h js nodes).size) r i row l
        ∙ ap₂ (λ (b x : Symbol (size h)). (sum F h.k (λ c. F.mul (F.mul (get_or (basis F bs b) c F.0f) (F.inv (get_or cs c F.0f))) (get_or (basis F xs x) c F.0f))).0)
        (get_or-map (λ t. F.mul (pow F a t) (pow F a e)) (shifts h) r 0 F.0f (omega (arith, (shifts_are_places h s).size)))
        (get_or-map (pow F a) js i 0 F.0f (omega (arith, (nodes_places h js nodes).size)))

    -- the weights
    pub recovers : h.k ≤ 255 → Recovers h js r (padded 255 weights)
    recovers fits =
        weights_for_lem h s js nodes weights weight size_weights entry_is fits (λ ms. get_or ms r 0)
        (λ ms m.
        let M = lifted h s ms in
        let lm = length_lifted h s ms ∙ message_size h ms m in
        get_or_numbers (size h) (size_pos (modulus_of h) s.field) M r
        ∙ ap (λ (x : Symbol (size h)). x.0) (recover_row (field_for h s) (the_code h s) (h.k - 1) js (nodes_places h js nodes) M (held_by h s js nodes ms) lm refl r row))
