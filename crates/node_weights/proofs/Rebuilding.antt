-- The values of Lagrange's basis polynomials of the nodes' points at root^t are weights for what node t holds.
use mathlib.Core.Path.{◌≡◌, refl, sym, ap, fun_ext, ◌∙◌}
use mathlib.Core.Bool.{true}
use mathlib.Core.List.{List, map}
use Prim.Native.Nat.{ℕ, ◌-◌, ◌≤◌, ◌<◌}
use native.Mathlib.Nat.{add-zero, le_of_eq}
use native.Mathlib.Omega.{arith}
use lib.ListN.{length, get_or, length-map}
use Rattle.std.proofs.lemmas.List.{get_or-map}
use Rattle.lists.specs.Padded.{padded}
use Rattle.algebra.specs.Powers.{pow}
use Rattle.algebra.proofs.Poly.{eval}
use Rattle.algebra.proofs.LagrangeBasis.{basis}
use Rattle.algebra.proofs.Recovery.{node_basis, rebuild_node}
use Rattle.field.specs.Fields.{power}
use Rattle.field.specs.Symbols.{Symbol, numbers}
use Rattle.field.proofs.FieldOf.{number_pow}
use Rattle.generator.specs.declared.Header.{Header}
use Rattle.generator.specs.Records.{modulus_of, size, Sound}
use Rattle.generator.specs.Codewords.{node_of}
use Rattle.generator.specs.Claims.{are_nodes}
use Rattle.generator.proofs.Sound.{field_for, root_for}
use Rattle.generator.proofs.Shifts.{shifts_length}
use Rattle.generator.proofs.Bridge.{node_of_is}
use Rattle.generator.proofs.Recovery.{the_code, nodes_places, lifted, length_lifted, message_size}
use Rattle.node_weights.specs.Inner.Weights.{Rebuilds}
use Rattle.interpolation.specs.Inner.Points.{points_of}
use Rattle.interpolation.specs.Inner.Lagrange.{basis_at, basis_values}
use Rattle.interpolation.proofs.Values.{length_values, get_or_values}
use Rattle.interpolation.proofs.Bridge.{points_of_is, basis_at_is}
use Rattle.node_weights.proofs.Weights.{size_points, held_by, weights_for_lem}

module _ (h : Header) (s : Sound h) (js : List ℕ) (nodes : are_nodes h js ≡ true) where
  -- the nodes' points, as symbols
  pub node_points_lem : points_of (modulus_of h) h.root 0 js ≡ numbers (size h) (map (pow (field_for h s) (root_for h s)) js)
  node_points_lem =
      points_of_is (modulus_of h) s.field (root_for h s) 0 js
      ∙ ap (λ (f : ℕ → Symbol (size h)). numbers (size h) (map f js)) (fun_ext (λ j. ap (pow (field_for h s) (root_for h s)) (add-zero j)))

  module _ (t : ℕ) where
    abbrev points : List ℕ
    points = points_of (modulus_of h) h.root 0 js

    abbrev values : List ℕ
    values = basis_values (modulus_of h) points (power (modulus_of h) h.root t)

    size_values : length values ≡ h.k
    size_values = length_values (modulus_of h) points (power (modulus_of h) h.root t) ∙ size_points h s js nodes

    -- weight i, as a symbol
    abbrev weight : ℕ → Symbol (size h)
    weight i = eval (field_for h s) (node_basis (field_for h s) (root_for h s) js i) (pow (field_for h s) (root_for h s) t)

    value_is : (i : ℕ) → i < h.k → get_or values i 0 ≡ (weight i).0
    value_is i l =
        let F = field_for h s in
        let a = root_for h s in
        let xs = map (pow F a) js in
        let lj = (nodes_places h js nodes).size in
        get_or_values (modulus_of h) points (power (modulus_of h) h.root t) i (omega (arith, size_points h s js nodes))
        ∙ ap (λ (z : ℕ). basis_at (modulus_of h) points i z) (sym (number_pow (modulus_of h) s.field a t))
        ∙ ap (λ (l : List ℕ). basis_at (modulus_of h) l i (pow F a t).0) node_points_lem
        ∙ basis_at_is (modulus_of h) s.field xs i (pow F a t) (omega (arith, length-map js (pow F a)))
        ∙ ap (λ (x : Symbol (size h)). (eval F (basis F xs x) (pow F a t)).0) (get_or-map (pow F a) js i 0 F.0f (omega arith))

    -- the weights
    pub rebuilds : h.k ≤ 255 → Rebuilds h js t (padded 255 values)
    rebuilds fits =
        weights_for_lem h s js nodes values weight size_values value_is fits (λ ms. node_of h ms t)
        (λ ms m.
        let M = lifted h s ms in
        let lm = length_lifted h s ms ∙ message_size h ms m in
        node_of_is h s M t (le_of_eq (lm ∙ sym (shifts_length h.n h.k s.some s.fits)))
        ∙ ap (λ (x : Symbol (size h)). x.0) (rebuild_node (field_for h s) (the_code h s) (h.k - 1) js (nodes_places h js nodes) M (held_by h s js nodes ms) lm refl t))
