-- What is prepared for a list of nodes: its parts are lists of symbols, and the sums are read from bytes.
use mathlib.Core.Path.{◌≡◌, sym, ap, ◌∙◌}
use mathlib.Core.Bool.{true}
use mathlib.Core.List.{List}
use Prim.Native.Nat.{ℕ, ◌+◌, ◌*◌, ◌/◌, ◌≤◌, ◌<◌}
use native.Mathlib.Omega.{arith}
use lib.ListN.{length, get_or}
use Rattle.lists.proofs.Numbers.{below_at, below_get_or}
use Rattle.lists.proofs.Rows.{row_inside}
use Rattle.layout.specs.Width.{symbol_at, symbols_of, bytes_of}
use Rattle.layout.proofs.Widths.{length_symbols, get_or_symbols, symbols_bytes}
use Rattle.field.proofs.FieldOf.{size_pos}
use Rattle.generator.specs.declared.Header.{Header}
use Rattle.generator.specs.Records.{modulus_of, size, width, Sound}
use Rattle.generator.specs.Claims.{are_nodes}
use Rattle.generator.proofs.Widths.{width_range}
use Rattle.interpolation.specs.Inner.Lagrange.{scales_of}
use Rattle.node_weights.specs.declared.Setup.{Setup}
use Rattle.node_weights.specs.Inner.Rows.{row_points, setup_of}
use Rattle.node_weights.proofs.Parts.{Parts, parts, node_symbols, row_symbols}
use Rattle.recover_matrix.specs.Inner.Inverse.{node_points, inverse_sums}
use Rattle.recover_matrix.proofs.Rows.{sums_below, length_sums}

-- a row is short
pub few : {h : Header} → Sound h → h.k ≤ 255
few s = omega (arith, s.fits, s.byte)

module _ {h : Header} {t : Setup} (s : Sound h) (js : List ℕ) (nodes : are_nodes h js ≡ true) (is : t ≡ setup_of h js) where
  -- the basis of the nodes' points
  pub own_parts : Parts (modulus_of h) h.k (node_points h js) t.nodes
  unfolding setup_of
  own_parts = parts _ s.field _ _ _ (node_symbols h s (few s) js nodes) (ap (λ (x : Setup). x.nodes) is)

  -- and that of the rows'
  pub row_parts : Parts (modulus_of h) h.k (row_points h) t.shifts
  unfolding setup_of
  row_parts = parts _ s.field _ _ _ (row_symbols h s (few s)) (ap (λ (x : Setup). x.shifts) is)

  -- the scale of a node, and that of a row
  pub own_scale : (i : ℕ) → i < h.k → get_or t.nodes.scales i 0 ≡ get_or (scales_of (modulus_of h) (node_points h js)) i 0
  own_scale i low = own_parts.scale i low

  pub row_scale : (r : ℕ) → r < h.k → get_or t.shifts.scales r 0 ≡ get_or (scales_of (modulus_of h) (row_points h)) r 0
  row_scale r row = row_parts.scale r row

  -- they are symbols, as the nodes' points are
  pub own_scale_below : (i : ℕ) → i < h.k → get_or t.nodes.scales i 0 < size h
  own_scale_below i low =
      rw (own_scale i low) (below_at (size h) _ own_parts.some_scales.are.below i (omega (arith, own_parts.some_scales.size)))

  pub row_scale_below : (r : ℕ) → r < h.k → get_or t.shifts.scales r 0 < size h
  row_scale_below r row =
      rw (row_scale r row) (below_at (size h) _ row_parts.some_scales.are.below r (omega (arith, row_parts.some_scales.size)))

  pub point_below : (i : ℕ) → i < h.k → get_or t.nodes.points i 0 < size h
  point_below i low =
      let own = node_symbols h s (few s) js nodes in
      rw (own_parts.point i low) (below_at (size h) _ own.are.below i (omega (arith, own.size)))

-- the sums, read from bytes
module _ {h : Header} (s : Sound h) (js : List ℕ) (nodes : are_nodes h js ≡ true) (w : ℕ) {sums : List ℕ} (wide : w ≡ width h) (are : sums ≡ bytes_of (width h) (inverse_sums h js)) where
  sums_read : symbols_of w sums ≡ inverse_sums h js
  sums_read = rw (wide, are) (symbols_bytes (width h) (inverse_sums h js) (width_range h).0)

  -- sum i of row r stands inside
  pub sum_inside : (i r : ℕ) → i < h.k → r < h.k → i * h.k + r < length sums / w
  sum_inside i r low row =
      let many : length sums / w ≡ h.k * h.k = sym (length_symbols w sums) ∙ ap length sums_read ∙ length_sums h s (few s) js nodes in
      rw many (omega (arith, row_inside h.k i h.k low))

  pub sum_is : (i r : ℕ) → i < h.k → r < h.k → symbol_at w sums (i * h.k + r) ≡ get_or (inverse_sums h js) (i * h.k + r) 0
  sum_is i r low row =
      sym (get_or_symbols w sums (i * h.k + r) (sum_inside i r low row)) ∙ ap (λ (xs : List ℕ). get_or xs (i * h.k + r) 0) sums_read

  pub sum_below : (i r : ℕ) → i < h.k → r < h.k → symbol_at w sums (i * h.k + r) < size h
  sum_below i r low row =
      rw (sum_is i r low row) (below_get_or (size h) _ (size_pos _ s.field) (sums_below h s (few s) js nodes) (i * h.k + r))
