-- Nodes that may be wrong: what is known of them, of the lane and of the errors there, and that the lane without these errors is n symbols.
use mathlib.Core.Path.{◌≡◌, refl, sym, ◌∙◌}
use mathlib.Core.Bool.{true}
use mathlib.Core.List.{List}
use Prim.Native.Nat.{ℕ, ◌+◌, ◌-◌, ◌≤◌}
use native.Mathlib.Omega.{arith}
use lib.ListN.{length, take, drop}
use Rattle.lists.specs.Numbers.{all_below}
use Rattle.lists.specs.Padded.{padded}
use Rattle.lists.specs.Rows.{from}
use Rattle.lists.proofs.All.{Distinct}
use Rattle.lists.proofs.Numbers.{below_take, at_below}
use Rattle.lists.proofs.Rows.{get_or_from, length_from}
use Rattle.lists.proofs.Padding.{length_padded, below_padded}
use Rattle.field.proofs.FieldOf.{size_pos}
use Rattle.generator.specs.declared.Header.{Header}
use Rattle.generator.specs.Records.{modulus_of, size, Sound}
use Rattle.generator.specs.Codewords.{check_from}
use Rattle.generator.proofs.Bounds.{check_from_below}
use Rattle.interpolation.specs.Inner.Points.{SymbolList, points_of}
use Rattle.interpolation.specs.Inner.Lagrange.{scales_of}
use Rattle.interpolation.specs.Inner.Polynomials.{product_of}
use Rattle.interpolation.proofs.Points.{length_points, points_symbols}
use Rattle.node_weights.specs.Inner.Rows.{basis_of}
use Rattle.node_weights.proofs.Parts.{Parts, parts}
use Rattle.check_sums.specs.Inner.Sums.{check_sums}
use Rattle.check_sums.proofs.OneLane.{length_sums}
use Rattle.decode.specs.Inner.Locating.{Below}
use Rattle.decode.specs.Inner.Errors.{errors_of, errors_at, removed}
use Rattle.decode.specs.Inner.Candidates.{SoundLane}
use Rattle.decode.proofs.Arrays.{below_everywhere}
use Rattle.decode.proofs.ErrorSymbols.{errors_from_below}
use Rattle.decode.proofs.Removing.{length_removed, removed_below}
use Rattle.decode.proofs.Repaired.{length_es}

-- check sums are symbols
sums_below : (h : Header) (s : Sound h) (ws : List ℕ) → all_below (size h) ws ≡ true → all_below (size h) (check_sums h ws) ≡ true
unfolding check_sums
sums_below h s ws b =
    let f : ℕ → ℕ = λ e. check_from h e 0 ws in
    at_below (size h) (from f 1 (h.n - h.k))
    (λ i l. rw (get_or_from f 1 (h.n - h.k) i 0 (omega (arith, length_from f 1 (h.n - h.k)))) (check_from_below h s (1 + i) 0 ws b))

-- what is known of listed nodes, the lane, the errors, and the lane without them
pub record NodeParts (h : Header) (ws sums nodes : List ℕ) : Type 0 where
  pub nodes_low : all_below (length ws) nodes ≡ true
  pub lane_symbols : SymbolList (modulus_of h) ws
  pub errors_count : length (errors_at h nodes sums) ≡ length nodes
  pub errors_symbols : SymbolList (modulus_of h) (errors_at h nodes sums)
  pub word_long : length (removed (modulus_of h) nodes (errors_at h nodes sums) ws) ≡ h.n
  pub word_below : all_below (size h) (removed (modulus_of h) nodes (errors_at h nodes sums) ws) ≡ true

module _ (h : Header) (ws : List ℕ) (lane : SoundLane h ws) (sums : List ℕ) (sums_are : sums ≡ padded 255 (check_sums h ws)) where
  abbrev p : ℕ
  p = modulus_of h

  array_below : all_below (size h) sums ≡ true
  array_below = rw sums_are (below_padded (size h) 255 (check_sums h ws) (size_pos p lane.sound.field) (sums_below h lane.sound ws lane.below))

  -- the check sums are symbols, in an array
  pub sums_symbols : Below (size h) sums
  sums_symbols = below_everywhere (size h) sums (size_pos p lane.sound.field) array_below

  pub long_sums : h.n ≤ 255 → length sums ≡ 255
  long_sums few = rw sums_are (length_padded 255 (check_sums h ws) (omega (arith, length_sums h ws, few)))

  module _ (few : h.n ≤ 255) (nodes : List ℕ) (low : all_below h.n nodes ≡ true) (different : Distinct nodes) (room : length nodes + h.k ≤ h.n) where
    abbrev points : List ℕ
    points = points_of p h.root 0 nodes

    abbrev errors : List ℕ
    errors = errors_at h nodes sums

    few_nodes : length nodes ≤ 255
    few_nodes = omega (arith, room, few)

    -- the points are symbols, and so are the parts of their basis and the errors
    points_are : SymbolList (modulus_of h) points
    points_are = points_symbols p h.root 0 nodes lane.sound.field lane.sound.root_below few_nodes

    basis : Parts p (length nodes) points (basis_of p points)
    basis = parts p lane.sound.field (length nodes) points _ (record { are = points_are; size = length_points p h.root 0 nodes }) refl

    long_errors : length errors ≡ length nodes
    long_errors = length_es h lane.sound ws lane.long lane.below sums few sums_are (long_sums few) sums_symbols nodes low different room

    errors_below : all_below (size h) errors ≡ true
    unfolding errors_of
    errors_below =
        errors_from_below p lane.sound.field (drop 1 (product_of p points)) (take (length nodes) sums) basis.some_product.are.below (below_take (size h) (length nodes) sums array_below)
        points (scales_of p points) (basis.some_scales.size ∙ sym (length_points p h.root 0 nodes)) points_are.below basis.some_scales.are.below

    pub node_parts : NodeParts h ws sums nodes
    node_parts =
        record {
          nodes_low = rw lane.long low;
          lane_symbols = record { below = lane.below; short = omega (arith, lane.long, few) };
          errors_count = long_errors;
          errors_symbols = record { below = errors_below; short = omega (arith, long_errors, few_nodes) };
          word_long = length_removed p nodes errors ws ∙ lane.long;
          word_below = removed_below p lane.sound.field nodes errors ws errors_below lane.below;
        }
