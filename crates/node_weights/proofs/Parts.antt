-- The parts of a basis that code lends: the points, their scales, and the product polynomial without its constant, k of each.
use mathlib.Core.Path.{◌≡◌, refl, sym, ◌∙◌}
use mathlib.Core.Bool.{true}
use mathlib.Core.List.{List}
use Prim.Native.Nat.{ℕ, ◌+◌, ◌-◌, ◌≤◌, ◌<◌}
use native.Mathlib.Omega.{arith}
use lib.ListN.{length, get_or, take, drop, length-drop}
use Rattle.lists.specs.Numbers.{all_below}
use Rattle.lists.proofs.Numbers.{at_below, below_at, below_drop}
use Rattle.lists.proofs.Padding.{length_padded, get_or_padded, take_padded, part_padded}
use Rattle.field.specs.Fields.{is_field, size_of}
use Rattle.generator.specs.declared.Header.{Header}
use Rattle.generator.specs.Records.{modulus_of, size, Sound}
use Rattle.generator.specs.Shifts.{shifts}
use Rattle.generator.specs.Claims.{are_nodes}
use Rattle.generator.proofs.Shifts.{shifts_length}
use Rattle.generator.proofs.Recovery.{nodes_places}
use Rattle.node_weights.specs.declared.Basis.{Basis}
use Rattle.interpolation.specs.Inner.Points.{SymbolList, points_of}
use Rattle.interpolation.specs.Inner.Lagrange.{scales_of}
use Rattle.interpolation.specs.Inner.Polynomials.{product_of, base_of, quotient_of, termwise, inverses_of}
use Rattle.node_weights.specs.Inner.Rows.{basis_of, row_points, base_inverses, row_terms}
use Rattle.interpolation.proofs.Points.{length_points, points_symbols}
use Rattle.interpolation.proofs.Values.{length_scales, get_or_scales, scale_at_below}
use Rattle.interpolation.proofs.Coefficients.{length_product_of, product_of_below, length_base_of, base_of_below, length_quotient_of, quotient_of_below, length_termwise, termwise_below, length_inverses_of, inverses_of_below}

-- k symbols
pub record Symbols (p k : ℕ) (xs : List ℕ) : Type 0 where
  pub are : SymbolList p xs
  pub size : length xs ≡ k

pub record Parts (p k : ℕ) (xs : List ℕ) (b : Basis) : Type 0 where
  pub points : take k b.points ≡ xs
  pub scales : take k b.scales ≡ scales_of p xs
  pub product : take (k + 1 - 1) (drop 1 b.product) ≡ drop 1 (product_of p xs)
  pub point : (i : ℕ) → i < k → get_or b.points i 0 ≡ get_or xs i 0
  pub scale : (i : ℕ) → i < k → get_or b.scales i 0 ≡ get_or (scales_of p xs) i 0
  pub long_points : length b.points ≡ 255
  pub long_scales : length b.scales ≡ 255
  pub long_product : length b.product ≡ 256
  pub some_scales : Symbols p k (scales_of p xs)
  pub some_product : Symbols p k (drop 1 (product_of p xs))

-- the scales are symbols
scales_below : (p : ℕ) → is_field p ≡ true → (xs : List ℕ) → all_below (size_of p) xs ≡ true → all_below (size_of p) (scales_of p xs) ≡ true
scales_below p v xs h =
    let n = length_scales p xs in
    at_below (size_of p) (scales_of p xs) (λ i l. rw (get_or_scales p xs i (omega arith)) (scale_at_below p v xs i h (omega arith)))

pub parts : (p : ℕ) → is_field p ≡ true → (k : ℕ) (xs : List ℕ) (b : Basis) → Symbols p k xs → b ≡ basis_of p xs → Parts p k xs b
unfolding basis_of
parts p v k xs b s e =
    let ls : length (scales_of p xs) ≡ k = length_scales p xs ∙ s.size in
    let lp : length (product_of p xs) ≡ k + 1 = omega (arith, length_product_of p xs, s.size) in
    let ld : length (drop 1 (product_of p xs)) ≡ k = omega (arith, length-drop 1 (product_of p xs)) in
    let few : k ≤ 255 = omega (arith, s.are.short, s.size) in
    rw e
    record {
      points = take_padded 255 k xs s.size;
      scales = take_padded 255 k (scales_of p xs) ls;
      product = part_padded 256 (k + 1) 1 (product_of p xs) lp (omega arith);
      point = λ i l. get_or_padded 255 xs i (omega (arith, s.size));
      scale = λ i l. get_or_padded 255 (scales_of p xs) i (omega arith);
      long_points = length_padded 255 xs s.are.short;
      long_scales = length_padded 255 (scales_of p xs) (omega arith);
      long_product = length_padded 256 (product_of p xs) (omega arith);
      some_scales = record { are = record { below = scales_below p v xs s.are.below; short = omega arith }; size = ls };
      some_product = record { are = record { below = below_drop (size_of p) 1 (product_of p xs) (product_of_below p v xs s.are.below); short = omega arith }; size = ld };
    }

-- the lists of a sound header
module _ (h : Header) (s : Sound h) (few : h.k ≤ 255) where
  -- the nodes' points
  pub node_symbols : (js : List ℕ) → are_nodes h js ≡ true → Symbols (modulus_of h) h.k (points_of (modulus_of h) h.root 0 js)
  node_symbols js nodes =
      let n = (nodes_places h js nodes).size in
      record { are = points_symbols (modulus_of h) h.root 0 js s.field s.root_below (omega arith); size = length_points (modulus_of h) h.root 0 js ∙ n }

  -- the rows' points
  pub row_symbols : Symbols (modulus_of h) h.k (row_points h)
  unfolding row_points
  row_symbols =
      let n = shifts_length h.n h.k s.some s.fits in
      record { are = points_symbols (modulus_of h) h.root (h.k - 1) (shifts h) s.field s.root_below (omega arith); size = length_points (modulus_of h) h.root (h.k - 1) (shifts h) ∙ n }

  -- 1 over the coefficients of the base polynomial
  pub base_symbols : Symbols (modulus_of h) h.k (base_inverses h)
  unfolding base_inverses
  base_symbols =
      let cs = base_of (modulus_of h) h.root (h.k - 1) in
      let n : length (inverses_of (modulus_of h) cs) ≡ h.k = omega (arith, length_inverses_of (modulus_of h) cs, length_base_of (modulus_of h) h.root (h.k - 1), s.some) in
      record { are = record { below = inverses_of_below (modulus_of h) s.field cs (base_of_below (modulus_of h) s.field h.root (h.k - 1) s.root_below); short = omega arith }; size = n }

  -- the terms of row r
  pub term_symbols : (r : ℕ) → r < h.k → Symbols (modulus_of h) h.k (row_terms h r)
  unfolding row_terms
  term_symbols r l =
      let p = modulus_of h in
      let bs = row_points h in
      let rows = row_symbols in
      let base = base_symbols in
      let q = quotient_of p (get_or bs r 0) (drop 1 (product_of p bs)) in
      let product = (parts p s.field h.k bs (basis_of p bs) rows refl).some_product in
      let n : length q ≡ h.k = length_quotient_of p (get_or bs r 0) (drop 1 (product_of p bs)) ∙ product.size in
      let m : length (termwise p q (base_inverses h)) ≡ h.k = length_termwise p q (base_inverses h) (base.size ∙ sym n) ∙ n in
      let low = below_at (size h) bs rows.are.below r (omega (arith, rows.size)) in
      record { are = record { below = termwise_below p s.field q (base_inverses h) (quotient_of_below p s.field (get_or bs r 0) (drop 1 (product_of p bs)) low product.are.below) base.are.below; short = omega arith }; size = m }
