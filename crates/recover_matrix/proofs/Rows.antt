-- Sums of the rows' terms with the quotients give the rows of the inverse.
use mathlib.Core.Path.{◌≡◌, refl, sym, ap, ◌∙◌}
use mathlib.Core.Bool.{true}
use mathlib.Core.Logic.{by_cases}
use mathlib.Core.List.{List}
use Prim.Native.Nat.{ℕ, ◌+◌, ◌*◌, ◌≤◌, ◌<◌}
use native.Mathlib.Decide.{dec_lt}
use native.Mathlib.Nat.{zero-add, le_refl}
use native.Mathlib.Omega.{arith}
use lib.ListN.{length, get_or, take, drop}
use lib.Seq.{ext_get_or, get_or-take, length-take-le}
use Rattle.lists.specs.Numbers.{all_below}
use Rattle.lists.specs.Padded.{padded}
use Rattle.lists.specs.Rows.{from, rows_from}
use Rattle.lists.proofs.Lanes.{get_d_rows}
use Rattle.lists.proofs.Numbers.{below_at, below_take}
use Rattle.lists.proofs.Padding.{length_padded, get_or_padded, take_padded, below_padded, padded_past}
use Rattle.lists.proofs.Rows.{from_ext}
use Rattle.layout.specs.Layout.{row_after_row, lane_after_lane, lane_of}
use Rattle.layout.proofs.Lawful.{by_row}
use Rattle.layout.proofs.Buffers.{length_lane, get_or_lane, length_buffer, held_buffer, buffer_below}
use Rattle.layout.proofs.Places.{held_by_row, held_by_lane}
use Rattle.field.specs.Fields.{mul}
use Rattle.field.specs.Inner.Sums.{dot}
use Rattle.field.proofs.FieldOf.{size_pos}
use Rattle.field.proofs.Sums.{dot_below}
use Rattle.generator.specs.declared.Header.{Header}
use Rattle.generator.specs.Records.{modulus_of, size, Sound}
use Rattle.generator.specs.Claims.{are_nodes}
use Rattle.interpolation.specs.Inner.Lagrange.{scales_of}
use Rattle.interpolation.specs.Inner.Polynomials.{product_of, quotient_of}
use Rattle.interpolation.proofs.Coefficients.{length_quotient_of, quotient_of_below, length_termwise}
use Rattle.node_weights.specs.Inner.Rows.{basis_of, row_points, row_terms, weight_of, weights_of}
use Rattle.node_weights.specs.Inner.Weights.{Recovers}
use Rattle.node_weights.proofs.InverseRows.{length_weights_of}
use Rattle.node_weights.proofs.Parts.{Symbols, parts, node_symbols, row_symbols, base_symbols, term_symbols}
use Rattle.node_weights.proofs.Recovering.{recovers}
use Rattle.tile_products.specs.Inner.Matrices.{Begun}
use Rattle.recover_matrix.specs.Inner.Inverse.{node_points, node_quotient, inverse_row, inverse_sums, padded_row}

-- a lane of rows that stand one after the other
row_lane : (k : ℕ) (g : ℕ → List ℕ) → ((r : ℕ) → length (g r) ≡ k) → (r : ℕ) → r < k → lane_of lane_after_lane k k r (rows_from g 0 k) ≡ g r
row_lane k g size r row =
    ext_get_or 0 _ (g r) (length_lane lane_after_lane k k r (rows_from g 0 k) ∙ sym (size r))
    (λ i inside.
    let low : i < k = omega (arith, length_lane lane_after_lane k k r (rows_from g 0 k)) in
    get_or_lane lane_after_lane k k r (rows_from g 0 k) i low ∙ held_by_lane k k (rows_from g 0 k) i r ∙ get_d_rows g k size 0 k r i row low ∙ ap (λ (x : ℕ). get_or (g x) i 0) (zero-add r))

module _ (h : Header) (s : Sound h) (few : h.k ≤ 255) where
  -- every row has k terms
  pub length_terms : (r : ℕ) → length (row_terms h r) ≡ h.k
  unfolding row_terms
  length_terms r =
      let p = modulus_of h in
      let x = get_or (row_points h) r 0 in
      let cs = drop 1 (product_of p (row_points h)) in
      let n : length (quotient_of p x cs) ≡ h.k = length_quotient_of p x cs ∙ (parts p s.field h.k (row_points h) (basis_of p (row_points h)) (row_symbols h s few) refl).some_product.size in
      length_termwise p (quotient_of p x cs) _ ((base_symbols h s few).size ∙ sym n) ∙ n

  module _ (js : List ℕ) (nodes : are_nodes h js ≡ true) where
    abbrev points : List ℕ
    points = node_points h js

    -- the coefficients of the product over them, but for the constant
    abbrev cs : List ℕ
    cs = drop 1 (product_of (modulus_of h) points)

    abbrev scales : List ℕ
    scales = scales_of (modulus_of h) points

    product : Symbols (modulus_of h) h.k cs
    product = (parts (modulus_of h) s.field h.k points (basis_of (modulus_of h) points) (node_symbols h s few js nodes) refl).some_product

    -- the rows of the inverse are weights that recover the message
    pub row_recovers : (r : ℕ) → r < h.k → Recovers h js r (padded 255 (inverse_row h js r))
    unfolding inverse_row
    row_recovers r row = recovers h s js nodes r row few

    pub length_row : (r : ℕ) → length (inverse_row h js r) ≡ h.k
    unfolding inverse_row
    length_row r = length_weights_of (modulus_of h) _ _ _ points _ ∙ (node_symbols h s few js nodes).size

    -- row r is of symbols
    pub row_below : (r : ℕ) → r < h.k → all_below (size h) (inverse_row h js r) ≡ true
    row_below r row =
        rw (sym (take_padded 255 h.k (inverse_row h js r) (length_row r)))
        (below_take (size h) h.k _ (row_recovers r row).symbols)

    -- a quotient has k coefficients
    pub length_quotient : (i : ℕ) → length (node_quotient h js i) ≡ h.k
    length_quotient i = length_quotient_of (modulus_of h) (get_or points i 0) cs ∙ product.size

    -- and they are symbols
    pub quotient_below : (i : ℕ) → i < h.k → all_below (size h) (node_quotient h js i) ≡ true
    quotient_below i low =
        let own = node_symbols h s few js nodes in
        quotient_of_below (modulus_of h) s.field (get_or points i 0) cs (below_at (size h) points own.are.below i (omega (arith, own.size))) product.are.below

    -- column r of the sums, with scales, is row r of the inverse
    pub column_row : (r : ℕ) → r < h.k → from (λ i. mul (modulus_of h) (mul (modulus_of h) (get_or (scales_of (modulus_of h) (row_points h)) r 0) (get_or scales i 0)) (get_or (inverse_sums h js) (i * h.k + r) 0)) 0 h.k ≡ inverse_row h js r
    unfolding inverse_row inverse_sums weights_of weight_of
    column_row r row =
        let p = modulus_of h in
        let scale = get_or (scales_of p (row_points h)) r 0 in
        rw (node_symbols h s few js nodes).size
        (from_ext _ _ 0 h.k
        (λ i low high.
        ap (λ (x : ℕ). mul p (mul p scale (get_or scales i 0)) x)
        (sym (held_by_row h.k h.k (inverse_sums h js) i r)
        ∙ held_buffer by_row h.k h.k _ i r (omega arith) row
        ∙ ap (λ (w : List ℕ). dot p w (node_quotient h js i)) (row_lane h.k (row_terms h) length_terms r row))))

    -- the sums are symbols
    pub sums_below : all_below (size h) (inverse_sums h js) ≡ true
    unfolding inverse_sums
    sums_below =
        let p = modulus_of h in
        buffer_below by_row h.k h.k (size h) _
        (λ i r row lane.
        rw (row_lane h.k (row_terms h) length_terms r lane)
        (dot_below p s.field (row_terms h r) (node_quotient h js i) (term_symbols h s few r lane).are.below (quotient_below i row)))

    pub length_sums : length (inverse_sums h js) ≡ h.k * h.k
    unfolding inverse_sums
    length_sums = length_buffer row_after_row h.k h.k _

-- a part of an array that holds a list and zeros after it
pub take_longer : (n m : ℕ) (xs : List ℕ) → length xs ≤ m → m ≤ n → take m (padded n xs) ≡ padded m xs
take_longer n m xs short fits =
    let whole : length (padded n xs) ≡ n = length_padded n xs (omega arith) in
    let long : length (take m (padded n xs)) ≡ m = length-take-le m (padded n xs) (omega arith) in
    ext_get_or 0 (take m (padded n xs)) (padded m xs) (long ∙ sym (length_padded m xs short))
    (λ i inside.
    let low : i < m = omega arith in
    get_or-take m (padded n xs) i 0 low
    ∙ by_cases (dec_lt i (length xs)) (λ l. get_or_padded n xs i l ∙ sym (get_or_padded m xs i l)) (λ l. padded_past n xs i (omega arith) ∙ sym (padded_past m xs i (omega arith))))

-- a list that is as long as that has none after it
padded_full : (n : ℕ) (xs : List ℕ) → length xs ≡ n → padded n xs ≡ xs
padded_full n xs long = sym (take_longer n n xs (omega arith) (le_refl n)) ∙ take_padded n n xs long

module _ {h : Header} (s : Sound h) (js : List ℕ) (nodes : are_nodes h js ≡ true) where
  abbrev few_rows : h.k ≤ 255
  few_rows = omega (arith, s.fits, s.byte)

  -- rows with zeros after them
  module _ (rows : ℕ) (more : h.k ≤ rows) where
    short_row : (r : ℕ) → length (inverse_row h js r) ≤ rows
    short_row r = omega (arith, length_row h s few_rows js nodes r)

    pub length_padded_row : (r : ℕ) → length (padded_row h js rows r) ≡ rows
    unfolding padded_row
    length_padded_row r = length_padded rows (inverse_row h js r) (short_row r)

    pub padded_row_below : (r : ℕ) → r < h.k → all_below (size h) (padded_row h js rows r) ≡ true
    unfolding padded_row
    padded_row_below r row = below_padded (size h) rows (inverse_row h js r) (size_pos (modulus_of h) s.field) (row_below h s few_rows js nodes r row)

    pub row_taken : rows ≤ 255 → (r : ℕ) → take rows (padded 255 (inverse_row h js r)) ≡ padded_row h js rows r
    unfolding padded_row
    row_taken fits r = take_longer 255 rows (inverse_row h js r) (short_row r) fits

  -- k numbers have none after them
  pub rows_begun : {lists counts : List ℕ} → Begun (modulus_of h) h.k (padded_row h js h.k) h.k lists counts → Begun (modulus_of h) h.k (inverse_row h js) h.k lists counts
  unfolding padded_row
  rows_begun b =
      record {
        size = length_row h s few_rows js nodes;
        each = λ i low. rw (sym (padded_full h.k (inverse_row h js i) (length_row h s few_rows js nodes i))) (b.each i low);
      }
