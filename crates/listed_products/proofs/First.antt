-- The message of the first k symbols of a lane: the sums that give it, and the checks of the other symbols.
use mathlib.Core.Path.{◌≡◌, refl, sym, ap, ◌∙◌}
use mathlib.Core.Bool.{true}
use mathlib.Core.List.{List}
use mathlib.Core.Logic.{by_cases}
use Prim.Native.Nat.{ℕ, ◌+◌, ◌-◌, ◌≤◌, ◌<◌}
use native.Mathlib.Decide.{dec_lt}
use native.Mathlib.Nat.{add-zero}
use native.Mathlib.Omega.{arith}
use borrow.Author.Tests.{eq-eqb}
use lib.ListN.{length, get_or, take, length-map}
use lib.Seq.{ext_get_or, get_or-take, length-take-le}
use Rattle.std.proofs.lemmas.Bool.{and_from}
use Rattle.lists.specs.Numbers.{all_below, distinct}
use Rattle.lists.specs.Padded.{padded}
use Rattle.std.proofs.lemmas.List.{get_or-map}
use Rattle.lists.proofs.All.{Distinct-of, Distinct-at, map_take}
use Rattle.lists.proofs.Chosen.{count_most}
use Rattle.lists.proofs.Count.{count_not}
use Rattle.lists.proofs.Numbers.{below_take, distinct_all, all_distinct}
use Rattle.field.specs.Fields.{power}
use Rattle.field.specs.Inner.Sums.{dot}
use Rattle.generator.specs.declared.Header.{Header}
use Rattle.generator.specs.Records.{modulus_of, size, Sound}
use Rattle.generator.specs.Codewords.{node_of}
use Rattle.generator.specs.Claims.{is_message, are_nodes, at_nodes}
use Rattle.generator.proofs.Recovery.{some_message}
use Rattle.interpolation.specs.Inner.Points.{SymbolList, points_of}
use Rattle.interpolation.proofs.PaddedSums.{dot_padded}
use Rattle.interpolation.proofs.Points.{length_points, points_symbols}
use Rattle.node_weights.specs.Inner.Weights.{Rebuilds}
use Rattle.node_weights.proofs.Rebuilding.{rebuilds}
use Rattle.block_products.specs.Inner.Marks.{all_zero}
use Rattle.blocks.proofs.Recovered.{lane_recovered}
use Rattle.recover_matrix.specs.Inner.Inverse.{inverse_row, padded_row}
use Rattle.recover_matrix.proofs.Rows.{length_row, row_recovers}
use Rattle.wrong_lanes.specs.Inner.Checks.{other_values, check_row}
use Rattle.wrong_lanes.proofs.CheckRows.{dot_first, zero_each, check_zero}
use Rattle.listed_products.specs.Inner.Shares.{ListedNodes, first_message, Agrees, message_row, listed_points}

-- the first of distinct numbers are distinct
distinct_take : (i : ℕ) (js : List ℕ) → i ≤ length js → distinct js ≡ true → distinct (take i js) ≡ true
distinct_take i js fits d =
    let long = length-take-le i js fits in
    all_distinct (take i js)
    (Distinct-of 0 (take i js)
    (λ a b la lb e. Distinct-at 0 js (distinct_all js d) a b (omega arith) (omega arith) (sym (get_or-take i js a 0 (omega arith)) ∙ e ∙ get_or-take i js b 0 (omega arith))))

module _ {h : Header} (s : Sound h) {nodes : List ℕ} (m : ListedNodes h nodes) where
  abbrev p : ℕ
  p = modulus_of h

  abbrev js : List ℕ
  js = take h.k nodes

  pub few : h.k ≤ 255
  few = omega (arith, s.fits, s.byte)

  -- there are at most n nodes
  pub nodes_few : length nodes ≤ h.n
  nodes_few = omega (arith, count_most h.n (λ j. true) nodes m.low m.different (λ i t. refl), count_not h.n 0 (λ j. true))

  pub nodes_byte : length nodes ≤ 255
  nodes_byte = omega (arith, nodes_few, s.byte)

  first_long : length js ≡ h.k
  first_long = length-take-le h.k nodes m.enough

  -- the first k are k different nodes
  pub first_are : are_nodes h js ≡ true
  unfolding are_nodes
  first_are = and_from _ _ (eq-eqb (length js) h.k first_long) (and_from _ _ (below_take h.n h.k nodes m.low) (distinct_take h.k nodes m.enough m.different))

  -- the points of the nodes, and of the first k
  abbrev xs : List ℕ
  xs = listed_points h nodes

  pub points_are : SymbolList p xs
  points_are = points_symbols p h.root 0 nodes s.field s.root_below nodes_byte

  first_points : take h.k xs ≡ points_of p h.root 0 js
  unfolding points_of
  first_points = sym (map_take (λ j. power p h.root (j + 0)) h.k nodes)

  point_at : (i : ℕ) → i < length nodes → get_or xs i 0 ≡ power p h.root (get_or nodes i 0)
  unfolding points_of
  point_at i low = get_or-map (λ j. power p h.root (j + 0)) nodes i 0 0 low ∙ ap (power p h.root) (add-zero (get_or nodes i 0))

  -- the weights of a check give what its node holds
  gives : (i : ℕ) → h.k + i < length nodes → Rebuilds h js (get_or nodes (h.k + i) 0) (padded 255 (other_values p h.k xs i))
  gives i low = rw (first_points, point_at (h.k + i) low) (rebuilds h s js first_are (get_or nodes (h.k + i) 0) few)

  module _ (ys : List ℕ) (long : length ys ≡ length nodes) (below : all_below (size h) ys ≡ true) where
    abbrev front : List ℕ
    front = take h.k ys

    front_long : length front ≡ h.k
    front_long = length-take-le h.k ys (omega (arith, m.enough))

    -- the message, and what the first k nodes hold for it
    pub first_is : (is_message h (first_message h nodes ys) ≡ true) × (at_nodes h (first_message h nodes ys) js ≡ front)
    unfolding first_message
    first_is =
        let (ms, is, at) = some_message h s js front first_are front_long (below_take (size h) h.k ys below) in
        rw (lane_recovered h s js first_are front ms is at) (is, at)

    -- the sums with the rows of the inverse, 0 past the first k
    pub row_sum : (r : ℕ) → r < h.k → dot p ys (message_row h nodes r) ≡ get_or (first_message h nodes ys) r 0
    unfolding padded_row padded
    row_sum r row =
        let inv = inverse_row h js r in
        let size_is : length inv ≡ h.k = length_row h s few js first_are r in
        let same : length front ≡ length inv = front_long ∙ sym size_is in
        dot_first p s.field h.k ys inv size_is below (length nodes - length inv)
        ∙ dot_padded p (length nodes) front inv same
        ∙ sym (dot_padded p 255 front inv same)
        ∙ ap (λ (w : List ℕ). dot p w (padded 255 inv)) (sym first_is.1)
        ∙ sym ((row_recovers h s few js first_are r row).gives (first_message h nodes ys) first_is.0)

    -- where all checks are 0, every symbol is that of the message
    pub agrees_all : all_zero (length nodes - h.k) (λ i. dot p ys (check_row p h.k xs i)) ≡ true → Agrees h nodes ys
    agrees_all zero =
        let ms = first_message h nodes ys in
        let many = length_points p h.root 0 nodes in
        ext_get_or 0 ys (at_nodes h ms nodes) (long ∙ sym (length-map nodes (node_of h ms)))
        (λ i inside.
        let low : i < length nodes = omega arith in
        by_cases (dec_lt i h.k)
        (λ first.
        sym (get_or-take h.k ys i 0 first)
        ∙ ap (λ (l : List ℕ). get_or l i 0) (sym first_is.1 ∙ map_take (node_of h ms) h.k nodes)
        ∙ get_or-take h.k (at_nodes h ms nodes) i 0 first)
        (λ past.
        let back : h.k + (i - h.k) ≡ i = omega arith in
        let other : h.k + (i - h.k) < length nodes = omega arith in
        let held : get_or ys (h.k + (i - h.k)) 0 ≡ node_of h ms (get_or nodes (h.k + (i - h.k)) 0) =
        (check_zero p s.field h.k xs points_are (i - h.k) ys (long ∙ sym many) below (omega (arith, many))).0 (zero_each (length nodes - h.k) _ zero (i - h.k) (omega arith))
        ∙ ap (λ (w : List ℕ). dot p w (padded 255 (other_values p h.k xs (i - h.k)))) (sym first_is.1)
        ∙ sym ((gives (i - h.k) other).gives ms first_is.0) in
        rw back at held ∙ sym (get_or-map (node_of h ms) nodes i 0 0 low)))
