-- The locator of the cleared check sums, on numbers: a node that is not lost and at which it does not vanish is right.
use mathlib.Core.Path.{◌≡◌, sym, ap, fun_ext, ◌∙◌}
use mathlib.Core.Bool.{Bool, true, false, ◌||◌, true≢false}
use mathlib.Core.List.{List, map}
use Prim.Native.Nat.{ℕ, ◌+◌, ◌-◌, ◌≤◌, ◌<◌}
use native.Mathlib.Nat as Nat
use native.Mathlib.Decide.{dec_lt}
use native.Mathlib.Omega.{arith}
use borrow.Author.Tests.{eq-eqb}
use lib.Dec.{eqb}
use lib.ListN.{length, get_or, take, drop, length-drop}
use Rattle.lists.specs.Counting.{passing_from}
use Rattle.lists.specs.Rows.{from}
use Rattle.lists.specs.Numbers.{all_below, is_in}
use Rattle.lists.specs.Padded.{padded}
use Rattle.std.proofs.lemmas.Bool.{or_parts}
use Rattle.lists.proofs.All.{All-imp, Distinct}
use Rattle.lists.proofs.Count.{count_ext}
use Rattle.lists.proofs.Passing.{length_passing, passing_within, passing_rises, rises_distinct}
use Rattle.lists.proofs.Numbers.{all_below_lem, below_drop}
use Rattle.algebra.specs.Field.{Field}
use Rattle.algebra.specs.Powers.{pow}
use Rattle.field.specs.Fields.{power}
use Rattle.field.specs.Symbols.{Symbol, numbers}
use Rattle.field.specs.Inner.Sums.{dot}
use Rattle.field.proofs.Symbols.{symbol_path, length_numbers, numbers_below, symbols, symbols_numbers}
use Rattle.field.proofs.FieldOf.{size_pos}
use Rattle.field.proofs.Sums.{dot_below}
use Rattle.generator.specs.declared.Header.{Header}
use Rattle.generator.specs.Records.{modulus_of, size, Sound}
use Rattle.generator.specs.Codewords.{poly_at}
use Rattle.generator.proofs.Sound.{field_for, root_for}
use Rattle.interpolation.specs.Inner.Polynomials.{product_of}
use Rattle.interpolation.proofs.Bridge.{points_of_is, product_of_is}
use Rattle.check_sums.specs.Inner.Sums.{check_sums}
use Rattle.nearest_word.proofs.Recurrence.{discrepancy}
use Rattle.nearest_word.proofs.Massey.{Locator}
use Rattle.nearest_word.proofs.Errors.{value, syndrome, discrepancy_agree}
use Rattle.nearest_word.proofs.Near.{term}
use Rattle.near_message.specs.Inner.Lost.{lost_radius}
use Rattle.near_message.proofs.CountIn.{is_in_passing}
use Rattle.near_message.proofs.Located.{G, length_G, few_suspects, kept_symbol, poly}
use Rattle.near_message.proofs.NearBut.{NearBut, lost_fits}
use Rattle.decode.specs.Inner.Locating.{Below, Locates}
use Rattle.decode.specs.Inner.Errors.{roots_of, errors_at, removed}
use Rattle.decode.proofs.Arrays.{filled_at, filled_past, symbols_all}
use Rattle.decode.proofs.Bridge.{term_number}
use Rattle.decode.proofs.Discrepancies.{dot_discrepancy}
use Rattle.decode.proofs.Locators.{coefficients, front_below, located}
use Rattle.decode.proofs.Repaired.{same_syndromes, poly_power, repaired_word}
use Rattle.decode_listed.specs.Inner.Suspects.{sums_from, lost_product, cleared_sums, suspects_of, AreLost}

module _ (h : Header) (s : Sound h) (lost : List ℕ) (are : AreLost h lost) where
  abbrev F : Field
  F = field_for h s

  abbrev a : Symbol (size h)
  a = root_for h s

  abbrev p : ℕ
  p = modulus_of h

  abbrev Γ : List (Symbol (size h))
  Γ = G h s lost are.room are.low

  abbrev v : List ℕ
  v = lost_product h lost

  abbrev spare : ℕ
  spare = h.n - h.k - length lost

  -- the product over the points of the lost nodes
  product_number : v ≡ numbers (size h) Γ
  unfolding lost_product
  product_number =
      ap (product_of p) (points_of_is p s.field a 0 lost ∙ ap (λ (g : ℕ → Symbol (size h)). numbers (size h) (map g lost)) (fun_ext (λ j. ap (pow F a) (Nat.add-zero j))))
      ∙ product_of_is p s.field (map (pow F a) lost)

  pub product_below : all_below (size h) v ≡ true
  product_below = rw product_number (numbers_below (size h) Γ)

  pub product_long : length v ≡ length lost + 1
  product_long = ap length product_number ∙ length_numbers (size h) Γ ∙ omega (arith, length_G h s lost are.room are.low)

  module _ (sums : List ℕ) (sums_below : Below (size h) sums) where
    abbrev cleared : List ℕ
    cleared = cleared_sums h lost sums

    abbrev sum_at : ℕ → ℕ
    sum_at e = dot p v (drop e sums)

    -- the cleared check sums are symbols
    pub cleared_below : Below (size h) cleared
    unfolding cleared_sums sums_from
    cleared_below x = go (dec_lt x spare)
      where
        go : Dec (x < spare) → get_or (padded 255 (from sum_at 0 spare)) x 0 < size h
        go (yes b) = rw (filled_at 255 spare sum_at x b) (dot_below p s.field v (drop x sums) product_below (below_drop (size h) x sums (symbols_all (size h) sums sums_below)))
        go (no b) = rw (filled_past 255 spare sum_at x (omega arith)) (size_pos p s.field)

    module _ (ws : List ℕ) (long : length ws ≡ h.n) (below : all_below (size h) ws ≡ true) (few_nodes : h.n ≤ 255) (sums_are : sums ≡ padded 255 (check_sums h ws)) (sums_long : length sums ≡ 255) (locator : List ℕ) (loc : Locates p (lost_radius h lost) cleared locator) where
      abbrev t : ℕ
      t = lost_radius h lost

      abbrev y : ℕ → Symbol (size h)
      y = term h s ws

      fits : h.k + (length lost + (t + t)) ≤ h.n
      fits = lost_fits h s lost are.room

      -- sum e of the cleared ones
      same_cleared : (e : ℕ) → e < spare → term h s cleared e ≡ discrepancy F Γ (syndrome F a h.n y) e
      unfolding cleared_sums sums_from
      same_cleared e b =
          symbol_path (size h)
          (term_number p s.field cleared cleared_below e
          ∙ filled_at 255 spare sum_at e b
          ∙ dot_discrepancy p s.field sums sums_below v e product_below (omega (arith, product_long, length-drop e sums, sums_long, few_nodes, s.some))
          ∙ ap (λ (W : List (Symbol (size h))). (discrepancy F W (term h s sums) e).0) (ap (symbols (size h) (size_pos p s.field)) product_number ∙ symbols_numbers (size h) (size_pos p s.field) Γ)
          ∙ ap (λ (z : Symbol (size h)). z.0)
          (discrepancy_agree F Γ (term h s sums) (syndrome F a h.n y) e (h.n - h.k) (omega (arith, length_G h s lost are.room are.low)) (same_syndromes h s ws long below sums few_nodes sums_are sums_long sums_below)))

      few : t < 255
      few = omega (arith, fits)

      abbrev front : List ℕ
      front = take (t + 1) locator

      low_front : all_below (size h) front ≡ true
      low_front = front_below h s t few cleared locator cleared_below loc

      abbrev L : List (Symbol (size h))
      L = coefficients h s t few cleared locator cleared_below loc

      is_locator : Locator F (discrepancy F Γ (syndrome F a h.n y)) t L
      is_locator = located h s t few cleared locator cleared_below loc (discrepancy F Γ (syndrome F a h.n y)) (λ e b. same_cleared e (omega (arith, fits)))

      -- the nodes that may be wrong
      abbrev pub js : List ℕ
      js = suspects_of h lost front

      abbrev roots : List ℕ
      roots = roots_of p h.root h.n front

      abbrev test : ℕ → Bool
      test j = is_in j lost || is_in j roots

      -- a node is a root exactly if the locator vanishes there
      root_is : (j : ℕ) → j < h.n → is_in j roots ≡ eqb (value F a L j).0 0
      unfolding roots_of
      root_is j b = is_in_passing h.n (λ j. eqb (poly_at p front (power p h.root j)) 0) j b ∙ ap (λ (x : ℕ). eqb x 0) (poly_power h s front low_front j)

      pub js_low : all_below h.n js ≡ true
      unfolding suspects_of
      js_low =
          all_below_lem h.n (passing_from h.n 0 test)
          (All-imp (λ j. (0 ≤ j) × (j < 0 + h.n)) (λ j. j < h.n) (λ j b. omega arith) (passing_from h.n 0 test) (passing_within h.n 0 test))

      pub js_distinct : Distinct js
      unfolding suspects_of
      js_distinct = rises_distinct (passing_from h.n 0 test) (passing_rises h.n 0 test)

      pub js_room : length js + h.k ≤ h.n
      unfolding suspects_of
      js_room =
          omega (
            arith,
            length_passing h.n 0 test,
            count_ext h.n 0 test (λ j. is_in j lost || eqb (value F a L j).0 0) (λ j l b. ap (λ (t : Bool). is_in j lost || t) (root_is j (omega arith))),
            few_suspects h s lost are.room are.low ws long below L is_locator,
          )

      -- every other node is right
      js_right : (us : List ℕ) → NearBut h s lost are.room ws us → (j : ℕ) → j < h.n → is_in j js ≡ false → get_or ws j 0 ≡ get_or us j 0
      unfolding suspects_of
      js_right us near j b out =
          let free = or_parts (is_in j lost) (is_in j roots) (sym (is_in_passing h.n test j b) ∙ out) in
          kept_symbol h s lost are.room are.low ws long below L is_locator us near j b free.0
          (λ z. true≢false (sym (eq-eqb _ 0 (ap (λ (x : Symbol (size h)). x.0) z)) ∙ sym (root_is j b) ∙ free.1))

      -- so a word that near is the lane less the errors at these nodes
      pub suspect_word : (us : List ℕ) → NearBut h s lost are.room ws us → us ≡ removed p js (errors_at h js sums) ws
      suspect_word us near =
          repaired_word h s ws long below sums few_nodes sums_are sums_long sums_below js js_low js_distinct js_room us near.long
          (poly h s lost are.room are.low ws long below L is_locator us near) (js_right us near)
