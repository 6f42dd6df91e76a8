-- The product over the points of the rows, where their shifts come in rounds.
use mathlib.Core.Path.{◌≡◌, refl, sym, ap, ◌∙◌}
use mathlib.Core.Bool.{Bool, true, false}
use mathlib.Core.List.{List, ◌∷◌}
use Prim.Native.Nat.{ℕ, zero, suc, ◌+◌, ◌-◌, ◌*◌, ◌/◌, ◌%◌, ◌≤◌, ◌<◌}
use native.Mathlib.Nat.{zero-add, mul-div_right, mul-mod_right, div-add-mod, div-le_self, div-le_of_le-mul, mul_assoc, mul_comm, add-mul}
use native.Mathlib.Omega.{arith}
use lib.Dec.{eqb}
use lib.ListN.{length, get_or, length-map}
use Rattle.lists.specs.Choice.{pick}
use Rattle.lists.specs.Rows.{from}
use Rattle.std.proofs.lemmas.List.{get_or-map}
use Rattle.lists.proofs.All.{All, All-at, All-of}
use Rattle.lists.specs.Padded.{padded}
use Rattle.lists.proofs.Numbers.{at_below}
use Rattle.lists.proofs.Padding.{get_or_padded}
use Rattle.lists.proofs.Rows.{from_ext, get_or_from, length_from}
use Rattle.algebra.specs.Powers.{pow}
use Rattle.algebra.proofs.Ring.{one-mul}
use Rattle.algebra.proofs.Poly.{eval}
use Rattle.algebra.proofs.Powers.{pow_add, pow_mul, pow_times}
use Rattle.algebra.proofs.Product.{product, length_product, leading_product, product_vanishes}
use Rattle.algebra.proofs.ShiftedBasis.{shifted, size_shifted}
use Rattle.algebra.proofs.Nodes.{node_spread}
use Rattle.field.specs.Fields.{power}
use Rattle.field.specs.Symbols.{Symbol, numbers}
use Rattle.field.proofs.Symbols.{get_or_numbers}
use Rattle.field.proofs.Bounds.{power_below}
use Rattle.field.proofs.FieldOf.{size_pos, number_pow}
use Rattle.generator.specs.declared.Header.{Header}
use Rattle.generator.specs.Records.{modulus_of, size, Sound}
use Rattle.generator.specs.Shifts.{shifts}
use Rattle.generator.proofs.Sound.{field_for, root_for, root_order}
use Rattle.generator.proofs.Recovery.{the_code}
use Rattle.interpolation.specs.Inner.Points.{SymbolList}
use Rattle.interpolation.specs.Inner.Polynomials.{product_of}
use Rattle.interpolation.proofs.Coefficients.{length_product_of}
use Rattle.interpolation.proofs.Bridge.{product_of_is}
use Rattle.node_weights.specs.Inner.Rows.{row_points}
use Rattle.node_weights.proofs.Recovering.{row_points_lem}
use Rattle.lane_message.specs.Inner.Rows.{InRounds, round_points, spaced_of}
use Rattle.lane_message.proofs.Monic.{monic_product, spread, eval_spread}
use Rattle.lane_message.proofs.Points.{length_shifts}

module _ (h : Header) (s : Sound h) (m : ℕ) (r : InRounds h.n (shifts h) (suc m)) where
  abbrev g : ℕ
  g = suc m

  abbrev S : Type 0
  S = Symbol (size h)

  abbrev e : ℕ
  e = h.k - 1

  -- the rows' points, and those of a round to the power g
  abbrev bs : List S
  bs = shifted (field_for h s) (root_for h s) (pow (field_for h s) (root_for h s) e) (shifts h)

  abbrev t : ℕ
  t = r.taken

  abbrev point : ℕ → S
  point j = pow (field_for h s) (root_for h s) ((j + e) * g)

  abbrev ys : List S
  ys = from point 0 t

  many : length (shifts h) ≡ h.k
  many = sym (length-map (shifts h) (λ i. (field_for h s).mul (pow (field_for h s) (root_for h s) i) (pow (field_for h s) (root_for h s) e))) ∙ size_shifted (field_for h s) (the_code h s) (pow (field_for h s) (root_for h s) e)

  whole : g * t ≡ h.k
  whole = r.all_shifts ∙ many

  count : h.k / g ≡ t
  count = ap (λ (k : ℕ). k / g) (sym whole) ∙ mul-div_right t {m = g} (omega arith)

  -- numbers of a list by index
  numbers_from : (f : ℕ → S) (i n : ℕ) → from (λ j. (f j).0) i n ≡ numbers (size h) (from f i n)
  unfolding from
  numbers_from f i zero = refl
  numbers_from f i (suc n) = ap (λ l. (f i).0 ∷ l) (numbers_from f (i + 1) n)

  round_points_lem : round_points h g ≡ numbers (size h) ys
  unfolding round_points
  round_points_lem =
      ap (from (λ j. power (modulus_of h) h.root ((j + e) * g)) 0) count
      ∙ from_ext _ (λ j. (point j).0) 0 t (λ j low high. sym (number_pow (modulus_of h) s.field (root_for h s) ((j + e) * g)))
      ∙ numbers_from point 0 t

  -- a choice of numbers
  chosen : (b : Bool) (x y : S) → pick b x.0 y.0 ≡ (pick b x y).0
  chosen true x y = refl
  chosen false x y = refl

  spread_is : (qs : List S) → spaced_of g (h.k + 1) (numbers (size h) qs) ≡ numbers (size h) (spread (field_for h s) g t qs)
  unfolding spaced_of spread
  spread_is qs =
      let F = field_for h s in
      let size_is : h.k + 1 ≡ g * t + 1 = omega (arith, whole) in
      ap (from (λ j. pick (eqb (j % g) 0) (get_or (numbers (size h) qs) (j / g) 0) 0) 0) size_is
      ∙ from_ext _ (λ j. (pick (eqb (j % g) 0) (get_or qs (j / g) F.0f) F.0f).0) 0 (g * t + 1)
      (λ j low high. ap (λ (x : ℕ). pick (eqb (j % g) 0) x 0) (get_or_numbers (size h) (size_pos (modulus_of h) s.field) qs (j / g)) ∙ chosen (eqb (j % g) 0) (get_or qs (j / g) F.0f) F.0f)
      ∙ numbers_from (λ j. pick (eqb (j % g) 0) (get_or qs (j / g) F.0f) F.0f) 0 (g * t + 1)

  -- exponents that differ by whole turns
  turned : (i : ℕ) → (i + e) * g ≡ h.n * (i / r.around) + (i % r.around + e) * g
  turned i =
      let parts : r.around * (i / r.around) + i % r.around ≡ i = div-add-mod i r.around in
      let nodes : h.n * (i / r.around) ≡ r.around * (i / r.around) * g = ap (λ (x : ℕ). x * (i / r.around)) (sym r.all_nodes) ∙ mul_assoc g r.around (i / r.around) ∙ mul_comm g (r.around * (i / r.around)) in
      let split : (i + e) * g ≡ (r.around * (i / r.around) + (i % r.around + e)) * g = ap (λ (x : ℕ). x * g) (omega arith) in
      split ∙ add-mul (r.around * (i / r.around)) (i % r.around + e) g ∙ ap (λ (x : ℕ). x + (i % r.around + e) * g) (sym nodes)

  -- the power g of row i's point is a point of the round
  powered : (i : ℕ) → i < length (shifts h) → pow (field_for h s) (get_or bs i (field_for h s).0f) g ≡ point (get_or (shifts h) i 0 % r.around)
  powered i inside =
      let F = field_for h s in
      let a = root_for h s in
      let x = get_or (shifts h) i 0 in
      ap (λ y. pow F y g) (get_or-map (λ i. F.mul (pow F a i) (pow F a e)) (shifts h) i 0 F.0f inside ∙ sym (pow_add F a x e))
      ∙ sym (pow_mul F a (x + e) g)
      ∙ ap (pow F a) (turned x)
      ∙ pow_add F a (h.n * (x / r.around)) ((x % r.around + e) * g)
      ∙ ap (λ y. F.mul y (point (x % r.around))) (pow_times F a h.n (root_order h s) (x / r.around))
      ∙ one-mul F (point (x % r.around))

  vanishes : All (λ x. eval (field_for h s) (spread (field_for h s) g t (product (field_for h s) ys)) x ≡ (field_for h s).0f) bs
  vanishes =
      let F = field_for h s in
      let long : length ys ≡ t = length_from point 0 t in
      All-of _ F.0f bs
      (λ i h'.
      let inside : i < length (shifts h) = omega (arith, length-map (shifts h) (λ i. F.mul (pow F (root_for h s) i) (pow F (root_for h s) e))) in
      let j : ℕ = get_or (shifts h) i 0 % r.around in
      let low : j < t = r.each i inside in
      eval_spread F m t (product F ys) (get_or bs i F.0f) (length_product F ys ∙ ap suc long)
      ∙ ap (eval F (product F ys)) (powered i inside ∙ sym (rw zero-add at (get_or_from point 0 t j F.0f low)))
      ∙ All-at (λ x. eval F (product F ys) x ≡ F.0f) F.0f ys (product_vanishes F ys) j (omega (arith, long)))

  leading : get_or (spread (field_for h s) g t (product (field_for h s) ys)) (length bs) (field_for h s).0f ≡ (field_for h s).1f
  unfolding spread
  leading =
      let F = field_for h s in
      let size_is : length bs ≡ g * t = size_shifted F (the_code h s) (pow F (root_for h s) e) ∙ sym whole in
      let f : ℕ → S = λ j. pick (eqb (j % g) 0) (get_or (product F ys) (j / g) F.0f) F.0f in
      ap (λ (i : ℕ). get_or (from f 0 (g * t + 1)) i F.0f) size_is
      ∙ rw zero-add at (get_or_from f 0 (g * t + 1) (g * t) F.0f (omega arith))
      ∙ rw (mul-mod_right g t, mul-div_right t {m = g} (omega arith))
      (ap (λ (i : ℕ). get_or (product F ys) i F.0f) (sym (length_from point 0 t)) ∙ leading_product F ys)

  spread_long : length (spread (field_for h s) g t (product (field_for h s) ys)) ≡ suc (length bs)
  unfolding spread
  spread_long =
      let F = field_for h s in
      length_from (λ j. pick (eqb (j % g) 0) (get_or (product F ys) (j / g) F.0f) F.0f) 0 (g * t + 1) ∙ omega (arith, whole, size_shifted F (the_code h s) (pow F (root_for h s) e))

  pub rounds_right : spaced_of g (h.k + 1) (product_of (modulus_of h) (round_points h g)) ≡ product_of (modulus_of h) (row_points h)
  rounds_right =
      let F = field_for h s in
      let p = modulus_of h in
      ap (spaced_of g (h.k + 1)) (ap (product_of p) round_points_lem ∙ product_of_is p s.field ys)
      ∙ spread_is (product F ys)
      ∙ ap (numbers (size h)) (monic_product F bs (spread F g t (product F ys)) (node_spread F (the_code h s) e).distinct spread_long leading vanishes)
      ∙ sym (ap (product_of p) (row_points_lem h s) ∙ product_of_is p s.field bs)

module _ (h : Header) (s : Sound h) where
  module _ (g : ℕ) (some : 0 < g) where
    pub length_round : length (round_points h g) ≡ h.k / g
    unfolding round_points
    length_round = length_from (λ j. power (modulus_of h) h.root ((j + (h.k - 1)) * g)) 0 (h.k / g)

    -- the points of a round are symbols
    pub round_symbols : h.k ≤ 255 → SymbolList (modulus_of h) (round_points h g)
    unfolding round_points
    round_symbols few =
        record {
          below = at_below (size h) (round_points h g)
              (λ j inside. rw (rw zero-add at (get_or_from (λ j. power (modulus_of h) h.root ((j + (h.k - 1)) * g)) 0 (h.k / g) j 0 (omega (arith, length_round)))) (power_below (modulus_of h) s.field ((j + (h.k - 1)) * g) s.root_below));
          short = omega (arith, length_round, div-le_self h.k g);
        }

    -- zeros after the product change none of the coefficients that are read
    spread_padded : InRounds h.n (shifts h) g → spaced_of g (h.k + 1) (padded 256 (product_of (modulus_of h) (round_points h g))) ≡ spaced_of g (h.k + 1) (product_of (modulus_of h) (round_points h g))
    unfolding spaced_of
    spread_padded r =
        let whole : g * r.taken ≡ h.k = r.all_shifts ∙ length_shifts h s in
        let count : h.k / g ≡ r.taken = ap (λ (k : ℕ). k / g) (sym whole) ∙ mul-div_right r.taken {m = g} some in
        let q = product_of (modulus_of h) (round_points h g) in
        from_ext _ _ 0 (h.k + 1)
        (λ j low high. ap (λ (x : ℕ). pick (eqb (j % g) 0) x 0) (get_or_padded 256 q (j / g) (omega (arith, length_product_of (modulus_of h) (round_points h g), length_round, div-le_of_le-mul g {m = j} {n = r.taken} (omega arith)))))

    pub round_product : InRounds h.n (shifts h) g → spaced_of g (h.k + 1) (padded 256 (product_of (modulus_of h) (round_points h g))) ≡ product_of (modulus_of h) (row_points h)
    round_product r = spread_padded r ∙ by_number g some r
      where
        by_number : (g : ℕ) → 0 < g → InRounds h.n (shifts h) g → spaced_of g (h.k + 1) (product_of (modulus_of h) (round_points h g)) ≡ product_of (modulus_of h) (row_points h)
        by_number zero none r = absurd (omega arith)
        by_number (suc m) pos r = rounds_right h s m r
