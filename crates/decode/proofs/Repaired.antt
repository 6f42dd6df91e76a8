-- Nodes that hold all faults of a lane: the lane less the errors there that the check sums tell of is the word.
use mathlib.Core.Path.{◌≡◌, refl, sym, ap, ap₂, subst, fun_ext, ◌∙◌}
use mathlib.Core.Bool.{true, false, true≢false}
use mathlib.Core.List.{List, [], ◌∷◌, map}
use Prim.Native.Nat.{ℕ, suc, ◌+◌, ◌-◌, ◌≤◌, ◌<◌}
use native.Mathlib.Nat as Nat
use native.Mathlib.Omega.{arith}
use lib.ListN.{length, get_or, take, drop, length-map}
use lib.Seq.{ext_get_or, length-take-le, get_or-take}
use Rattle.lists.specs.Rows.{from, range}
use Rattle.lists.specs.Numbers.{all_below, is_in}
use Rattle.lists.specs.Padded.{padded}
use Rattle.lists.proofs.All.{All-of, Distinct}
use Rattle.std.proofs.lemmas.List.{get_or-map}
use Rattle.lists.proofs.Cases.{by_test}
use Rattle.lists.proofs.Rows.{get_or_from, length_from}
use Rattle.lists.proofs.Padding.{get_or_padded}
use Rattle.lists.proofs.Places.{Places, map_range}
use Rattle.lists.proofs.Numbers.{below_at, below_all, is_in_place, place_is_in}
use Rattle.algebra.specs.Field.{Field}
use Rattle.algebra.specs.Powers.{pow}
use Rattle.algebra.proofs.Poly.{eval}
use Rattle.algebra.proofs.LagrangeBasis.{others, length_others}
use Rattle.algebra.proofs.Parity.{check}
use Rattle.field.specs.Fields.{add, sub, mul, power, inverse}
use Rattle.field.specs.Inner.Sums.{dot}
use Rattle.field.specs.Symbols.{Symbol, numbers}
use Rattle.field.proofs.Symbols.{symbol_path, residue, get_or_numbers}
use Rattle.field.proofs.FieldOf.{size_pos, number_sub, number_pow}
use Rattle.generator.specs.declared.Header.{Header}
use Rattle.generator.specs.Records.{modulus_of, size, Sound}
use Rattle.generator.specs.Codewords.{poly_at, check_from}
use Rattle.generator.proofs.Sound.{field_for, root_for, root_order}
use Rattle.generator.proofs.Bridge.{poly_at_is, check_from_is}
use Rattle.generator.proofs.Recovery.{lifted, lifted_numbers, length_lifted}
use Rattle.interpolation.specs.Inner.Points.{points_of}
use Rattle.interpolation.specs.Inner.Lagrange.{scale_at, scales_of}
use Rattle.interpolation.specs.Inner.Polynomials.{product_of, quotient_of}
use Rattle.interpolation.proofs.Bridge.{points_of_is, others_is, scale_at_is}
use Rattle.interpolation.proofs.Points.{length_points}
use Rattle.interpolation.proofs.Values.{get_or_scales}
use Rattle.check_sums.specs.Inner.Sums.{check_sums}
use Rattle.check_sums.proofs.OneLane.{length_sums}
use Rattle.nearest_word.proofs.Recurrence.{discrepancy}
use Rattle.nearest_word.proofs.Errors.{value, syndrome}
use Rattle.nearest_word.proofs.Repair.{repaired}
use Rattle.nearest_word.proofs.Near.{Polynomial, term, numbers_values}
use Rattle.decode.specs.Inner.Locating.{Below}
use Rattle.decode.specs.Inner.Errors.{error_of, errors_from, errors_of, removed}
use Rattle.decode.proofs.Bridge.{term_number}
use Rattle.decode.proofs.Removing.{length_removed, removed_other, removed_at}

-- a list's elements in order
all_terms : {B : Type 0} (d : B) (g : ℕ → B) (ws : List ℕ) (n : ℕ) → length ws ≡ n → map (λ j. g (get_or ws j 0)) (range 0 n) ≡ map g ws
all_terms {B} d g ws n l =
    let f : ℕ → B = λ j. g (get_or ws j 0) in
    map_range f 0 n
    ∙ ext_get_or d (from f 0 n) (map g ws) (length_from f 0 n ∙ sym (length-map ws g ∙ l))
    (λ j b.
    let c : j < n = omega (arith, length_from f 0 n) in
    get_or_from f 0 n j d c ∙ ap f (Nat.zero-add j) ∙ sym (get_or-map g ws j 0 d (omega arith)))

module _ (h : Header) (s : Sound h) where
  abbrev F : Field
  F = field_for h s

  abbrev a : Symbol (size h)
  a = root_for h s

  abbrev p : ℕ
  p = modulus_of h

  -- the value of a polynomial at a node's point
  pub poly_power : (cs : List ℕ) → all_below (size h) cs ≡ true → (j : ℕ) → poly_at p cs (power p h.root j) ≡ (value F a (lifted h s cs) j).0
  poly_power cs b j =
      ap₂ (poly_at p) (sym (lifted_numbers h s cs b)) (sym (number_pow p s.field a j)) ∙ poly_at_is h s (lifted h s cs) (pow F a j)

  -- sums of terms times coefficients
  dot_number : (N : List (Symbol (size h))) (ts : List ℕ) (r : ℕ → Symbol (size h)) (e : ℕ) → length ts ≡ length N → ((i : ℕ) → i < length N → get_or ts i 0 ≡ (r (e + i)).0) → dot p ts (numbers (size h) N) ≡ (discrepancy F N r e).0
  unfolding dot
  dot_number [] [] r e l g = refl
  dot_number [] (t ∷ ts) r e l g = absurd (omega arith)
  dot_number (c ∷ N) [] r e l g = absurd (omega arith)
  dot_number (c ∷ N) (t ∷ ts) r e l g =
      ap₂ (add p)
      (ap (λ (x : ℕ). mul p x c.0) (g 0 (omega arith) ∙ ap (λ (i : ℕ). (r i).0) (Nat.add-zero e)) ∙ ap (λ (x : Symbol (size h)). x.0) (F.mul_comm (r e) c))
      (dot_number N ts r (suc e) (omega arith) (λ i b. g (suc i) (omega arith) ∙ ap (λ (i : ℕ). (r i).0) (Nat.add-suc e i ∙ sym (Nat.suc-add e i))))

  module _ (ws : List ℕ) (long : length ws ≡ h.n) (below : all_below (size h) ws ≡ true) (sums : List ℕ) (few_nodes : h.n ≤ 255) (sums_are : sums ≡ padded 255 (check_sums h ws)) (sums_long : length sums ≡ 255) (sums_below : Below (size h) sums) where
    abbrev y : ℕ → Symbol (size h)
    y = term h s ws

    -- the check sums are the syndromes
    check_number : (e : ℕ) → check_from h (suc e) 0 ws ≡ (syndrome F a h.n y e).0
    check_number e =
        ap (check_from h (suc e) 0) (sym (lifted_numbers h s ws below))
        ∙ check_from_is h s (suc e) 0 (lifted h s ws)
        ∙ ap₂ (λ (l : List (Symbol (size h))) (m : ℕ). (check F a (suc e) l (range 0 m)).0) (sym (all_terms F.0f (residue (size h) (size_pos p s.field)) ws h.n long)) (length_lifted h s ws ∙ long)

    pub same_syndromes : (e : ℕ) → e < h.n - h.k → term h s sums e ≡ syndrome F a h.n y e
    unfolding check_sums
    same_syndromes e b =
        symbol_path (size h)
        (term_number p s.field sums sums_below e
        ∙ ap (λ (l : List ℕ). get_or l e 0) sums_are
        ∙ get_or_padded 255 (check_sums h ws) e (omega (arith, length_sums h ws))
        ∙ get_or_from (λ e. check_from h e 0 ws) 1 (h.n - h.k) e 0 b
        ∙ ap (λ (i : ℕ). check_from h i 0 ws) (Nat.suc-add 0 e ∙ ap suc (Nat.zero-add e))
        ∙ check_number e)

    pub at_ws : (j : ℕ) → j < h.n → (y j).0 ≡ get_or ws j 0
    at_ws j b = Nat.mod-eq_of_lt (below_at (size h) ws below j (omega arith))

    module _ (js : List ℕ) (js_low : all_below h.n js ≡ true) (js_distinct : Distinct js) (js_room : length js + h.k ≤ h.n) where
      abbrev pub xs : List ℕ
      xs = points_of p h.root 0 js

      abbrev pub ts : List ℕ
      ts = take (length js) sums

      abbrev pub es : List ℕ
      es = errors_of p xs ts

      abbrev bs : List (Symbol (size h))
      bs = map (pow F a) js

      xs_points : xs ≡ numbers (size h) bs
      xs_points = points_of_is p s.field a 0 js ∙ ap (λ (g : ℕ → Symbol (size h)). numbers (size h) (map g js)) (fun_ext (λ j. ap (pow F a) (Nat.add-zero j)))

      pub length_es : length es ≡ length js
      unfolding errors_of errors_from
      length_es = length_from (λ i. error_of p (drop 1 (product_of p xs)) ts (get_or xs i 0) (get_or (scales_of p xs) i 0)) 0 (length xs) ∙ length_points p h.root 0 js

      module _ (us : List ℕ) (us_long : length us ≡ h.n) (poly : Polynomial h s us) (right : (j : ℕ) → j < h.n → is_in j js ≡ false → get_or ws j 0 ≡ get_or us j 0) where
        at_us : (j : ℕ) → j < h.n → get_or us j 0 ≡ (value F a poly.f j).0
        at_us j b = ap (λ (l : List ℕ). get_or l j 0) poly.word ∙ numbers_values h s poly.f j b

        places : Places h.n (length js) js
        places = record { low = below_all h.n js js_low; distinct = js_distinct; size = refl }

        right_symbol : (j : ℕ) → j < h.n → ((i : ℕ) → i < length js → get_or js i 0 ≡ j → ⊥) → y j ≡ value F a poly.f j
        right_symbol j b out =
            symbol_path (size h)
            (at_ws j b
            ∙ right j b (by_test (is_in j js) (λ t. let (i, c, is) = is_in_place j js t in absurd (out i c is)) (λ t. t))
            ∙ at_us j b)

        -- the error that the program finds at node number i of the list
        module _ (i : ℕ) (low : i < length js) where
          abbrev j : ℕ
          j = get_or js i 0

          abbrev N : List (Symbol (size h))
          N = others F bs (pow F a j)

          abbrev E : Symbol (size h)
          E = F.mul (F.mul (discrepancy F N (syndrome F a h.n y) 0) (F.inv (value F a N j))) (F.inv (pow F a j))

          in_bs : i < length bs
          in_bs = omega (arith, length-map js (pow F a))

          point_at : get_or bs i F.0f ≡ pow F a j
          point_at = get_or-map (pow F a) js i 0 F.0f low

          x_number : get_or xs i 0 ≡ (pow F a j).0
          x_number = ap (λ (l : List ℕ). get_or l i 0) xs_points ∙ get_or_numbers (size h) (size_pos p s.field) bs i ∙ ap (λ (x : Symbol (size h)). x.0) point_at

          scale_number : get_or (scales_of p xs) i 0 ≡ (F.inv (value F a N j)).0
          scale_number =
              get_or_scales p xs i (omega (arith, length_points p h.root 0 js))
              ∙ ap (λ (l : List ℕ). scale_at p l i) xs_points
              ∙ scale_at_is p s.field bs i in_bs
              ∙ ap (λ (x : Symbol (size h)). (F.inv (eval F (others F bs x) x)).0) point_at

          quotient_number : quotient_of p (get_or xs i 0) (drop 1 (product_of p xs)) ≡ numbers (size h) N
          quotient_number = ap₂ (λ (x : ℕ) (l : List ℕ). quotient_of p x (drop 1 (product_of p l))) x_number xs_points ∙ others_is p s.field bs (pow F a j)

          length_N : length N ≡ length js
          length_N = length_others F bs (pow F a j) ∙ length-map js (pow F a)

          length_ts : length ts ≡ length js
          length_ts = length-take-le (length js) sums (omega (arith, js_room))

          sum_number : dot p ts (numbers (size h) N) ≡ (discrepancy F N (syndrome F a h.n y) 0).0
          sum_number =
              dot_number N ts (syndrome F a h.n y) 0 (length_ts ∙ sym length_N)
              (λ e b.
              get_or-take (length js) sums e 0 (omega (arith, length_N))
              ∙ sym (term_number p s.field sums sums_below e)
              ∙ ap (λ (z : Symbol (size h)). z.0) (same_syndromes e (omega (arith, js_room, length_N, s.some)) ∙ ap (syndrome F a h.n y) (sym (Nat.zero-add e))))

          pub error_number : get_or es i 0 ≡ E.0
          unfolding errors_of errors_from error_of
          error_number =
              get_or_from (λ i. error_of p (drop 1 (product_of p xs)) ts (get_or xs i 0) (get_or (scales_of p xs) i 0)) 0 (length xs) i 0 (omega (arith, length_points p h.root 0 js))
              ∙ ap (λ (i : ℕ). error_of p (drop 1 (product_of p xs)) ts (get_or xs i 0) (get_or (scales_of p xs) i 0)) (Nat.zero-add i)
              ∙ ap₂ (mul p) (ap₂ (mul p) (ap (dot p ts) quotient_number ∙ sum_number) scale_number) (ap (inverse p) x_number)

          -- taken away, it leaves the word's symbol
          at_root : (value F a poly.f j).0 ≡ get_or (removed p js es ws) j 0
          at_root =
              let b = below_at h.n js js_low i low in
              ap (λ (x : Symbol (size h)). x.0) (repaired F a h.n (root_order h s) poly.f y js places (omega (arith, js_room, poly.size_is)) right_symbol i low)
              ∙ number_sub p s.field (y j) E
              ∙ ap₂ (sub p) (at_ws j b) (sym error_number)
              ∙ sym (removed_at p js es ws js_distinct (rw long js_low) length_es i low)

        found_symbol : (j : ℕ) → j < h.n → get_or us j 0 ≡ get_or (removed p js es ws) j 0
        found_symbol j b = by_test (is_in j js) inside outside
          where
            inside : is_in j js ≡ true → get_or us j 0 ≡ get_or (removed p js es ws) j 0
            inside t =
                let (i, low, is) = is_in_place j js t in
                at_us j b ∙ subst (λ (k : ℕ). (value F a poly.f k).0 ≡ get_or (removed p js es ws) k 0) is (at_root i low)

            outside : is_in j js ≡ false → get_or us j 0 ≡ get_or (removed p js es ws) j 0
            outside t =
                sym (right j b t)
                ∙ sym (removed_other p js es ws j (All-of (λ i. i ≡ j → ⊥) 0 js (λ i c e. true≢false (sym (place_is_in js i c) ∙ ap (λ (x : ℕ). is_in x js) e ∙ t))))

        -- the word is the lane less these errors
        pub repaired_word : us ≡ removed p js es ws
        repaired_word =
            ext_get_or 0 us (removed p js es ws) (us_long ∙ sym (length_removed p js es ws ∙ long))
            (λ j b. found_symbol j (omega (arith, us_long)))
