-- The check sums of a lane cleared of its lost nodes: a locator of them vanishes at every other node that is wrong.
use mathlib.Core.Path.{◌≡◌, refl, sym, ap, ◌∙◌}
use mathlib.Core.Bool.{true, false, ◌&&◌, ◌||◌, not, true≢false}
use mathlib.Core.List.{List, [], map}
use Prim.Native.Nat.{ℕ, suc, ◌+◌, ◌≤◌, ◌<◌}
use native.Mathlib.Nat as Nat
use native.Mathlib.Omega.{arith}
use borrow.Author.Tests.{eq-eqb}
use lib.Dec.{eqb}
use lib.ListN.{length, get_or, length-map}
use Rattle.lists.specs.Rows.{range}
use Rattle.lists.specs.Counting.{count_from}
use Rattle.lists.specs.Numbers.{all_below, is_in}
use Rattle.lists.proofs.All.{All-at, All-of, All-map}
use Rattle.std.proofs.lemmas.List.{get_or-map}
use Rattle.std.proofs.lemmas.Bool.{or_from}
use Rattle.lists.proofs.Cases.{by_test}
use Rattle.lists.proofs.Count.{count_either, count_none}
use Rattle.lists.proofs.Differ.{unlike}
use Rattle.lists.proofs.Numbers.{below_at, is_in_place, place_is_in}
use Rattle.algebra.specs.Field.{Field}
use Rattle.algebra.specs.Powers.{pow, Order}
use Rattle.algebra.proofs.Ring.{mul-zero, zero-mul}
use Rattle.algebra.proofs.Poly.{eval}
use Rattle.algebra.proofs.Powers.{pow_injective}
use Rattle.algebra.proofs.Product.{product, length_product, product_vanishes, product_nonzero}
use Rattle.field.specs.Symbols.{Symbol}
use Rattle.field.proofs.Symbols.{symbol_path}
use Rattle.generator.specs.declared.Header.{Header}
use Rattle.generator.specs.Records.{size, Sound}
use Rattle.generator.proofs.Sound.{field_for, root_for, root_order}
use Rattle.nearest_word.proofs.Selection.{stable}
use Rattle.nearest_word.proofs.Recurrence.{discrepancy}
use Rattle.nearest_word.proofs.Massey.{Locator}
use Rattle.nearest_word.proofs.Errors.{value, syndrome, error, faults}
use Rattle.nearest_word.proofs.Near.{Polynomial, term, faults_count, count_roots, numbers_values, polynomial}
use Rattle.near_message.specs.Inner.Lost.{lost_radius, differ_but}
use Rattle.near_message.proofs.Cleared.{cleared, cleared_located}
use Rattle.near_message.proofs.CountIn.{count_in}
use Rattle.near_message.proofs.NearBut.{NearBut, lost_fits, but_word, but_close, but_false}

module _ (h : Header) (s : Sound h) where
  abbrev F : Field
  F = field_for h s

  abbrev a : Symbol (size h)
  a = root_for h s

  abbrev o : Order F a h.n
  o = root_order h s

  module _ (lost : List ℕ) (room : length lost + h.k ≤ h.n) (low : all_below h.n lost ≡ true) where
    -- the product over the points of the lost nodes
    abbrev pub G : List (Symbol (size h))
    G = product F (map (pow F a) lost)

    pub length_G : length G ≡ suc (length lost)
    length_G = length_product F (map (pow F a) lost) ∙ ap suc (length-map lost (pow F a))

    -- it vanishes at these
    pub G-lost : (j : ℕ) → is_in j lost ≡ true → value F a G j ≡ F.0f
    G-lost j t =
        let (u, b, is) = is_in_place j lost t in
        ap (value F a G) (sym is)
        ∙ ap (eval F G) (sym (get_or-map (pow F a) lost u 0 F.0f b))
        ∙ All-at (λ x. eval F G x ≡ F.0f) F.0f (map (pow F a) lost) (product_vanishes F (map (pow F a) lost)) u (omega (arith, length-map lost (pow F a)))

    -- and at no others
    pub G-kept : (j : ℕ) → j < h.n → is_in j lost ≡ false → value F a G j ≡ F.0f → ⊥
    G-kept j b t =
        product_nonzero F (map (pow F a) lost) (pow F a j)
        (All-map (λ x. pow F a j ≡ x → ⊥) (pow F a) lost
        (All-of (λ l. pow F a j ≡ pow F a l → ⊥) 0 lost
        (λ u c e. let is = pow_injective F a h.n o j (get_or lost u 0) b (below_at h.n lost low u c) e in true≢false (sym (place_is_in lost u c) ∙ ap (λ (i : ℕ). is_in i lost) (sym is) ∙ t))))

    module _ (ws : List ℕ) (long : length ws ≡ h.n) (below : all_below (size h) ws ≡ true) (v : List (Symbol (size h))) (locator : Locator F (discrepancy F G (syndrome F a h.n (term h s ws))) (lost_radius h lost) v) where
      -- the nodes that are lost or at which the locator vanishes are few
      pub few_suspects : count_from h.n 0 (λ j. is_in j lost || eqb (value F a v j).0 0) + h.k ≤ h.n
      few_suspects =
          omega (
            arith,
            count_either h.n 0 (λ j. is_in j lost || eqb (value F a v j).0 0) (λ j. is_in j lost) (λ j. eqb (value F a v j).0 0) (λ j l b p q. or_from _ _ p q),
            count_in h.n lost,
            count_roots h s (lost_radius h lost) v locator.short locator.nonzero,
            lost_fits h s lost room,
          )

      pub at_term : (j : ℕ) → j < h.n → (term h s ws j).0 ≡ get_or ws j 0
      at_term j b = Nat.mod-eq_of_lt (below_at (size h) ws below j (omega arith))

      module _ (us : List ℕ) (near : NearBut h s lost room ws us) where
        pub poly : Polynomial h s us
        poly = polynomial h s us near.long near.below (but_word h s lost room ws long us near)

        pub at_us : (j : ℕ) → j < h.n → (value F a poly.f j).0 ≡ get_or us j 0
        at_us j b = sym (ap (λ (l : List ℕ). get_or l j 0) poly.word ∙ numbers_values h s poly.f j b)

        abbrev y : ℕ → Symbol (size h)
        y = term h s ws

        abbrev z : ℕ → Symbol (size h)
        z = cleared F a h.n o poly.f y G

        -- no fault is counted where the node is lost or right
        none : (j : ℕ) → j < h.n → (not (is_in j lost) && unlike ws us j) ≡ false → z j ≡ F.0f
        none j b t =
            by_test (is_in j lost)
            (λ i. ap (λ x. F.mul (error F a h.n o poly.f y j) x) (G-lost j i) ∙ mul-zero F (error F a h.n o poly.f y j))
            (λ i.
            let same : y j ≡ value F a poly.f j = symbol_path (size h) (at_term j b ∙ but_false lost ws us j i t ∙ sym (at_us j b)) in
            ap (λ x. F.mul (F.add x (F.neg (value F a poly.f j))) (value F a G j)) same ∙ ap (λ x. F.mul x (value F a G j)) (F.add_neg (value F a poly.f j)) ∙ zero-mul F (value F a G j))

        few : length (faults F z (value F a []) (range 0 h.n)) ≤ lost_radius h lost
        unfolding eval differ_but
        few =
            omega (
              arith,
              but_close h s lost room ws long us near,
              ap (λ n. count_from n 0 (λ j. not (is_in j lost) && unlike ws us j)) long,
              faults_count h s z (value F a []) 0 h.n,
              count_either h.n 0 (λ j. not (eqb (z j).0 (value F a [] j).0)) (λ j. not (is_in j lost) && unlike ws us j) (λ j. false) (λ j l b p q. ap not (eq-eqb _ _ (ap (λ (x : Symbol (size h)). x.0) (none j (omega arith) p)))),
              count_none h.n 0 (λ j. false) (λ j l b. refl),
            )

        -- a node that is not lost and at which the locator does not vanish is right
        pub kept_right : (j : ℕ) → j < h.n → is_in j lost ≡ false → (value F a v j ≡ F.0f → ⊥) → y j ≡ value F a poly.f j
        kept_right j b t q =
            stable (y j ≡ value F a poly.f j) (F.decide (y j) (value F a poly.f j))
            (λ m.
            q
            (cleared_located F a h.n o poly.f y G (lost_radius h lost) v (omega (arith, length_G)) (omega (arith, length_G, lost_fits h s lost room, poly.size_is)) few locator j b m
            (G-kept j b t)))

        -- in numbers
        pub kept_symbol : (j : ℕ) → j < h.n → is_in j lost ≡ false → (value F a v j ≡ F.0f → ⊥) → get_or ws j 0 ≡ get_or us j 0
        kept_symbol j b t q = sym (at_term j b) ∙ ap (λ (x : Symbol (size h)). x.0) (kept_right j b t q) ∙ at_us j b
