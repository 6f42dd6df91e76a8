-- At most one word of the code differs from a lane at no more than (n − k)/2 nodes.
use mathlib.Core.Path.{◌≡◌, refl, sym, ap, ap₂, ◌∙◌}
use mathlib.Core.Bool.{true, not}
use mathlib.Core.List.{List, map}
use Prim.Native.Nat.{ℕ, zero, suc, ◌+◌, ◌≤◌, ◌<◌}
use native.Mathlib.Nat as Nat
use native.Mathlib.Omega.{arith}
use borrow.Author.Tests.{eq-eqb, ne_eqb, leb-true}
use lib.Dec.{eqb, leb}
use lib.ListN.{length, get_or, length-map}
use Rattle.lists.specs.Choice.{when}
use Rattle.lists.specs.Rows.{from, range}
use Rattle.lists.specs.Counting.{count_from, differ}
use Rattle.lists.specs.Numbers.{all_below}
use Rattle.lists.proofs.All.{All, All-map}
use Rattle.std.proofs.lemmas.Bool.{and_parts}
use Rattle.lists.proofs.Differ.{differ_by}
use Rattle.lists.proofs.Numbers.{below_at}
use Rattle.lists.proofs.Count.{count_ext, count_not}
use Rattle.lists.proofs.Rows.{get_or_from}
use Rattle.lists.proofs.Places.{Places-range, length_range, map_range}
use Rattle.algebra.specs.Field.{Field}
use Rattle.algebra.specs.Powers.{pow, Order}
use Rattle.algebra.proofs.Poly.{eval, values, unique}
use Rattle.algebra.proofs.Powers.{Distinct-pow}
use Rattle.field.specs.Symbols.{Symbol, numbers}
use Rattle.field.proofs.Symbols.{symbol_path, residue, length_numbers, get_or_numbers}
use Rattle.field.proofs.FieldOf.{size_pos}
use Rattle.generator.specs.declared.Header.{Header}
use Rattle.generator.specs.Records.{modulus_of, size, Sound}
use Rattle.generator.specs.Codewords.{is_word, values_of}
use Rattle.generator.proofs.Sound.{field_for, root_for, root_order}
use Rattle.generator.proofs.Bridge.{values_of_is}
use Rattle.generator.proofs.Recovery.{lifted, lifted_numbers, length_lifted}
use Rattle.generator.proofs.Words.{words_poly}
use Rattle.nearest_word.specs.Nearest.{radius, is_near, has_near, nearest}
use Rattle.nearest_word.proofs.Selection.{dec_not, cons_if, keep, All-keep, length_keep, Places-keep}
use Rattle.nearest_word.proofs.Errors.{value, faults, length_free}
use Rattle.nearest_word.proofs.Searches.{only_one}
use Rattle.lists.proofs.AllLists.{Passes, any_list_lem, first_list_lem}

-- polynomials of length k whose words agree at k places are equal
agree_equal : (F : Field) (a : F.Carrier) (n : ℕ) → Order F a n → (k : ℕ) (f g : List F.Carrier) → length f ≡ k → length g ≡ k → k + length (faults F (value F a f) (value F a g) (range 0 n)) ≤ n → f ≡ g
agree_equal F a n o k f g lf lg b =
    let P : ℕ → Type 0 = λ j. value F a f j ≡ value F a g j in
    let d : (j : ℕ) → Dec (P j) = λ j. F.decide (value F a f j) (value F a g j) in
    let js = keep P d (range 0 n) in
    unique F (map (pow F a) js) f g (Distinct-pow F a n o (length js) js (Places-keep P d n n (range 0 n) (Places-range n 0 n (omega arith))))
    (lf ∙ sym lg)
    (omega (arith, length-map js (pow F a), length_keep P d (range 0 n), length_range 0 n))
    (All-map (λ x. eval F f x ≡ eval F g x) (pow F a) js (All-keep P d (range 0 n)))

module _ (h : Header) (s : Sound h) where
  abbrev F : Field
  F = field_for h s

  abbrev a : Symbol (size h)
  a = root_for h s

  abbrev o : Order F a h.n
  o = root_order h s

  -- the symbols of a lane
  abbrev pub term : List ℕ → ℕ → Symbol (size h)
  term ws j = residue (size h) (size_pos (modulus_of h) s.field) (get_or ws j 0)

  -- n symbols that are a word near to ws
  abbrev pub Near : List ℕ → List ℕ → Type 0
  Near ws us = Passes (size h) h.n (is_near h ws) us

  pub radius_fits : h.k + (radius h + radius h) ≤ h.n
  unfolding radius
  radius_fits = omega (arith, s.fits)

  -- the places at which symbols differ, as numbers
  pub faults_count : (y u : ℕ → Symbol (size h)) (i n : ℕ) → length (faults F y u (range i n)) ≡ count_from n i (λ j. not (eqb (y j).0 (u j).0))
  unfolding from count_from
  faults_count y u i zero = refl
  faults_count y u i (suc n) = step i (faults F y u (range (i + 1) n)) (faults_count y u (i + 1) n) (F.decide (y i) (u i))
    where
      step : (j : ℕ) (l : List ℕ) {m : ℕ} → length l ≡ m → (d : Dec (y j ≡ u j)) → length (cons_if (dec_not d) j l) ≡ when (not (eqb (y j).0 (u j).0)) 1 + m
      step j l {m} e (yes q) = rw (eq-eqb (y j).0 (u j).0 (ap (λ (x : Symbol (size h)). x.0) q)) (e ∙ sym (Nat.zero-add m))
      step j l {m} e (no q) = rw (ne_eqb (y j).0 (u j).0 (λ z. q (symbol_path (size h) z))) (omega (arith, e))

  -- a polynomial that is not zero, of length at most t + 1, vanishes at no more than t nodes
  pub count_roots : (t : ℕ) (v : List (Symbol (size h))) → length v ≤ suc t → (All (λ c. c ≡ F.0f) v → ⊥) → count_from h.n 0 (λ j. eqb (value F a v j).0 0) ≤ t
  count_roots t v l z =
      omega (arith, length_free F a h.n o t v l z, faults_count (value F a v) (λ j. F.0f) 0 h.n, count_not h.n 0 (λ j. eqb (value F a v j).0 0))

  -- the values of a polynomial as numbers
  pub numbers_values : (f : List (Symbol (size h))) (j : ℕ) → j < h.n → get_or (numbers (size h) (values F a f (range 0 h.n))) j 0 ≡ (value F a f j).0
  numbers_values f j l =
      get_or_numbers (size h) (size_pos (modulus_of h) s.field) (values F a f (range 0 h.n)) j
      ∙ ap (λ (x : Symbol (size h)). x.0)
      (ap (λ (l : List (Symbol (size h))). get_or l j F.0f) (map_range (value F a f) 0 h.n) ∙ get_or_from (value F a f) 0 h.n j F.0f l ∙ ap (value F a f) (Nat.zero-add j))

  -- the polynomial of a word
  pub record Polynomial (us : List ℕ) : Type 0 where
    pub f : List (Symbol (size h))
    pub size_is : length f ≡ h.k
    pub word : us ≡ numbers (size h) (values F a f (range 0 h.n))

  pub polynomial : (us : List ℕ) → length us ≡ h.n → all_below (size h) us ≡ true → is_word h us ≡ true → Polynomial us
  polynomial us l b w =
      let (cs, lc, bc, at) = (words_poly h s us l b).0 w in
      record {
        f = lifted h s cs;
        size_is = length_lifted h s cs ∙ lc;
        word = sym at ∙ ap (values_of h) (sym (lifted_numbers h s cs bc)) ∙ values_of_is h s (lifted h s cs);
      }

  pub length_values : (f : List (Symbol (size h))) → length (numbers (size h) (values F a f (range 0 h.n))) ≡ h.n
  length_values f = length_numbers (size h) (values F a f (range 0 h.n)) ∙ length-map (range 0 h.n) (value F a f) ∙ length_range 0 h.n

  -- faults are what the lists differ in
  faults_differ : (y u : ℕ → Symbol (size h)) (ws us : List ℕ) → length ws ≡ h.n → ((j : ℕ) → j < h.n → (y j).0 ≡ get_or ws j 0) → ((j : ℕ) → j < h.n → (u j).0 ≡ get_or us j 0) → length (faults F y u (range 0 h.n)) ≡ differ ws us
  unfolding differ
  faults_differ y u ws us l p q =
      faults_count y u 0 h.n
      ∙ count_ext h.n 0 (λ j. not (eqb (y j).0 (u j).0)) (λ j. not (eqb (get_or ws j 0) (get_or us j 0))) (λ j b c. ap₂ (λ x z. not (eqb x z)) (p j (omega arith)) (q j (omega arith)))
      ∙ ap (λ n. count_from n 0 (λ j. not (eqb (get_or ws j 0) (get_or us j 0)))) (sym l)

  -- the distance of the code: words that differ at no more than n − k nodes are equal
  pub words_apart : (us vs : List ℕ) → length us ≡ h.n → length vs ≡ h.n → all_below (size h) us ≡ true → all_below (size h) vs ≡ true → is_word h us ≡ true → is_word h vs ≡ true → h.k + differ us vs ≤ h.n → us ≡ vs
  words_apart us vs lu lv bu bv wu wv d =
      let p = polynomial us lu bu wu in
      let q = polynomial vs lv bv wv in
      let at : (l : List ℕ) (r : Polynomial l) (j : ℕ) → j < h.n → (value F a r.f j).0 ≡ get_or l j 0 = λ l r j b. sym (ap (λ (x : List ℕ). get_or x j 0) r.word ∙ numbers_values r.f j b) in
      let e : p.f ≡ q.f = agree_equal F a h.n o h.k p.f q.f p.size_is q.size_is (omega (arith, faults_differ (value F a p.f) (value F a q.f) us vs lu (at us p) (at vs q))) in
      p.word ∙ ap (λ (f : List (Symbol (size h))). numbers (size h) (values F a f (range 0 h.n))) e ∙ sym q.word

  module _ (ws : List ℕ) (size_is : length ws ≡ h.n) where
    pub near_word : (us : List ℕ) → Near ws us → is_word h us ≡ true
    unfolding is_near
    near_word us m = (and_parts (is_word h us) (leb (differ ws us) (radius h)) m.passes).0

    pub near_close : (us : List ℕ) → Near ws us → differ ws us ≤ radius h
    unfolding is_near
    near_close us m = leb-true (differ ws us) (radius h) (and_parts (is_word h us) (leb (differ ws us) (radius h)) m.passes).1

    -- at most one word is that near
    pub at_most_one : (us vs : List ℕ) → Near ws us → Near ws vs → us ≡ vs
    at_most_one us vs m q =
        words_apart us vs m.long q.long m.below q.below (near_word us m) (near_word vs q)
        (omega (arith, differ_by h.n ws us vs size_is m.long, near_close us m, near_close vs q, radius_fits))

    -- it is the nearest, and there is one
    pub nearest_is : (us : List ℕ) → Near ws us → (has_near h ws ≡ true) × (nearest h ws ≡ us)
    unfolding has_near nearest
    nearest_is us m =
        let t = any_list_lem (size h) h.n (is_near h ws) us m in
        (t, at_most_one (nearest h ws) us (first_list_lem (size h) h.n (is_near h ws) t) m)

    pub nearest_near : has_near h ws ≡ true → Near ws (nearest h ws)
    unfolding has_near nearest
    nearest_near t = first_list_lem (size h) h.n (is_near h ws) t

    -- symbols that every word that near must be: whether there is one is whether they are one
    pub judged : (us : List ℕ) → length us ≡ h.n → all_below (size h) us ≡ true → ((vs : List ℕ) → Near ws vs → vs ≡ us) → (has_near h ws ≡ is_near h ws us) × (is_near h ws us ≡ true → nearest h ws ≡ us)
    unfolding has_near nearest
    judged us l b only = only_one (size h) h.n (is_near h ws) us l b only

    module _ (below : all_below (size h) ws ≡ true) where
      at_term : (j : ℕ) → j < h.n → (term ws j).0 ≡ get_or ws j 0
      at_term j b = Nat.mod-eq_of_lt (below_at (size h) ws below j (omega arith))

      -- a word that near in the algebra's terms: the values of a polynomial, with no more than (n − k)/2 faults
      pub near_faults : (us : List ℕ) (m : Near ws us) (p : Polynomial us) → length (faults F (term ws) (value F a p.f) (range 0 h.n)) ≤ radius h
      near_faults us m p =
          omega (
            arith,
            near_close us m,
            faults_differ (term ws) (value F a p.f) ws us size_is at_term (λ j b. sym (ap (λ (x : List ℕ). get_or x j 0) p.word ∙ numbers_values p.f j b)),
          )

      pub near_polynomial : (us : List ℕ) → Near ws us → Polynomial us
      near_polynomial us m = polynomial us m.long m.below (near_word us m)
