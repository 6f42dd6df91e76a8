-- What the list of a lane means: one symbol at most for each node, how many entries there are, and which.
use mathlib.Core.Path.{◌≡◌, refl, sym, ap, ◌∙◌}
use mathlib.Core.Logic.{◌↔◌}
use mathlib.Core.Bool.{Bool, true, false, not, true≢false}
use mathlib.Core.List.{List, [], ◌∷◌}
use Prim.Native.Nat.{ℕ, zero, suc, ◌+◌, ◌-◌, ◌%◌, ◌≤◌, ◌<◌}
use native.Mathlib.Omega.{arith}
use borrow.Author.Tests.{not-false, ltb-true, ltb-false, lt-ltb}
use lib.Dec.{ltb}
use lib.ListN.{length, get_or, set, length-set, length-map}
use lib.Seq.{set-get_or}
use Rattle.lists.specs.Counting.{passing_from}
use Rattle.lists.specs.Numbers.{is_in}
use Rattle.lists.specs.Rows.{from, range}
use Rattle.lists.specs.Search.{first_false}
use Rattle.std.proofs.lemmas.List.{get_or-map}
use Rattle.lists.proofs.All.{All-at}
use Rattle.lists.proofs.Cases.{by_test}
use Rattle.lists.proofs.Numbers.{below_at, below_set, is_in_place, place_is_in}
use Rattle.lists.proofs.Passing.{Rises, passing_within, passing_pass, passing_place, passing_rises, passing_most}
use Rattle.lists.proofs.Search.{search_fails, search_within}
use Rattle.field.specs.Fields.{add, sub, mul}
use Rattle.field.proofs.Arithmetic.{Arithmetic, zero_below, zero-mul}
use Rattle.field.proofs.BothKinds.{arithmetic}
use Rattle.generator.specs.declared.Header.{Header}
use Rattle.generator.specs.Records.{modulus_of, size, Sound}
use Rattle.generator.specs.Codewords.{checks_from, is_word}
use Rattle.generator.specs.Claims.{Codeword}
use Rattle.generator.proofs.Words.{words_poly}
use Rattle.refusals.specs.Accepted.{IsLane}
use Rattle.mends.specs.Mends.{mend_at, can_mend, mend_nodes, mend_symbols, MendedBy, Mends}
use Rattle.mends.proofs.Sums.{sub_unique}
use Rattle.mends.proofs.Powers.{root_power, root_injective}
use Rattle.mends.proofs.Geometric.{sum_at, sum_below, root_below, amount, amount_below, GoesUp, up_word, word_up, word_symbol}

-- with no check sum every lane is a word
pub no_sums : (h : Header) (ws : List ℕ) → h.n - h.k ≡ 0 → is_word h ws ≡ true
unfolding is_word checks_from
no_sums h ws none = rw none

-- so a lane that is none has some
pub some_sums : (h : Header) (ws : List ℕ) → is_word h ws ≡ false → 0 < h.n - h.k
some_sums h ws other = by_test (ltb 0 (h.n - h.k)) (λ e. ltb-true _ _ e) (λ e. let none : h.n - h.k ≡ 0 = omega (arith, ltb-false 0 (h.n - h.k) e) in absurd (true≢false (sym (no_sums h ws none) ∙ other)))

-- numbers that all pass
passing_all : (f i : ℕ) (p : ℕ → Bool) → ((j : ℕ) → i ≤ j → j < i + f → p j ≡ true) → passing_from f i p ≡ range i f
unfolding passing_from from
passing_all zero i p all = refl
passing_all (suc f) i p all = rw (all i (omega arith) (omega arith)) (ap (λ (l : List ℕ). i ∷ l) (passing_all f (i + 1) p (λ j low high. all j (omega arith) (omega arith))))

module _ (h : Header) (ws : List ℕ) (j : ℕ) where
  -- a symbol that is found makes the lane a word
  pub found_word : can_mend h ws j ≡ true → (mend_at h ws j < size h) × (is_word h (set ws j (mend_at h ws j)) ≡ true)
  unfolding can_mend mend_at
  found_word e =
      let low : first_false (size h) 0 (λ x. not (is_word h (set ws j x))) < size h = ltb-true _ _ e in
      (low, not-false _ (search_fails (size h) 0 (λ x. not (is_word h (set ws j x))) (omega arith)))

  -- and where some symbol does, one is found
  pub word_found : (x : ℕ) → x < size h → is_word h (set ws j x) ≡ true → can_mend h ws j ≡ true
  unfolding can_mend mend_at
  word_found x low word =
      let fails : not (is_word h (set ws j x)) ≡ false = ap not word in
      lt-ltb (first_false (size h) 0 (λ x. not (is_word h (set ws j x)))) (size h) (omega (arith, search_within (size h) 0 (λ x. not (is_word h (set ws j x))) x (omega arith) (omega arith) fails))

-- the list of a lane that is no word
pub nodes_of : (h : Header) (ws : List ℕ) → is_word h ws ≡ false → mend_nodes h ws ≡ passing_from h.n 0 (can_mend h ws)
unfolding mend_nodes
nodes_of h ws other = rw other

pub none_of : (h : Header) (ws : List ℕ) → is_word h ws ≡ true → mend_nodes h ws ≡ []
unfolding mend_nodes
none_of h ws word_is = rw word_is

-- at most n entries
pub mends_few : (h : Header) (ws : List ℕ) → length (mend_nodes h ws) ≤ h.n
mends_few h ws = by_test (is_word h ws) (λ word_is. rw (none_of h ws word_is) (omega arith)) (λ other. rw (nodes_of h ws other) (passing_most h.n 0 (can_mend h ws)))

module _ (h : Header) (s : Sound h) (ws : List ℕ) (lane : IsLane h ws) where
  abbrev p : ℕ
  p = modulus_of h

  abbrev laws : Arithmetic (size h) (add p) (sub p) (mul p)
  laws = arithmetic p s.field

  rises : Rises (mend_nodes h ws)
  rises = by_test (is_word h ws) (λ word_is. rw (none_of h ws word_is) (λ a b l k. absurd (omega arith))) (λ other. rw (nodes_of h ws other) (passing_rises h.n 0 (can_mend h ws)))

  module _ (other : is_word h ws ≡ false) where
    some : 0 < h.n - h.k
    some = some_sums h ws other

    -- the symbol of a node is the one that is listed
    pub one_symbol : (j x : ℕ) → j < h.n → x < size h → is_word h (set ws j x) ≡ true → x ≡ mend_at h ws j
    one_symbol j x node low word =
        let (below, found) = found_word h ws j (word_found h ws j x low word) in
        word_symbol h s ws lane j node x low word some ∙ sym (word_symbol h s ws lane j node (mend_at h ws j) below found some)

    -- it is not what the node holds
    another_symbol : (j x : ℕ) → is_word h (set ws j x) ≡ true → x ≡ get_or ws j 0 → ⊥
    another_symbol j x word e = true≢false (sym word ∙ ap (λ (v : ℕ). is_word h (set ws j v)) e ∙ ap (is_word h) (set-get_or ws j 0) ∙ other)

    -- what is listed passes, and lies below n
    at_place : (u : ℕ) → u < length (mend_nodes h ws) → (get_or (mend_nodes h ws) u 0 < h.n) × (can_mend h ws (get_or (mend_nodes h ws) u 0) ≡ true)
    at_place u inside =
        let nodes = nodes_of h ws other in
        let within : u < length (passing_from h.n 0 (can_mend h ws)) = rw nodes at inside in
        rw nodes (
          let (low, high) = All-at (λ j. (0 ≤ j) × (j < 0 + h.n)) 0 (passing_from h.n 0 (can_mend h ws)) (passing_within h.n 0 (can_mend h ws)) u within in omega arith,
          All-at (λ j. can_mend h ws j ≡ true) 0 (passing_from h.n 0 (can_mend h ws)) (passing_pass h.n 0 (can_mend h ws)) u within,
        )

    listed : (j : ℕ) → (is_in j (mend_nodes h ws) ≡ true) ↔ ((j < h.n) × ((x : ℕ) × (x < size h) × (is_word h (set ws j x) ≡ true)))
    listed j = (
      λ t.
          let (u, inside, is) = is_in_place j (mend_nodes h ws) t in
          let (node, can) = at_place u inside in
          let (low, word) = found_word h ws (get_or (mend_nodes h ws) u 0) can in
          rw (← is) (node, (mend_at h ws (get_or (mend_nodes h ws) u 0), low, word)),
      λ e.
          let (node, (x, low, word)) = e in
          let (u, inside, is) = passing_place h.n 0 (can_mend h ws) j (omega arith) (omega arith) (word_found h ws j x low word) in
          rw (nodes_of h ws other, ← is) (place_is_in (passing_from h.n 0 (can_mend h ws)) u inside),
    )

    -- the sums go up at a listed node
    listed_up : (j : ℕ) (node : j < h.n) → can_mend h ws j ≡ true → GoesUp h s ws lane j node
    listed_up j node can = let (low, word) = found_word h ws j can in word_up h s ws lane j node (mend_at h ws j) low word

    every : h.k + 1 ≡ h.n → mend_nodes h ws ≡ range 0 h.n
    every one =
        nodes_of h ws other
        ∙ passing_all h.n 0 (can_mend h ws)
        (λ j low high.
        let node : j < h.n = omega arith in
        let held : get_or ws j 0 < size h = below_at (size h) ws lane.symbols j (omega (arith, lane.long)) in
        word_found h ws j (sub p (get_or ws j 0) (amount h s ws lane j node)) (laws.sub_below _ _ held (amount_below h s ws lane j node))
        (up_word h s ws lane j node (λ e pos few. absurd (omega arith))))

    -- the first check sum is not zero where the sums go up
    first_some : (j : ℕ) (node : j < h.n) → GoesUp h s ws lane j node → sum_at h s ws lane 1 ≡ 0 → ⊥
    first_some j node up zero_sum =
        let held : get_or ws j 0 < size h = below_at (size h) ws lane.symbols j (omega (arith, lane.long)) in
        let none : amount h s ws lane j node ≡ 0 = ap (λ (x : ℕ). mul p x (root_power h s ((h.n - j) % h.n))) zero_sum ∙ zero-mul laws _ (root_below h s ((h.n - j) % h.n)) in
        let same : sub p (get_or ws j 0) (amount h s ws lane j node) ≡ get_or ws j 0 = ap (sub p (get_or ws j 0)) none ∙ sub_unique h s (get_or ws j 0) 0 (get_or ws j 0) held (zero_below laws) held (laws.add-zero _ held) in
        another_symbol j _ (up_word h s ws lane j node up) same

    -- a factor of what is not zero is known
    cancel : (a b x : ℕ) → a < size h → b < size h → x < size h → (x ≡ 0 → ⊥) → mul p a x ≡ mul p b x → a ≡ b
    cancel a b x ha hb hx nonzero e =
        let (r, hr, is) = laws.invertible x (omega arith) hx in
        let back : (c : ℕ) → c < size h → mul p (mul p c x) r ≡ c = λ c hc. laws.mul_assoc c x r hc hx hr ∙ ap (mul p c) is ∙ laws.mul-one c hc in
        sym (back a ha) ∙ ap (λ (y : ℕ). mul p y r) e ∙ back b hb

    one_node : 2 ≤ h.n - h.k → (i j : ℕ) → i < h.n → j < h.n → can_mend h ws i ≡ true → can_mend h ws j ≡ true → i ≡ j
    one_node two i j hi hj can_i can_j =
        let up_i = listed_up i hi can_i in
        let up_j = listed_up j hj can_j in
        root_injective h s i j hi hj
        (cancel _ _ (sum_at h s ws lane 1) (root_below h s i) (root_below h s j) (sum_below h s ws lane 1) (first_some i hi up_i)
        (sym (up_i 1 (omega arith) (omega arith)) ∙ up_j 1 (omega arith) (omega arith)))

    single : 2 ≤ h.n - h.k → length (mend_nodes h ws) ≤ 1
    single two =
        by_test (ltb 1 (length (mend_nodes h ws)))
        (λ e.
        let more : 1 < length (mend_nodes h ws) = ltb-true _ _ e in
        let first = at_place 0 (omega arith) in
        let second = at_place 1 (omega arith) in
        let same = one_node two _ _ first.0 second.0 first.1 second.1 in
        absurd (omega (arith, rises 0 1 (omega arith) more, same)))
        (λ e. ltb-false _ _ e)

  -- a lane with another symbol is a lane
  set_lane : (j x : ℕ) → x < size h → IsLane h (set ws j x)
  set_lane j x low = record { long = length-set ws j x ∙ lane.long; symbols = below_set (size h) ws j x low lane.symbols }

  -- the test of a lane, and of a lane with another symbol
  word_is : (is_word h ws ≡ true) ↔ Codeword h ws
  word_is = words_poly h s ws lane.long lane.symbols

  set_word : (j x : ℕ) → x < size h → (is_word h (set ws j x) ≡ true) ↔ Codeword h (set ws j x)
  set_word j x low = words_poly h s (set ws j x) (set_lane j x low).long (set_lane j x low).symbols

  fails : (Codeword h ws → ⊥) → is_word h ws ≡ false
  fails none = by_test (is_word h ws) (λ is. absurd (none (word_is.0 is))) (λ other. other)

  -- symbol i of the list is that of node i
  symbol_at_lem : (i : ℕ) → i < length (mend_nodes h ws) → get_or (mend_symbols h ws) i 0 ≡ mend_at h ws (get_or (mend_nodes h ws) i 0)
  unfolding mend_symbols
  symbol_at_lem i inside = get_or-map (mend_at h ws) (mend_nodes h ws) i 0 0 inside

  symbols_long : length (mend_symbols h ws) ≡ length (mend_nodes h ws)
  unfolding mend_symbols
  symbols_long = length-map (mend_nodes h ws) _

  makes : (i : ℕ) → i < length (mend_nodes h ws) → MendedBy h ws (get_or (mend_nodes h ws) i 0) (get_or (mend_symbols h ws) i 0) × (get_or (mend_symbols h ws) i 0 ≡ get_or ws (get_or (mend_nodes h ws) i 0) 0 → ⊥)
  makes i inside =
      let other : is_word h ws ≡ false = by_test (is_word h ws) (λ is. absurd (omega (arith, ap length (none_of h ws is)))) (λ other. other) in
      let j = get_or (mend_nodes h ws) i 0 in
      let (node, can) = at_place other i inside in
      let (low, word) = found_word h ws j can in
      rw (symbol_at_lem i inside) ((node, low, (set_word j (mend_at h ws j) low).0 word), another_symbol other j (mend_at h ws j) word)

  entry : is_word h ws ≡ false → (j x : ℕ) → MendedBy h ws j x → (i : ℕ) × (i < length (mend_nodes h ws)) × (get_or (mend_nodes h ws) i 0 ≡ j) × (get_or (mend_symbols h ws) i 0 ≡ x)
  entry other j x (node, low, code) =
      let word = (set_word j x low).1 code in
      let (i, inside, is) = is_in_place j (mend_nodes h ws) ((listed other j).1 (node, (x, low, word))) in
      (i, inside, is, symbol_at_lem i inside ∙ ap (mend_at h ws) is ∙ sym (one_symbol other j x node low word))

  -- all of it
  pub mends : Mends h ws
  mends =
      record {
        paired = symbols_long;
        makes = makes;
        word = λ code. none_of h ws (word_is.1 code);
        all = λ none. entry (fails none);
        listed = λ none j. (
          λ t. let (node, (x, low, word)) = (listed (fails none) j).0 t in (x, (node, low, (set_word j x low).0 word)),
          λ e. let (x, (node, low, code)) = e in (listed (fails none) j).1 (node, (x, low, (set_word j x low).1 code)),
        );
        one = λ none j x y (node, low, first) (again, below, second).
            one_symbol (fails none) j x node low ((set_word j x low).1 first) ∙ sym (one_symbol (fails none) j y again below ((set_word j y below).1 second));
        rises = rises;
        single = λ two. by_test (is_word h ws) (λ is. rw (none_of h ws is) (omega arith)) (λ other. single other two);
        every = λ one none. every (fails none) one;
        always = λ e. word_is.0 (no_sums h ws (omega arith));
      }
