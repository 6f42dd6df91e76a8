-- The list from the check sums is the list by definition.
use mathlib.Core.Path.{◌≡◌, sym, ap, ◌∙◌}
use mathlib.Core.Bool.{Bool, true, false}
use mathlib.Core.List.{List, map}
use Prim.Native.Nat.{ℕ, zero, suc, ◌+◌, ◌-◌, ◌%◌, ◌≤◌, ◌<◌}
use native.Mathlib.Nat.{zero-add}
use native.Mathlib.Omega.{arith}
use borrow.Author.Tests.{eq-eqb, eqb-true}
use lib.Dec.{eqb}
use lib.ListN.{length, get_or}
use Rattle.lists.specs.Counting.{passing_from}
use Rattle.lists.specs.Numbers.{all_below}
use Rattle.lists.specs.Search.{first_false}
use Rattle.lists.proofs.All.{All-imp, All-both, map_agree}
use Rattle.lists.proofs.Numbers.{below_at, at_below, all_below_lem}
use Rattle.lists.proofs.Passing.{passing_within, passing_pass, passing_ext, passing_most}
use Rattle.lists.proofs.Rows.{get_or_from}
use Rattle.lists.proofs.Search.{search_none, search_passes}
use Rattle.lists.proofs.Cases.{same_test}
use Rattle.field.specs.Fields.{add, sub, mul, power}
use Rattle.field.proofs.Arithmetic.{Arithmetic}
use Rattle.field.proofs.BothKinds.{arithmetic}
use Rattle.field.proofs.Bounds.{power_below}
use Rattle.generator.specs.declared.Header.{Header}
use Rattle.generator.specs.Records.{modulus_of, size, Sound}
use Rattle.generator.specs.Codewords.{check_from, is_word}
use Rattle.check_sums.specs.Inner.Sums.{check_sums}
use Rattle.check_sums.proofs.OneLane.{length_sums}
use Rattle.refusals.specs.Accepted.{IsLane}
use Rattle.mends.specs.Mends.{mend_at, can_mend, mend_nodes, mend_symbols}
use Rattle.mends.specs.Inner.BySums.{first_off, goes_up, up_nodes, mended_at, LaneSums}
use Rattle.mends.proofs.Powers.{root_power}
use Rattle.mends.proofs.Geometric.{sum_below, GoesUp, amount_below, up_word, word_up, word_symbol}
use Rattle.mends.proofs.Meaning.{some_sums, found_word, word_found, nodes_of}

module _ (h : Header) (ws : List ℕ) where
  -- the check sums by place
  sum_place : (e : ℕ) → e < h.n - h.k → get_or (check_sums h ws) e 0 ≡ check_from h (1 + e) 0 ws
  unfolding check_sums
  sum_place e low = get_or_from (λ e. check_from h e 0 ws) 1 (h.n - h.k) e 0 low

  module _ (s : Sound h) (lane : IsLane h ws) where
    sums_below : all_below (size h) (check_sums h ws) ≡ true
    sums_below = at_below (size h) (check_sums h ws) (λ e low. rw (sum_place e (omega (arith, length_sums h ws))) (sum_below h s ws lane (1 + e)))

    module _ (other : is_word h ws ≡ false) where
      -- they can be used
      pub has_sums : LaneSums h ws (check_sums h ws)
      has_sums = record { lane = lane; has = record { some = omega (arith, length_sums h ws, some_sums h ws other); symbols = sums_below } }

      module _ (j : ℕ) (node : j < h.n) where
        abbrev passes : ℕ → Bool
        passes e = eqb (get_or (check_sums h ws) (e + 1) 0) (mul (modulus_of h) (root_power h s j) (get_or (check_sums h ws) e 0))

        up_test : GoesUp h s ws lane j node → goes_up (modulus_of h) (root_power h s j) (check_sums h ws) ≡ true
        unfolding goes_up first_off
        up_test up =
            eq-eqb _ _
            (search_none (length (check_sums h ws) - 1) 0 passes
            (λ e low high.
            let next : 1 + (e + 1) ≡ 1 + e + 1 = omega arith in
            eq-eqb _ _
            (sum_place (e + 1) (omega (arith, length_sums h ws))
            ∙ ap (λ (i : ℕ). check_from h i 0 ws) next
            ∙ up (1 + e) (omega arith) (omega (arith, length_sums h ws))
            ∙ ap (mul (modulus_of h) (root_power h s j)) (sym (sum_place e (omega (arith, length_sums h ws))))))
            ∙ zero-add _)

        test_up : goes_up (modulus_of h) (root_power h s j) (check_sums h ws) ≡ true → GoesUp h s ws lane j node
        unfolding goes_up first_off
        test_up t = go
          where
            at : (e : ℕ) → e + 1 < h.n - h.k → check_from h (1 + (e + 1)) 0 ws ≡ mul (modulus_of h) (root_power h s j) (check_from h (1 + e) 0 ws)
            at e low =
                let end : first_false (length (check_sums h ws) - 1) 0 passes ≡ length (check_sums h ws) - 1 = eqb-true _ _ t in
                sym (sum_place (e + 1) low)
                ∙ eqb-true _ _ (search_passes (length (check_sums h ws) - 1) 0 passes e (omega arith) (omega (arith, end, length_sums h ws)))
                ∙ ap (mul (modulus_of h) (root_power h s j)) (sum_place e (omega arith))

            go : (e : ℕ) → 0 < e → e < h.n - h.k → check_from h (e + 1) 0 ws ≡ mul (modulus_of h) (root_power h s j) (check_from h e 0 ws)
            go zero pos low = absurd (omega arith)
            go (suc e) pos low =
                let here : 1 + e ≡ suc e = omega arith in
                let next : 1 + (e + 1) ≡ suc e + 1 = omega arith in
                rw (next, here) at (at e (omega arith))

        -- a node mends the lane exactly if the sums go up by its power
        test_is : can_mend h ws j ≡ goes_up (modulus_of h) (root_power h s j) (check_sums h ws)
        test_is =
            let held : get_or ws j 0 < size h = below_at (size h) ws lane.symbols j (omega (arith, lane.long)) in
            same_test _ _
            (λ can. let (low, word) = found_word h ws j can in up_test (word_up h s ws lane j node (mend_at h ws j) low word))
            (λ t. word_found h ws j _ ((arithmetic (modulus_of h) s.field).sub_below _ _ held (amount_below h s ws lane j node)) (up_word h s ws lane j node (test_up t)))

        -- and its new symbol
        symbol_is : can_mend h ws j ≡ true → mend_at h ws j ≡ mended_at h ws (check_sums h ws) j
        unfolding mended_at
        symbol_is can =
            let (low, word) = found_word h ws j can in
            word_symbol h s ws lane j node (mend_at h ws j) low word (some_sums h ws other)
            ∙ ap (λ (x : ℕ). sub (modulus_of h) (get_or ws j 0) (mul (modulus_of h) x (root_power h s ((h.n - j) % h.n)))) (sym (sum_place 0 (some_sums h ws other)))

      pub nodes_are : mend_nodes h ws ≡ up_nodes h (check_sums h ws)
      unfolding up_nodes
      nodes_are = nodes_of h ws other ∙ passing_ext h.n 0 _ _ (λ j low high. test_is j (omega arith))

      pub symbols_are : mend_symbols h ws ≡ map (mended_at h ws (check_sums h ws)) (up_nodes h (check_sums h ws))
      unfolding mend_symbols
      symbols_are =
          let can = can_mend h ws in
          map_agree (mend_at h ws) (mended_at h ws (check_sums h ws)) (mend_nodes h ws)
          (rw (nodes_of h ws other)
          (All-imp (λ j. ((0 ≤ j) × (j < 0 + h.n)) × (can j ≡ true)) (λ j. mend_at h ws j ≡ mended_at h ws (check_sums h ws) j)
          (λ j e. symbol_is j (omega (arith, e.0.1)) e.1)
          (passing_from h.n 0 can)
          (All-both (λ j. (0 ≤ j) × (j < 0 + h.n)) (λ j. can j ≡ true) (passing_from h.n 0 can) (passing_within h.n 0 can) (passing_pass h.n 0 can))))
          ∙ ap (map (mended_at h ws (check_sums h ws))) nodes_are

-- the nodes are nodes, and at most n
module _ (h : Header) (sums : List ℕ) where
  pub up_few : length (up_nodes h sums) ≤ h.n
  unfolding up_nodes
  up_few = passing_most h.n 0 _

  pub up_below : all_below h.n (up_nodes h sums) ≡ true
  unfolding up_nodes
  up_below =
      let up : ℕ → Bool = λ j. goes_up (modulus_of h) (power (modulus_of h) h.root j) sums in
      all_below_lem h.n (up_nodes h sums) (All-imp (λ j. (0 ≤ j) × (j < 0 + h.n)) (λ j. j < h.n) (λ j e. omega arith) (passing_from h.n 0 up) (passing_within h.n 0 up))

-- the new symbols are symbols
pub mended_below : (h : Header) → Sound h → (ws sums : List ℕ) → LaneSums h ws sums → (j : ℕ) → j < h.n → mended_at h ws sums j < size h
unfolding mended_at
mended_below h s ws sums a j node =
    let laws : Arithmetic (size h) (add (modulus_of h)) (sub (modulus_of h)) (mul (modulus_of h)) = arithmetic (modulus_of h) s.field in
    laws.sub_below _ _ (below_at (size h) ws a.lane.symbols j (omega (arith, a.lane.long)))
    (laws.mul_below _ _ (below_at (size h) sums a.has.symbols 0 a.has.some) (power_below (modulus_of h) s.field ((h.n - j) % h.n) s.root_below))
