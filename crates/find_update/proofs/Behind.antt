-- The finding from the difference of the two lanes: the row that it begins with, the quotient at the row's first node, and one comparison.
use mathlib.Core.Path.{◌≡◌, sym, ap, ◌∙◌}
use mathlib.Core.Bool.{true, ◌&&◌, true≢false}
use mathlib.Core.List.{List}
use Prim.Native.Nat.{ℕ, ◌<◌}
use native.Mathlib.Nat.{zero-add}
use native.Mathlib.Omega.{arith}
use borrow.Author.Tests.{eq-eqb, eqb-true, eqb-false, ltb-true, lt-ltb}
use lib.Dec.{eqb, ltb}
use lib.ListN.{length, get_or}
use lib.Seq.{ext_get_or}
use Rattle.std.proofs.lemmas.Bool.{and_from, and_parts}
use Rattle.lists.specs.Choice.{pick}
use Rattle.lists.specs.Search.{first_false}
use Rattle.lists.proofs.Cases.{by_test}
use Rattle.lists.proofs.Numbers.{below_at, at_below}
use Rattle.lists.proofs.Rows.{length_from, get_or_from}
use Rattle.lists.proofs.Search.{search_none, search_passes}
use Rattle.field.specs.Fields.{add, sub, mul, inverse}
use Rattle.field.proofs.Arithmetic.{Arithmetic, add_back, add_neg, sub_is}
use Rattle.field.proofs.BothKinds.{arithmetic}
use Rattle.field.proofs.Bounds.{mul_below}
use Rattle.field.proofs.Inverse.{mul_inverse, inverse_below}
use Rattle.generator.specs.declared.Header.{Header}
use Rattle.generator.specs.Records.{modulus_of, size, Sound}
use Rattle.generator.specs.Shifts.{firsts}
use Rattle.generator.specs.Generator.{entry}
use Rattle.generator.proofs.Bounds.{entry_below}
use Rattle.refusals.specs.Accepted.{IsLane}
use Rattle.find_update.specs.declared.Finding.TheVariants.{Unchanged}
use Rattle.find_update.specs.Finding.{finding_of}
use Rattle.find_update.specs.Inner.Starts.{differences, row_starting, first_other, is_multiple, amount_in, update_in}
use Rattle.find_update.proofs.Multiples.{Multiple, first_node, first_entry, row_is}
use Rattle.find_update.proofs.Single.{get_or_added, length_added, nothing_added}
use Rattle.find_update.proofs.Meaning.{finds, finding_added}
use Rattle.blocks.specs.Blocks.{word_added}

module _ (h : Header) (s : Sound h) where
  abbrev p : ℕ
  p = modulus_of h

  abbrev laws : Arithmetic (size h) (add p) (sub p) (mul p)
  laws = arithmetic p s.field

  -- u and what was added make v
  add_difference : (u v : ℕ) → u < size h → v < size h → add p u (sub p v u) ≡ v
  add_difference u v hu hv = laws.add_comm u (sub p v u) hu (laws.sub_below v u hv hu) ∙ laws.sub_add v u hv hu

  -- and u with t less u is t
  difference_add : (u t : ℕ) → u < size h → t < size h → sub p (add p u t) u ≡ t
  difference_add u t hu ht =
      ap (λ (x : ℕ). sub p x u) (laws.add_comm u t hu ht)
      ∙ sub_is laws (add p t u) u (laws.add_below t u ht hu) hu
      ∙ add_back laws t u ht hu

  -- the quotient of a multiple is the factor
  quotient_is : (x e : ℕ) → x < size h → e < size h → (e ≡ 0 → ⊥) → mul p (mul p x e) (inverse p e) ≡ x
  quotient_is x e hx he some =
      laws.mul_assoc x e (inverse p e) hx he (inverse_below p s.field he)
      ∙ ap (mul p x) (mul_inverse p s.field e (omega arith) he)
      ∙ laws.mul-one x hx

  -- the comparison passes at every node just where its end is n
  same_all_lem : (ws : List ℕ) (r x : ℕ) → first_other h ws r x ≡ h.n → (j : ℕ) → j < h.n → get_or ws j 0 ≡ mul p x (entry h r j)
  unfolding first_other
  same_all_lem ws r x e j node = eqb-true _ _ (search_passes h.n 0 (λ j. eqb (get_or ws j 0) (mul p x (entry h r j))) j (omega arith) (omega arith))

  all_same : (ws : List ℕ) (r x : ℕ) → ((j : ℕ) → j < h.n → get_or ws j 0 ≡ mul p x (entry h r j)) → first_other h ws r x ≡ h.n
  unfolding first_other
  all_same ws r x same = search_none h.n 0 _ (λ j low high. eq-eqb _ _ (same j (omega arith))) ∙ zero-add h.n

  -- the quotient is a symbol
  pub amount_symbol : (ws : List ℕ) → IsLane h ws → (r : ℕ) → r < h.k → amount_in h ws r < size h
  unfolding amount_in
  amount_symbol ws lane r row =
      let first = get_or (firsts h) r 0 in
      laws.mul_below _ _ (below_at (size h) ws lane.symbols first (omega (arith, first_node h s r row, lane.long))) (inverse_below p s.field (entry_below h s r first))

  module _ (us vs : List ℕ) (before : IsLane h us) (after : IsLane h vs) where
    first_symbol : (j : ℕ) → j < h.n → get_or us j 0 < size h
    first_symbol j node = below_at (size h) us before.symbols j (omega (arith, before.long))

    second_symbol : (j : ℕ) → j < h.n → get_or vs j 0 < size h
    second_symbol j node = below_at (size h) vs after.symbols j (omega (arith, after.long))

    abbrev ws : List ℕ
    ws = differences h us vs

    -- the difference, node by node
    length_differences : length ws ≡ h.n
    unfolding differences
    length_differences = length_from _ 0 h.n

    get_or_differences : (j : ℕ) → j < h.n → get_or ws j 0 ≡ sub p (get_or vs j 0) (get_or us j 0)
    unfolding differences
    get_or_differences j node = rw zero-add at (get_or_from (λ j. sub p (get_or vs j 0) (get_or us j 0)) 0 h.n j 0 node)

    -- it consists of n symbols
    pub differences_lane : IsLane h ws
    differences_lane =
        record {
          long = length_differences;
          symbols = at_below (size h) ws (λ j l. let node : j < h.n = omega (arith, length_differences) in rw (get_or_differences j node) (laws.sub_below _ _ (second_symbol j node) (first_symbol j node)));
        }

    -- where it is a multiple of a row, adding that leads from the first lane to the second
    multiple_leads : (r x : ℕ) → ((j : ℕ) → j < h.n → get_or ws j 0 ≡ mul p x (entry h r j)) → word_added h r x us ≡ vs
    multiple_leads r x same =
        ext_get_or 0 (word_added h r x us) vs (length_added h s us before r x ∙ sym after.long)
        (λ j l.
        let node : j < h.n = omega (arith, length_added h s us before r x) in
        get_or_added h s us before r x j node
        ∙ ap (add p (get_or us j 0)) (sym (same j node) ∙ get_or_differences j node)
        ∙ add_difference (get_or us j 0) (get_or vs j 0) (first_symbol j node) (second_symbol j node))

    -- and the other way round
    leads_multiple : (r x : ℕ) → x < size h → word_added h r x us ≡ vs → (j : ℕ) → j < h.n → get_or ws j 0 ≡ mul p x (entry h r j)
    leads_multiple r x low e j node =
        get_or_differences j node
        ∙ ap (λ (v : ℕ). sub p v (get_or us j 0)) (ap (λ (l : List ℕ). get_or l j 0) (sym e) ∙ get_or_added h s us before r x j node)
        ∙ difference_add (get_or us j 0) (mul p x (entry h r j)) (first_symbol j node) (mul_below p s.field low (entry_below h s r j))

    -- the lanes are equal just where the difference is zero at every node
    zero_equal : first_false h.n 0 (λ j. eqb (get_or ws j 0) 0) ≡ h.n → us ≡ vs
    zero_equal e =
        ext_get_or 0 us vs (before.long ∙ sym after.long)
        (λ j l.
        let node : j < h.n = omega (arith, before.long) in
        let zero = eqb-true _ _ (search_passes h.n 0 (λ j. eqb (get_or ws j 0) 0) j (omega arith) (omega arith)) in
        sym (laws.add-zero (get_or us j 0) (first_symbol j node))
        ∙ ap (add p (get_or us j 0)) (sym zero ∙ get_or_differences j node)
        ∙ add_difference (get_or us j 0) (get_or vs j 0) (first_symbol j node) (second_symbol j node))

    equal_zero : us ≡ vs → first_false h.n 0 (λ j. eqb (get_or ws j 0) 0) ≡ h.n
    equal_zero e =
        search_none h.n 0 _
        (λ j low high.
        let node : j < h.n = omega arith in
        eq-eqb _ 0 (get_or_differences j node ∙ ap (λ (l : List ℕ). sub p (get_or l j 0) (get_or us j 0)) (sym e) ∙ sub_is laws _ _ (first_symbol j node) (first_symbol j node) ∙ add_neg laws _ (first_symbol j node)))
        ∙ zero-add h.n

    -- the row that it begins with
    abbrev row : ℕ
    row = row_starting h ws

    module _ (apart : us ≡ vs → ⊥) where
      -- what leads from the first lane to the second is the row that the difference begins with, and the quotient
      behind : (r x : ℕ) → r < h.k → x < size h → word_added h r x us ≡ vs → (row ≡ r) × (amount_in h ws r ≡ x)
      unfolding amount_in
      behind r x inside low e =
          let same = leads_multiple r x low e in
          let some : x ≡ 0 → ⊥ = λ z. apart (sym (nothing_added h s us before r) ∙ ap (λ (a : ℕ). word_added h r a us) (sym z) ∙ e) in
          let m : Multiple h r x ws = record { long = length_differences; row = inside; factor = low; some = some; holds = same } in
          let first = get_or (firsts h) r 0 in (
            row_is h s r x ws m,
            ap (λ (a : ℕ). mul p a (inverse p (entry h r first))) (same first (first_node h s r inside)) ∙ quotient_is x (entry h r first) low (entry_below h s r first) (first_entry h s r inside),
          )

      -- the comparison passes there
      passes : (r x : ℕ) → r < h.k → x < size h → word_added h r x us ≡ vs → (ltb row h.k && is_multiple h ws row (amount_in h ws row)) ≡ true
      unfolding is_multiple
      passes r x low small e =
          let (same, amount) = behind r x low small e in
          rw (same, amount) (and_from _ _ (lt-ltb r h.k low) (eq-eqb _ h.n (all_same ws r x (leads_multiple r x small e))))

      -- so the finding is the update in the difference
      pub update_found : finding_of h us vs ≡ update_in h ws
      unfolding update_in is_multiple
      update_found =
          by_test (ltb row h.k && is_multiple h ws row (amount_in h ws row))
          (λ t.
          let low = ltb-true row h.k (and_parts (ltb row h.k) _ t).0 in
          let same = same_all_lem ws row (amount_in h ws row) (eqb-true _ h.n (and_parts (ltb row h.k) _ t).1) in
          rw t (finding_added h s us vs before after apart row (amount_in h ws row) low (amount_symbol ws differences_lane row low) (multiple_leads row (amount_in h ws row) same)))
          (λ t. rw t ((finds h s us vs before after).none.1 (apart, λ r x low small e. true≢false (sym (passes r x low small e) ∙ t))))

    -- the finding, from the difference alone
    pub finding_is : finding_of h us vs ≡ pick (eqb (first_false h.n 0 (λ j. eqb (get_or ws j 0) 0)) h.n) Unchanged (update_in h ws)
    finding_is =
        by_test (eqb (first_false h.n 0 (λ j. eqb (get_or ws j 0) 0)) h.n)
        (λ t. rw t ((finds h s us vs before after).unchanged.1 (zero_equal (eqb-true _ h.n t))))
        (λ t. rw t (update_found (λ e. eqb-false _ h.n t (equal_zero e))))
