-- At most one symbol and amount lead from a lane to another one, and the amount leads back.
use mathlib.Core.Path.{◌≡◌, sym, ap, ◌∙◌}
use mathlib.Core.List.{List}
use mathlib.Core.Logic.{by_cases}
use Prim.Native.Nat.{ℕ, ◌<◌}
use native.Mathlib.Decide.{ℕ_discrete}
use native.Mathlib.Nat.{zero-add}
use native.Mathlib.Omega.{arith}
use lib.ListN.{length, get_or, set, replicate, length-replicate, get_or-replicate}
use lib.Seq.{ext_get_or, get_or-set_same, get_or-set_other}
use Rattle.lists.specs.Rows.{range}
use Rattle.lists.proofs.All.{All-at, map_agree, All-of}
use Rattle.lists.proofs.Numbers.{below_all}
use Rattle.lists.proofs.Rows.{length_from, get_or_from}
use Rattle.field.specs.Fields.{add, sub, mul}
use Rattle.field.proofs.Arithmetic.{Arithmetic, zero_below, add_back, sub_is, zero-mul}
use Rattle.field.proofs.BothKinds.{arithmetic}
use Rattle.field.proofs.Bounds.{mul_below, add_below}
use Rattle.generator.specs.declared.Header.{Header}
use Rattle.generator.specs.Records.{modulus_of, size, Sound}
use Rattle.generator.specs.Generator.{entry}
use Rattle.generator.specs.Codewords.{node_of}
use Rattle.generator.proofs.Bounds.{entry_below}
use Rattle.generator.proofs.Changes.{node_change, set_message}
use Rattle.generator.proofs.Costs.{zero_message}
use Rattle.generator.proofs.PlainLayout.{first_nodes}
use Rattle.generator.proofs.Recovery.{one_message}
use Rattle.refusals.specs.Accepted.{IsLane}
use Rattle.find_update.specs.Finding.{taken_away}
use Rattle.blocks.specs.Blocks.{word_added}

module _ (h : Header) (s : Sound h) where
  abbrev p : ℕ
  p = modulus_of h

  abbrev laws : Arithmetic (size h) (add p) (sub p) (mul p)
  laws = arithmetic p s.field

  -- a symbol less 0 is the symbol
  less_zero : (x : ℕ) → x < size h → sub p x 0 ≡ x
  less_zero x low =
      sym (laws.add-zero (sub p x 0) (laws.sub_below x 0 low (zero_below laws))) ∙ laws.sub_add x 0 low (zero_below laws)

  -- what is added to the same symbol with the same sum is the same
  same_added : (u a b : ℕ) → u < size h → a < size h → b < size h → add p u a ≡ add p u b → a ≡ b
  same_added u a b hu ha hb e =
      sym (add_back laws a u ha hu)
      ∙ ap (λ (x : ℕ). add p x (sub p 0 u)) (laws.add_comm a u ha hu ∙ e ∙ laws.add_comm u b hu hb)
      ∙ add_back laws b u hb hu

  -- x times an entry is a symbol
  term_below : (r x j : ℕ) → x < size h → mul p x (entry h r j) < size h
  term_below r x j low = mul_below p s.field low (entry_below h s r j)

  -- equal multiples of rows are of one row and by one number
  same_multiples : (r x q y : ℕ) → r < h.k → q < h.k → x < size h → y < size h → (x ≡ 0 → ⊥) → ((j : ℕ) → j < h.n → mul p x (entry h r j) ≡ mul p y (entry h q j)) → (r ≡ q) × (x ≡ y)
  same_multiples r x q y hr hq hx hy some same =
      by_cases (ℕ_discrete r q)
      (λ e. (e, sym (at_own r x hr) ∙ ap (λ (l : List ℕ). get_or l r 0) one ∙ ap (λ (i : ℕ). get_or (set zeros q y) i 0) e ∙ at_own q y hq))
      (λ n. absurd (some (sym (at_own r x hr) ∙ ap (λ (l : List ℕ). get_or l r 0) one ∙ get_or-set_other zeros q r y 0 n ∙ get_or-replicate h.k r 0 0 hr)))
    where
      zeros : List ℕ
      zeros = replicate h.k 0

      at_own : (i z : ℕ) → i < h.k → get_or (set zeros i z) i 0 ≡ z
      at_own i z hi = get_or-set_same zeros i z 0 (omega (arith, length-replicate {A = ℕ} h.k 0))

      changed : (i z : ℕ) → i < h.k → z < size h → (j : ℕ) → node_of h (set zeros i z) j ≡ add p (node_of h zeros j) (mul p z (entry h i j))
      changed i z hi hz j =
          node_change h s zeros i z (zero_message h s) hi hz j
          ∙ ap (λ (a : ℕ). add p (node_of h zeros j) (mul p a (entry h i j))) (ap (sub p z) (get_or-replicate h.k i 0 0 hi) ∙ less_zero z hz)

      one : set zeros r x ≡ set zeros q y
      one =
          one_message h s (range 0 h.k) (set zeros r x) (set zeros q y) (first_nodes h s)
          (set_message h s zeros r x (zero_message h s) hx) (set_message h s zeros q y (zero_message h s) hy)
          (map_agree (node_of h (set zeros r x)) (node_of h (set zeros q y)) (range 0 h.k)
          (All-of (λ j. node_of h (set zeros r x) j ≡ node_of h (set zeros q y) j) 0 (range 0 h.k) (λ i b. same_at i b)))
        where
          same_at : (i : ℕ) → i < length (range 0 h.k) → node_of h (set zeros r x) (get_or (range 0 h.k) i 0) ≡ node_of h (set zeros q y) (get_or (range 0 h.k) i 0)
          same_at i b =
              let low : i < h.k = omega (arith, length_from (λ x. x) 0 h.k) in
              let at : get_or (range 0 h.k) i 0 ≡ i = get_or_from (λ x. x) 0 h.k i 0 low ∙ zero-add i in
              rw at (changed r x hr hx i ∙ ap (add p (node_of h zeros i)) (same i (omega (arith, s.fits))) ∙ sym (changed q y hq hy i))

  module _ (us : List ℕ) (lane : IsLane h us) where
    symbol_at_lem : (j : ℕ) → j < h.n → get_or us j 0 < size h
    symbol_at_lem j node = All-at (λ x. x < size h) 0 us (below_all (size h) us lane.symbols) j (omega (arith, lane.long))

    -- what node j holds after the addition
    pub get_or_added : (r x j : ℕ) → j < h.n → get_or (word_added h r x us) j 0 ≡ add p (get_or us j 0) (mul p x (entry h r j))
    unfolding word_added
    get_or_added r x j node = rw zero-add at (get_or_from (λ j. add p (get_or us j 0) (mul p x (entry h r j))) 0 h.n j 0 node)

    pub length_added : (r x : ℕ) → length (word_added h r x us) ≡ h.n
    unfolding word_added
    length_added r x = length_from (λ j. add p (get_or us j 0) (mul p x (entry h r j))) 0 h.n

    -- two additions with the same result are the same, where something is added
    pub one_addition : (r x q y : ℕ) → r < h.k → q < h.k → x < size h → y < size h → (x ≡ 0 → ⊥) → word_added h r x us ≡ word_added h q y us → (r ≡ q) × (x ≡ y)
    one_addition r x q y hr hq hx hy some e =
        same_multiples r x q y hr hq hx hy some
        (λ j node.
        same_added (get_or us j 0) (mul p x (entry h r j)) (mul p y (entry h q j)) (symbol_at_lem j node) (term_below r x j hx) (term_below q y j hy)
        (sym (get_or_added r x j node) ∙ ap (λ (l : List ℕ). get_or l j 0) e ∙ get_or_added q y j node))

    -- nothing added alters nothing
    pub nothing_added : (r : ℕ) → word_added h r 0 us ≡ us
    nothing_added r =
        ext_get_or 0 (word_added h r 0 us) us (length_added r 0 ∙ sym lane.long)
        (λ j b.
        let node : j < h.n = omega (arith, length_added r 0) in
        get_or_added r 0 j node ∙ ap (add p (get_or us j 0)) (zero-mul laws (entry h r j) (entry_below h s r j)) ∙ laws.add-zero (get_or us j 0) (symbol_at_lem j node))

    -- what was added is taken away again
    pub taken_back : (r x : ℕ) → x < size h → taken_away h r x (word_added h r x us) ≡ us
    unfolding taken_away
    taken_back r x low =
        ext_get_or 0 (taken_away h r x (word_added h r x us)) us (length_from back 0 h.n ∙ sym lane.long)
        (λ j b.
        let node : j < h.n = omega (arith, length_from back 0 h.n) in
        rw zero-add at (get_or_from back 0 h.n j 0 node)
        ∙ ap (λ (a : ℕ). sub p a (mul p x (entry h r j))) (get_or_added r x j node)
        ∙ sub_is laws _ _ (add_below p s.field (symbol_at_lem j node) (term_below r x j low)) (term_below r x j low)
        ∙ add_back laws (get_or us j 0) (mul p x (entry h r j)) (symbol_at_lem j node) (term_below r x j low))
      where
        back : ℕ → ℕ
        back j = sub p (get_or (word_added h r x us) j 0) (mul p x (entry h r j))
