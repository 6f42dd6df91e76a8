-- Changing one symbol of a message: what each node then holds, and how many nodes are altered.
use mathlib.Core.Path.{◌≡◌, refl, sym, ap, ap₂, ◌∙◌}
use mathlib.Core.Bool.{true, not, not-not}
use mathlib.Core.List.{List, [], ◌∷◌, map}
use Prim.Native.Nat.{ℕ, zero, suc, ◌+◌, ◌-◌, ◌%◌, ◌<◌}
use native.Mathlib.Omega.{arith}
use native.Mathlib.Nat.{le_of_eq, zero-add}
use borrow.Author.Tests.{eq-eqb, ne_eqb, eqb-true, eqb-false}
use lib.Dec.{eqb, ltb}
use lib.ListN.{length, get_or, set, length-set}
use Rattle.lists.specs.Rows.{from}
use Rattle.lists.specs.Counting.{count_from, differ}
use Rattle.lists.proofs.All.{All-at}
use Rattle.lists.proofs.Cases.{by_test}
use Rattle.lists.proofs.Count.{count_ext}
use Rattle.lists.proofs.Numbers.{below_all, below_set}
use Rattle.lists.proofs.Rows.{get_or_from, length_from}
use Rattle.algebra.specs.Powers.{pow}
use Rattle.algebra.proofs.Poly.{eval}
use Rattle.algebra.proofs.Ring.{mul-zero}
use Rattle.algebra.proofs.Changes.{comb_set, change_zero}
use Rattle.algebra.proofs.BasePolynomial.{base}
use Rattle.algebra.proofs.Nodes.{node}
use Rattle.field.specs.Fields.{add, sub, mul}
use Rattle.field.specs.Symbols.{Symbol, numbers}
use Rattle.field.proofs.Symbols.{symbol, symbol_path, get_or_numbers}
use Rattle.field.proofs.FieldOf.{size_pos, number_sub}
use Rattle.generator.specs.declared.Header.{Header}
use Rattle.generator.specs.Records.{modulus_of, size, distance, Sound}
use Rattle.generator.specs.Shifts.{shifts}
use Rattle.generator.specs.Generator.{entry}
use Rattle.generator.specs.Codewords.{node_of, encoding}
use Rattle.generator.specs.Claims.{is_message}
use Rattle.generator.proofs.Sound.{field_for, root_for, weight_fits}
use Rattle.generator.proofs.Windows.{row_nodes}
use Rattle.generator.proofs.Shifts.{shifts_length}
use Rattle.generator.proofs.Bridge.{entry_at_is, node_of_is}
use Rattle.generator.proofs.Entries.{row_weight}
use Rattle.generator.proofs.Recovery.{lifted, lifted_numbers, length_lifted, message_size, message_below, message_is}

-- a map passes over a replaced element
pub map_set : {A B : Type 0} (f : A → B) (xs : List A) (i : ℕ) (x : A) → map f (set xs i x) ≡ set (map f xs) i (f x)
map_set f [] i x = refl
map_set f (y ∷ xs) zero x = refl
map_set f (y ∷ xs) (suc i) x = ap (λ l. f y ∷ l) (map_set f xs i x)

module _ (h : Header) (s : Sound h) where
  -- a message with one symbol replaced is a message
  pub set_message : (ms : List ℕ) (r x : ℕ) → is_message h ms ≡ true → x < size h → is_message h (set ms r x) ≡ true
  set_message ms r x m low = message_is h (set ms r x) (length-set ms r x ∙ message_size h ms m) (below_set (size h) ms r x low (message_below h ms m))

  -- a symbol of a message is below the field's size
  pub message_symbol : (ms : List ℕ) (r : ℕ) → is_message h ms ≡ true → r < h.k → get_or ms r 0 < size h
  message_symbol ms r m l = All-at (λ x. x < size h) 0 ms (below_all (size h) ms (message_below h ms m)) r (omega (arith, message_size h ms m))

  module _ (ms : List ℕ) (r x : ℕ) (m : is_message h ms ≡ true) (row : r < h.k) (low : x < size h) where
    -- the message and the new symbol in the algebra's terms
    M : List (Symbol (size h))
    M = lifted h s ms

    X : Symbol (size h)
    X = symbol (size h) x low

    size_M : length M ≡ h.k
    unfolding M
    size_M = length_lifted h s ms ∙ message_size h ms m

    numbers_M : numbers (size h) M ≡ ms
    unfolding M
    numbers_M = lifted_numbers h s ms (message_below h ms m)

    numbers_set : numbers (size h) (set M r X) ≡ set ms r x
    unfolding X
    numbers_set = map_set (λ (a : Symbol (size h)). a.0) M r X ∙ ap (λ (l : List ℕ). set l r x) numbers_M

    old : Symbol (size h)
    old = get_or M r (field_for h s).0f

    number_old : old.0 ≡ get_or ms r 0
    unfolding old
    number_old = sym (get_or_numbers (size h) (size_pos (modulus_of h) s.field) M r) ∙ ap (λ (l : List ℕ). get_or l r 0) numbers_M

    term : ℕ → Symbol (size h)
    term j = eval (field_for h s) (base (field_for h s) (root_for h s) (h.k - 1)) (pow (field_for h s) (root_for h s) (j + get_or (shifts h) r 0 + (h.k - 1)))

    entry_is : (j : ℕ) → entry h r j ≡ (term j).0
    unfolding entry term
    entry_is j = entry_at_is h s (get_or (shifts h) r 0) j

    node_m : List (Symbol (size h)) → ℕ → Symbol (size h)
    node_m ms j = node (field_for h s) (root_for h s) (h.k - 1) (h.k - 1) (shifts h) ms j

    rows : length (shifts h) ≡ h.k
    rows = shifts_length h.n h.k s.some s.fits

    -- the node's new contents as a symbol
    node_set : (j : ℕ) → node_m (set M r X) j ≡ (field_for h s).add (node_m M j) ((field_for h s).mul ((field_for h s).add X ((field_for h s).neg old)) (term j))
    unfolding node_m node old term
    node_set j =
        comb_set (field_for h s) (λ t. eval (field_for h s) (base (field_for h s) (root_for h s) (h.k - 1)) (pow (field_for h s) (root_for h s) (j + t + (h.k - 1)))) M (shifts h) r X 0 (omega (arith, size_M)) (omega (arith, rows))

    old_node : (j : ℕ) → node_of h ms j ≡ (node_m M j).0
    unfolding node_m
    old_node j = ap (λ (l : List ℕ). node_of h l j) (sym numbers_M) ∙ node_of_is h s M j (le_of_eq (size_M ∙ sym rows))

    new_node : (j : ℕ) → node_of h (set ms r x) j ≡ (node_m (set M r X) j).0
    unfolding node_m
    new_node j = ap (λ (l : List ℕ). node_of h l j) (sym numbers_set) ∙ node_of_is h s (set M r X) j (le_of_eq (length-set M r X ∙ size_M ∙ sym rows))

    -- the change adds (new − old) times the entry
    pub node_change : (j : ℕ) → node_of h (set ms r x) j ≡ add (modulus_of h) (node_of h ms j) (mul (modulus_of h) (sub (modulus_of h) x (get_or ms r 0)) (entry h r j))
    unfolding X
    node_change j =
        new_node j
        ∙ ap (λ (a : Symbol (size h)). a.0) (node_set j)
        ∙ ap₂ (add (modulus_of h)) (sym (old_node j)) (ap₂ (mul (modulus_of h)) (number_sub (modulus_of h) s.field X old ∙ ap (sub (modulus_of h) x) number_old) (sym (entry_is j)))

    module _ (other : x ≡ get_or ms r 0 → ⊥) where
      -- a node holds the same just where the entry is zero
      same_zero : (j : ℕ) → node_of h ms j ≡ node_of h (set ms r x) j → entry h r j ≡ 0
      unfolding X
      same_zero j e =
          entry_is j
          ∙ ap (λ (a : Symbol (size h)). a.0)
          (change_zero (field_for h s) (node_m M j) X old (term j) (λ q. other (ap (λ (a : Symbol (size h)). a.0) q ∙ number_old))
          (symbol_path (size h) (sym (old_node j) ∙ e ∙ new_node j) ∙ node_set j))

      zero_same : (j : ℕ) → entry h r j ≡ 0 → node_of h ms j ≡ node_of h (set ms r x) j
      zero_same j e =
          let F = field_for h s in
          let z : term j ≡ F.0f = symbol_path (size h) (sym (entry_is j) ∙ e) in
          old_node j ∙ sym (new_node j ∙ ap (λ (a : Symbol (size h)). a.0) (node_set j ∙ ap (λ (y : Symbol (size h)). F.add (node_m M j) (F.mul (F.add X (F.neg old)) y)) z ∙ ap (F.add (node_m M j)) (mul-zero F (F.add X (F.neg old))) ∙ F.add-zero (node_m M j)))

      -- the two tests agree
      pub altered_entry : (j : ℕ) → eqb (node_of h ms j) (node_of h (set ms r x) j) ≡ eqb (entry h r j) 0
      altered_entry j =
          by_test (eqb (entry h r j) 0)
          (λ t. eq-eqb _ _ (zero_same j (eqb-true _ 0 t)) ∙ sym t)
          (λ t. ne_eqb _ _ (λ e. eqb-false _ 0 t (same_zero j e)) ∙ sym t)

      -- exactly d nodes are altered
      pub alters : differ (encoding h ms) (encoding h (set ms r x)) ≡ distance h
      unfolding differ encoding
      alters =
          ap (λ (f : ℕ). count_from f 0 (λ i. not (eqb (get_or (from (node_of h ms) 0 h.n) i 0) (get_or (from (node_of h (set ms r x)) 0 h.n) i 0)))) (length_from (node_of h ms) 0 h.n)
          ∙ count_ext h.n 0 _ (λ j. ltb ((j + get_or (shifts h) r 0) % h.n) (distance h))
          (λ j l u. ap not (ap₂ eqb (at ms j (omega arith)) (at (set ms r x) j (omega arith)) ∙ altered_entry j ∙ row_weight h s r j) ∙ not-not (ltb ((j + get_or (shifts h) r 0) % h.n) (distance h)))
          ∙ row_nodes h.n (distance h) (get_or (shifts h) r 0) (omega (arith, s.two)) (weight_fits h s)
        where
          at : (us : List ℕ) (j : ℕ) → j < h.n → get_or (from (node_of h us) 0 h.n) j 0 ≡ node_of h us j
          at us j l = get_or_from (node_of h us) 0 h.n j 0 l ∙ ap (node_of h us) (zero-add j)
