-- The plain layout of an accepted plan's code: for each message, the word that has its symbols at the nodes 0 to k − 1.
use mathlib.Core.Path.{◌≡◌, refl, sym, ap, ◌∙◌}
use mathlib.Core.Bool.{true}
use mathlib.Core.List.{List}
use Prim.Native.Nat.{ℕ, ◌+◌, ◌<◌, Fin}
use native.Mathlib.Omega.{arith}
use native.Mathlib.Decide.{ℕ_discrete}
use native.Mathlib.Nat.{zero-add}
use borrow.Author.Tests.{eq-eqb}
use lib.ListN.{length, get_or}
use lib.Seq.{ext_get_or}
use Rattle.lists.specs.Numbers.{all_below, is_in, distinct}
use Rattle.lists.specs.Rows.{from, range}
use Rattle.std.proofs.lemmas.Bool.{and_from}
use Rattle.lists.proofs.Numbers.{is_in_below, all_below_lem, all_distinct, at_below}
use Rattle.lists.proofs.Places.{Places-range, map_range}
use Rattle.lists.proofs.Rows.{length_from, get_or_from}
use Rattle.field.specs.Symbols.{Symbol}
use Rattle.field.proofs.Symbols.{symbol, symbol_path, get_or_numbers, numbers_path}
use Rattle.field.proofs.FieldOf.{size_pos}
use Rattle.scheme.specs.Messages.{Message, symbols}
use Rattle.scheme.specs.Schemes.{Scheme}
use Rattle.scheme.proofs.Messages.{length_symbols, get_or_symbols, symbols_inj}
use Rattle.generator.specs.declared.Header.{Header}
use Rattle.generator.specs.Records.{modulus_of, size, Sound}
use Rattle.generator.specs.Codewords.{node_of, encoding, is_word}
use Rattle.generator.specs.Claims.{is_message, are_nodes, at_nodes}
use Rattle.generator.specs.Comparison.{PlainScheme}
use Rattle.generator.proofs.Bounds.{node_from_below}
use Rattle.generator.proofs.Recovery.{message_size, message_below, some_message, one_message}
use Rattle.generator.proofs.Words.{words_encode}
use Rattle.generator.proofs.SchemeOf.{map_is_in, numbers_of, is_the_message}

-- a message whose symbols are the values of f, as a list
symbols_from : {A : Type 0} (f : ℕ → A) (n : ℕ) → symbols n (λ j. f j.0) ≡ from f 0 n
symbols_from f n =
    ext_get_or (f 0) (symbols n (λ j. f j.0)) (from f 0 n) (length_symbols n (λ j. f j.0) ∙ sym (length_from f 0 n))
    (λ i l. let b : i < n = rw length_symbols at l in get_or_symbols n (λ j. f j.0) (i, b) (f 0) ∙ sym (rw zero-add at (get_or_from f 0 n i (f 0) b)))

module _ (h : Header) (s : Sound h) where
  -- the nodes 0 to k − 1
  pub first_nodes : are_nodes h (range 0 h.k) ≡ true
  unfolding are_nodes
  first_nodes =
      let p = Places-range h.n 0 h.k (omega (arith, s.fits)) in
      and_from _ _ (eq-eqb _ h.k p.size) (and_from _ _ (all_below_lem h.n (range 0 h.k) p.low) (all_distinct (range 0 h.k) p.distinct))

  module _ (m : Message (Symbol (size h)) h.k) where
    -- the message of the plan whose word has m at these nodes
    behind : (us : List ℕ) × (is_message h us ≡ true) × (at_nodes h us (range 0 h.k) ≡ numbers_of h s m)
    behind = some_message h s (range 0 h.k) (numbers_of h s m) first_nodes (message_size h _ (is_the_message h s m)) (message_below h _ (is_the_message h s m))

    -- what node j holds
    held : ℕ → ℕ
    held j = node_of h behind.0 j

    -- node r holds symbol r
    held_symbol : (r : Fin h.k) → held r.0 ≡ (m r).0
    unfolding held numbers_of
    held_symbol r =
        let pos = size_pos (modulus_of h) s.field in
        let f = node_of h behind.0 in
        sym (rw zero-add at (get_or_from f 0 h.k r.0 0 r.1))
        ∙ ap (λ (l : List ℕ). get_or l r.0 0) (sym (map_range f 0 h.k) ∙ behind.2)
        ∙ get_or_numbers (size h) pos (symbols h.k m) r.0
        ∙ ap (λ (a : Symbol (size h)). a.0) (get_or_symbols h.k m r (symbol (size h) 0 pos))

    -- the n nodes hold the word
    held_list : symbols h.n (λ j. held j.0) ≡ encoding h behind.0
    unfolding held encoding
    held_list = symbols_from (node_of h behind.0) h.n

    -- its entries are symbols of the field
    held_below : all_below (size h) (encoding h behind.0) ≡ true
    unfolding encoding node_of
    held_below =
        let f = node_of h behind.0 in
        at_below (size h) (from f 0 h.n) (λ i l. let b : i < h.n = rw length_from at l in rw (get_or_from f 0 h.n i 0 b) (node_from_below h s 0 behind.0 (0 + i) (message_below h behind.0 behind.1)))

    -- and it is a word of the code
    held_word : is_word h (encoding h behind.0) ≡ true
    unfolding encoding
    held_word = (words_encode h s (encoding h behind.0) (length_from (node_of h behind.0) 0 h.n) held_below).1 (behind.0, behind.1, refl)

  -- two messages with the same word are equal
  same_word : (m u : Message (Symbol (size h)) h.k) → (behind m).0 ≡ (behind u).0 → m ≡ u
  unfolding numbers_of
  same_word m u e =
      symbols_inj h.k m u
      (numbers_path (size h) (size_pos (modulus_of h) s.field) (symbols h.k m) (symbols h.k u)
      (sym (behind m).2 ∙ ap (λ (us : List ℕ). at_nodes h us (range 0 h.k)) e ∙ (behind u).2))

  -- any k nodes fix the word, and so the message
  fixes : (m u : Message (Symbol (size h)) h.k) (js : List ℕ) → length js ≡ h.k → all_below h.n js ≡ true → distinct js ≡ true → ((j : Fin h.n) → is_in j.0 js ≡ true → held m j.0 ≡ held u j.0) → m ≡ u
  unfolding are_nodes held
  fixes m u js size_is low different e =
      same_word m u
      (one_message h s js (behind m).0 (behind u).0 (and_from _ _ (eq-eqb (length js) h.k size_is) (and_from _ _ low different)) (behind m).1 (behind u).1
      (map_is_in (held m) (held u) js (λ j i. e (j, is_in_below h.n j js low i) i)))

  -- node j holds what the word holds at j
  plain_of : Scheme h.k h.n (Symbol (size h)) (λ j. ℕ)
  plain_of = record { holds = λ m j. held m j.0; same = λ j. ℕ_discrete; fixes = fixes }

  -- a node below k holds the symbol of its number
  holds_symbol : (m : Message (Symbol (size h)) h.k) (j : Fin h.n) (r : Fin h.k) → j.0 ≡ r.0 → plain_of.holds m j ≡ (m r).0
  unfolding plain_of
  holds_symbol m j r e = ap (held m) e ∙ held_symbol m r

  -- the plain layout of the plan's code
  pub plain_scheme : PlainScheme h
  unfolding plain_of
  plain_scheme = record {
    scheme = plain_of;
    systematic = holds_symbol;
    below = λ m. ap (all_below (size h)) (held_list m) ∙ held_below m;
    word = λ m. ap (is_word h) (held_list m) ∙ held_word m;
    plain = λ j r e m u. (
      λ q. symbol_path (size h) (sym (holds_symbol m j r e) ∙ q ∙ holds_symbol u j r e),
      λ q. holds_symbol m j r e ∙ ap (λ (a : Symbol (size h)). a.0) q ∙ sym (holds_symbol u j r e),
    );
  }
