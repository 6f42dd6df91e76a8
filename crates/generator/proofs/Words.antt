-- The words of the code: zero check sums, values of polynomials of degree below k, encodings of messages.
use mathlib.Core.Path.{◌≡◌, refl, sym, ap, ◌∙◌}
use mathlib.Core.Logic.{◌↔◌}
use mathlib.Core.Bool.{true}
use mathlib.Core.List.{List, map}
use Prim.Native.Nat.{ℕ, zero, suc, ◌+◌, ◌-◌, ◌≤◌, ◌<◌}
use native.Mathlib.Omega.{arith}
use native.Mathlib.Nat.{le-suc_iff}
use mathlib.Core.Logic.{⊎_elim}
use borrow.Author.Tests.{eqb-true, eq-eqb}
use lib.Dec.{eqb}
use lib.ListN.{length}
use Rattle.lists.specs.Rows.{range}
use Rattle.lists.specs.Numbers.{all_below}
use Rattle.std.proofs.lemmas.Bool.{and_from, and_parts}
use Rattle.lists.proofs.Numbers.{at_below}
use Rattle.lists.proofs.Rows.{length_from, get_or_from}
use Rattle.algebra.proofs.Poly.{values}
use Rattle.algebra.proofs.Nodes.{node, words}
use Rattle.algebra.proofs.Parity.{check, parity}
use Rattle.field.specs.Symbols.{Symbol, numbers}
use Rattle.field.proofs.Symbols.{numbers_below, length_numbers, numbers_path, symbol_path}
use Rattle.field.proofs.FieldOf.{size_pos}
use Rattle.generator.specs.declared.Header.{Header}
use Rattle.generator.specs.Records.{modulus_of, size, Sound}
use Rattle.generator.specs.Shifts.{shifts}
use Rattle.generator.specs.Codewords.{node_of, encoding, values_of, check_from, checks_from, is_word}
use Rattle.generator.specs.Claims.{is_message, Codeword}
use Rattle.generator.proofs.Bounds.{node_from_below}
use Rattle.generator.proofs.Sound.{field_for, root_for, root_order}
use Rattle.generator.proofs.Bridge.{values_of_is, check_from_is, encoding_map}
use Rattle.generator.proofs.Recovery.{the_code, lifted, lifted_numbers, length_lifted, message_size, message_below, numbers_message, held}

-- the test says that each check sum from 1 to e is zero
pub checks_zero : (e : ℕ) (h : Header) (ws : List ℕ) → checks_from e h ws ≡ true → (i : ℕ) → 0 < i → i ≤ e → check_from h i 0 ws ≡ 0
unfolding checks_from
checks_zero zero h ws t i pos low = absurd (omega arith)
checks_zero (suc e) h ws t i pos low =
    ⊎_elim
    (λ l. checks_zero e h ws (and_parts (eqb (check_from h (suc e) 0 ws) 0) _ t).1 i pos l)
    (λ q. rw q (eqb-true _ 0 (and_parts _ (checks_from e h ws) t).0))
    (le-suc_iff.0 low)

pub zero_checks : (e : ℕ) (h : Header) (ws : List ℕ) → ((i : ℕ) → 0 < i → i ≤ e → check_from h i 0 ws ≡ 0) → checks_from e h ws ≡ true
unfolding checks_from
zero_checks zero h ws z = refl
zero_checks (suc e) h ws z = and_from _ _ (eq-eqb _ 0 (z (suc e) (omega arith) (omega arith))) (zero_checks e h ws (λ i p l. z i p (omega arith)))

module _ (h : Header) (s : Sound h) where
  -- the polynomial's values, in the algebra's terms
  abbrev Polynomial : List (Symbol (size h)) → Type 0
  Polynomial ws = (f : List (Symbol (size h))) × (length f ≡ h.k) × (values (field_for h s) (root_for h s) f (range 0 h.n) ≡ ws)

  -- the test by check sums, in the algebra's terms
  word_polynomial : (ws : List (Symbol (size h))) → length ws ≡ h.n → (is_word h (numbers (size h) ws) ≡ true) ↔ Polynomial ws
  unfolding is_word
  word_polynomial ws l = (
    λ t. both.0 (λ e p q. symbol_path (size h) (sym (sum e) ∙ checks_zero (h.n - h.k) h (numbers (size h) ws) t e p q)),
    λ f. zero_checks (h.n - h.k) h (numbers (size h) ws) (λ e p q. sum e ∙ ap (λ (x : Symbol (size h)). x.0) (both.1 f e p q)),
  )
    where
      both : ((e : ℕ) → 0 < e → e ≤ h.n - h.k → check (field_for h s) (root_for h s) e ws (range 0 h.n) ≡ (field_for h s).0f) ↔ Polynomial ws
      both = parity (field_for h s) (root_for h s) h.n (root_order h s) h.k (h.n - h.k) (omega (arith, s.fits)) ws l

      sum : (e : ℕ) → check_from h e 0 (numbers (size h) ws) ≡ (check (field_for h s) (root_for h s) e ws (range 0 h.n)).0
      sum e = check_from_is h s e 0 ws ∙ ap (λ (x : ℕ). (check (field_for h s) (root_for h s) e ws (range 0 x)).0) l

  -- the same of a lane of numbers
  lane_polynomial : (ws : List ℕ) → length ws ≡ h.n → all_below (size h) ws ≡ true → (is_word h ws ≡ true) ↔ Polynomial (lifted h s ws)
  lane_polynomial ws l b =
      let is = lifted_numbers h s ws b in
      let test = word_polynomial (lifted h s ws) (length_lifted h s ws ∙ l) in
      (λ t. test.0 (ap (is_word h) is ∙ t), λ f. ap (is_word h) (sym is) ∙ test.1 f)

  -- words are the values of polynomials of degree below k
  pub words_poly : (ws : List ℕ) → length ws ≡ h.n → all_below (size h) ws ≡ true → (is_word h ws ≡ true) ↔ Codeword h ws
  words_poly ws l b = (to, back)
    where
      to : is_word h ws ≡ true → Codeword h ws
      to t =
          let (f, size_is, at) = (lane_polynomial ws l b).0 t in
          (numbers (size h) f, length_numbers (size h) f ∙ size_is, numbers_below (size h) f, values_of_is h s f ∙ ap (numbers (size h)) at ∙ lifted_numbers h s ws b)

      back : Codeword h ws → is_word h ws ≡ true
      back (cs, size_is, low, at) =
          (lane_polynomial ws l b).1 (lifted h s cs, length_lifted h s cs ∙ size_is, numbers_path (size h) (size_pos (modulus_of h) s.field) _ (lifted h s ws) (sym (values_of_is h s (lifted h s cs)) ∙ ap (values_of h) (lifted_numbers h s cs low) ∙ at ∙ sym (lifted_numbers h s ws b)))

  -- words are the encodings of messages
  pub words_encode : (ws : List ℕ) → length ws ≡ h.n → all_below (size h) ws ≡ true → (is_word h ws ≡ true) ↔ ((ms : List ℕ) × (is_message h ms ≡ true) × (encoding h ms ≡ ws))
  words_encode ws l b = (to, back)
    where
      both : ((ms : List (Symbol (size h))) × (length ms ≡ h.k) × (map (node (field_for h s) (root_for h s) (h.k - 1) (h.k - 1) (shifts h) ms) (range 0 h.n) ≡ lifted h s ws)) ↔ Polynomial (lifted h s ws)
      both = words (field_for h s) (the_code h s) (h.k - 1) (range 0 h.n) (lifted h s ws)

      to : is_word h ws ≡ true → (ms : List ℕ) × (is_message h ms ≡ true) × (encoding h ms ≡ ws)
      to t =
          let (ms, size_is, at) = both.1 ((lane_polynomial ws l b).0 t) in
          (numbers (size h) ms, numbers_message h s ms size_is, encoding_map h s (numbers (size h) ms) ∙ held h s ms (range 0 h.n) size_is ∙ ap (numbers (size h)) at ∙ lifted_numbers h s ws b)

      back : (ms : List ℕ) × (is_message h ms ≡ true) × (encoding h ms ≡ ws) → is_word h ws ≡ true
      back (ms, m, at) =
          let M = lifted h s ms in
          let lm : length M ≡ h.k = length_lifted h s ms ∙ message_size h ms m in
          (lane_polynomial ws l b).1 (both.0 (M, lm, numbers_path (size h) (size_pos (modulus_of h) s.field) _ (lifted h s ws) (sym (held h s M (range 0 h.n) lm) ∙ sym (encoding_map h s (numbers (size h) M)) ∙ ap (encoding h) (lifted_numbers h s ms (message_below h ms m)) ∙ at ∙ sym (lifted_numbers h s ws b))))

  -- the encoding of a message has a symbol for each node
  pub encoding_size : (ms : List ℕ) → length (encoding h ms) ≡ h.n
  unfolding encoding
  encoding_size ms = length_from (node_of h ms) 0 h.n

  pub encoding_symbols : (ms : List ℕ) → is_message h ms ≡ true → all_below (size h) (encoding h ms) ≡ true
  unfolding encoding node_of
  encoding_symbols ms m = at_below (size h) (encoding h ms) (λ j b. rw (get_or_from (node_of h ms) 0 h.n j 0 (omega (arith, encoding_size ms))) (node_from_below h s 0 ms (0 + j) (message_below h ms m)))

  -- and is a word
  pub encoding_word : (ms : List ℕ) → is_message h ms ≡ true → Codeword h (encoding h ms)
  encoding_word ms m =
      let low = encoding_symbols ms m in
      (words_poly (encoding h ms) (encoding_size ms) low).0 ((words_encode (encoding h ms) (encoding_size ms) low).1 (ms, m, refl))
