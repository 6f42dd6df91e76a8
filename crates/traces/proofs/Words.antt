-- The symbol of a node of every word is the sum of what the other nodes send.
use mathlib.Core.Path.{◌≡◌, refl, sym, ap, ap₂, fun_ext, subst, ◌∙◌}
use mathlib.Core.Bool.{Bool, true, false, not, Bool-set, true≢false}
use mathlib.Core.Logic.{⊎_elim}
use mathlib.Core.List.{List, [], ◌∷◌, map}
use Prim.Native.Nat.{ℕ, zero, suc, ◌+◌, ◌-◌, ◌/◌, ◌%◌, ◌^◌, ◌≤◌, ◌<◌}
use native.Mathlib.Nat.{zero-add}
use native.Mathlib.Numerals.{add-one}
use native.Mathlib.Omega.{arith}
use lib.Bits.{bit_xor, xor_comm, xor_zero_r}
use lib.Dec.{eqb}
use lib.ListN.{length, get_or, length-map}
use borrow.Author.Tests.{eq-eqb}
use Rattle.lists.specs.Rows.{range}
use Rattle.lists.specs.Numbers.{all_below, is_in}
use Rattle.lists.proofs.All.{All}
use Rattle.lists.proofs.Cases.{by_test}
use Rattle.lists.proofs.Numbers.{is_in_cons, is_in_below}
use Rattle.algebra.specs.Field.{Field}
use Rattle.algebra.proofs.Ring.{zero-mul}
use Rattle.algebra.proofs.Sums.{sum, sum_next}
use Rattle.algebra.proofs.Parity.{check}
use Rattle.field.specs.Fields.{is_field, size_of, add, sub, mul, inverse}
use Rattle.field.specs.Symbols.{Symbol}
use Rattle.field.proofs.Symbols.{symbol_below, symbol_path, get_or_numbers}
use Rattle.field.proofs.FieldOf.{field_of, size_pos, number_sub, number_pow}
use Rattle.field.proofs.Meanings.{byte_field}
use Rattle.generator.specs.declared.Header.{Header}
use Rattle.generator.specs.Records.{modulus_of, size, Sound}
use Rattle.generator.specs.Codewords.{check_from, is_word}
use Rattle.generator.proofs.Sound.{field_for, root_for, root_order}
use Rattle.generator.proofs.Bridge.{check_from_is}
use Rattle.generator.proofs.Recovery.{lifted, lifted_numbers, length_lifted}
use Rattle.generator.proofs.Words.{checks_zero}
use Rattle.traces.specs.Traces.{trace_of, element, xor_below}
use Rattle.traces.specs.Repairs.{bits, sends, senders, ratio, offset, erasing, eraser, factor, sent_digit, part, repaired}
use Rattle.traces.specs.Claims.{Repairing}
use Rattle.traces.proofs.Frobenius.{Frobenius, trace, power_pos}
use Rattle.traces.proofs.Repair.{Balanced, ratios, word_balanced}
use Rattle.traces.proofs.Missing.{erase, erase_here, erase_later, repair_missing, missing_term}
use Rattle.traces.proofs.Bytes.{Subfield, frobenius_bytes, trace_of_is}
use Rattle.traces.proofs.Senders.{sum_passing}

-- what holds of the field of 256 elements holds of the field that p names where p is 0
of_bytes : (P : Field → Type 0) → P (field_of 0 byte_field) → (p : ℕ) (v : is_field p ≡ true) → p ≡ 0 → P (field_of p v)
of_bytes P h zero v e = subst (λ (w : is_field 0 ≡ true). P (field_of 0 w)) (Bool-set (is_field 0) true byte_field v) h
of_bytes P h (suc p) v e = absurd (omega arith)

module _ (p : ℕ) (v : is_field p ≡ true) (kind : p ≡ 0) where
  frobenius_of : (b : ℕ) → Subfield b → Frobenius (field_of p v) (2 ^ b) (8 / b)
  frobenius_of b d = of_bytes (λ F. Frobenius F (2 ^ b) (8 / b)) (frobenius_bytes b d) p v kind

trace_of_lem : (p : ℕ) (v : is_field p ≡ true) → p ≡ 0 → (b : ℕ) (a : Symbol (size_of p)) → (trace (field_of p v) (2 ^ b) (8 / b) a).0 ≡ trace_of b a.0
trace_of_lem zero v e b = subst (λ (w : is_field 0 ≡ true). (a : Symbol (size_of 0)) → (trace (field_of 0 w) (2 ^ b) (8 / b) a).0 ≡ trace_of b a.0) (Bool-set (is_field 0) true byte_field v) (trace_of_is b)
trace_of_lem (suc p) v e b = absurd (omega arith)

pub byte_size : (p : ℕ) → p ≡ 0 → size_of p ≡ 256
unfolding size_of
byte_size p e = rw e

byte_add : (p a b : ℕ) → p ≡ 0 → add p a b ≡ bit_xor a b
unfolding add
byte_add p a b e = rw e

byte_sub : (p a : ℕ) → p ≡ 0 → sub p 0 a ≡ a
unfolding sub
byte_sub p a e = rw e (xor_comm 0 a ∙ xor_zero_r a)

module _ (h : Header) (s : Sound h) (kind : modulus_of h ≡ 0) where
  abbrev number : Symbol (size h) → ℕ
  number x = x.0

  -- a sum over the nodes, as numbers
  sum_numbers : (n : ℕ) (f : ℕ → Symbol (size h)) → (sum (field_for h s) n f).0 ≡ xor_below n (λ i. (f i).0)
  unfolding xor_below sum
  sum_numbers zero f = refl
  sum_numbers (suc n) f =
      ap (λ (m : ℕ). (sum (field_for h s) m f).0) (sym (add-one n))
      ∙ ap number (sum_next (field_for h s) n f)
      ∙ byte_add (modulus_of h) (sum (field_for h s) n f).0 (f n).0 kind
      ∙ ap (λ (x : ℕ). bit_xor x (f n).0) (sum_numbers n f)

  -- u, u − 1, and u / (u − 1) times the product over the missing nodes
  u : ℕ → ℕ → Symbol (size h)
  u t j = ratios (field_for h s) (root_for h s) h.n t j

  u_1 : ℕ → ℕ → Symbol (size h)
  u_1 t j = (field_for h s).add (u t j) ((field_for h s).neg (field_for h s).1f)

  times : ℕ → List ℕ → ℕ → Symbol (size h)
  times t missing j = (field_for h s).mul ((field_for h s).mul (u t j) ((field_for h s).inv (u_1 t j))) (erase (field_for h s) (map (u t) missing) (u t j))

  ratio_is : (t j : ℕ) → (u t j).0 ≡ ratio h t j
  unfolding u ratio
  ratio_is t j = number_pow (modulus_of h) s.field (root_for h s) ((j + (h.n - t)) % h.n)

  apart_is : (x y : Symbol (size h)) (a b : ℕ) → x.0 ≡ a → y.0 ≡ b → ((field_for h s).add x ((field_for h s).neg y)).0 ≡ sub (modulus_of h) a b
  apart_is x y a b e f = number_sub (modulus_of h) s.field x y ∙ ap₂ (sub (modulus_of h)) e f

  offset_is : (t j : ℕ) → (u_1 t j).0 ≡ offset h t j
  unfolding u_1 offset
  offset_is t j = apart_is (u t j) (field_for h s).1f (ratio h t j) 1 (ratio_is t j) refl

  eraser_is : (t : ℕ) (missing : List ℕ) (j : ℕ) → (erase (field_for h s) (map (u t) missing) (u t j)).0 ≡ eraser h t (ratio h t j) missing
  unfolding erase eraser erasing
  eraser_is t [] j = refl
  eraser_is t (m ∷ missing) j =
      ap₂ (mul (modulus_of h))
      (ap₂ (λ (x y : ℕ). mul (modulus_of h) x (inverse (modulus_of h) y)) (apart_is (u t j) (u t m) _ _ (ratio_is t j) (ratio_is t m)) (apart_is (field_for h s).1f (u t m) 1 _ refl (ratio_is t m)))
      (eraser_is t missing j)

  factor_is : (t : ℕ) (missing : List ℕ) (j : ℕ) → (times t missing j).0 ≡ factor h t missing j
  unfolding times factor
  factor_is t missing j = ap₂ (mul (modulus_of h)) (ap₂ (λ (x y : ℕ). mul (modulus_of h) x (inverse (modulus_of h) y)) (ratio_is t j) (offset_is t j)) (eraser_is t missing j)

  -- the missing nodes are not at the target's point, and the product is 0 at each of them
  away : (t : ℕ) (missing : List ℕ) → ((m : ℕ) → is_in m missing ≡ true → (field_for h s).1f ≡ u t m → ⊥) → All (λ a. (field_for h s).1f ≡ a → ⊥) (map (u t) missing)
  unfolding is_in
  away t [] out = tt
  away t (m ∷ missing) out = (out m (rw (eq-eqb m m refl)), away t missing (λ i e. out i (by_test (eqb i m) (λ d. rw d) (λ d. rw d e))))

  erased : (t : ℕ) (missing : List ℕ) (j : ℕ) → is_in j missing ≡ true → erase (field_for h s) (map (u t) missing) (u t j) ≡ (field_for h s).0f
  unfolding is_in
  erased t [] j e = absurd (true≢false (sym e))
  erased t (m ∷ missing) j e =
      ⊎_elim
      (λ d. ap (λ (i : ℕ). erase (field_for h s) (map (u t) (m ∷ missing)) (u t i)) d ∙ erase_here (field_for h s) (map (u t) missing) (u t m))
      (λ d. erase_later (field_for h s) (map (u t) missing) (u t m) (u t j) (erased t missing j d))
      (is_in_cons j m missing e)

  -- the checks of a word, in the algebra's terms
  word_checks : (ws : List ℕ) → length ws ≡ h.n → all_below (size h) ws ≡ true → is_word h ws ≡ true → (e : ℕ) → 0 < e → e ≤ h.n - h.k → check (field_for h s) (root_for h s) e (lifted h s ws) (range 0 h.n) ≡ (field_for h s).0f
  unfolding is_word
  word_checks ws l b w e p q =
      symbol_path (size h)
      (sym (check_from_is h s e 0 (lifted h s ws) ∙ ap (λ (x : ℕ). (check (field_for h s) (root_for h s) e (lifted h s ws) (range 0 x)).0) (length_lifted h s ws ∙ l))
      ∙ ap (check_from h e 0) (lifted_numbers h s ws b)
      ∙ checks_zero (h.n - h.k) h ws w e p q)

  symbol_at_lem : (ws : List ℕ) → all_below (size h) ws ≡ true → (j : ℕ) → (get_or (lifted h s ws) j (field_for h s).0f).0 ≡ get_or ws j 0
  symbol_at_lem ws b j = sym (get_or_numbers (size h) (size_pos (modulus_of h) s.field) (lifted h s ws) j) ∙ ap (λ (xs : List ℕ). get_or xs j 0) (lifted_numbers h s ws b)

  -- nothing comes of the target itself
  at_one : (x y : Symbol (size h)) → x ≡ (field_for h s).1f → (field_for h s).mul ((field_for h s).add x ((field_for h s).neg (field_for h s).1f)) y ≡ (field_for h s).0f
  at_one x y e =
      ap (λ (z : Symbol (size h)). (field_for h s).mul ((field_for h s).add z ((field_for h s).neg (field_for h s).1f)) y) e
      ∙ ap (λ (z : Symbol (size h)). (field_for h s).mul z y) ((field_for h s).add_neg (field_for h s).1f)
      ∙ zero-mul (field_for h s) y

  -- a test that fails
  not_sender : (b : Bool) → not b ≡ false → b ≡ true
  not_sender true e = refl
  not_sender false e = absurd (true≢false e)

  module _ (t : ℕ) (missing : List ℕ) (d : Subfield (bits h (length missing))) where
    abbrev b : ℕ
    b = bits h (length missing)

    -- a node's term
    term : ℕ → Symbol (size h) → Symbol (size h)
    term j w = (field_for h s).mul (u_1 t j) (trace (field_for h s) (2 ^ b) (8 / b) ((field_for h s).mul (times t missing j) w))

    -- is its digit's part
    term_is : (j : ℕ) (w : Symbol (size h)) → (term j w).0 ≡ part h b t j (sent_digit h t missing j w.0)
    unfolding term part sent_digit
    term_is j w =
        let y = (field_for h s).mul (times t missing j) w in
        let y_is : y.0 ≡ mul (modulus_of h) (factor h t missing j) w.0 = ap (λ (x : ℕ). mul (modulus_of h) x w.0) (factor_is t missing j) in
        let low : y.0 < 256 = rw (byte_size (modulus_of h) kind) at (symbol_below (size h) y) in
        ap₂ (mul (modulus_of h)) (offset_is t j)
        (trace_of_lem (modulus_of h) s.field kind b y ∙ sym (d.elements y.0 low) ∙ ap (λ (x : ℕ). element b (trace_of b x % 2 ^ b)) y_is)

    module _ (r : Repairing h t missing) (enough : (2 ^ b) ^ (8 / b - 1) + length missing ≤ h.n - h.k) where
      frobenius : Frobenius (field_for h s) (2 ^ b) (8 / b)
      frobenius = frobenius_of (modulus_of h) s.field kind b d

      -- the symbol of node t of a word is given by the digits of the nodes that send
      pub repair_symbol : (ws : List ℕ) → length ws ≡ h.n → all_below (size h) ws ≡ true → is_word h ws ≡ true → repaired h t missing (λ i. let j = get_or (senders h t missing) i 0 in sent_digit h t missing j (get_or ws j 0)) ≡ get_or ws t 0
      unfolding repaired senders sends term u u_1 times
      repair_symbol ws l low w =
          let F = field_for h s in
          let sym_at : ℕ → Symbol (size h) = λ j. get_or (lifted h s ws) j F.0f in
          let f : ℕ → Symbol (size h) = λ j. term j (sym_at j) in
          let js = senders h t missing in
          let R-pos : 1 ≤ h.n - h.k = omega (arith, power_pos F (2 ^ b) (8 / b) frobenius (8 / b - 1)) in
          let balanced : Balanced F h.n (h.n - h.k) t sym_at (u t) = word_balanced F (root_for h s) h.n (root_order h s) (h.n - h.k) t (lifted h s ws) r.inside R-pos (length_lifted h s ws ∙ l) (word_checks ws l low w) in
          let out : All (λ a. F.1f ≡ a → ⊥) (map (u t) missing) = away t missing (λ m e z. balanced.others m (is_in_below h.n m missing r.nodes e) (λ q. true≢false (sym e ∙ ap (λ (x : ℕ). is_in x missing) q ∙ r.others)) (sym z)) in
          let fits : (2 ^ b) ^ (8 / b - 1) + length (map (u t) missing) ≤ h.n - h.k = rw (length-map missing (u t)) enough in
          let whole : sum F h.n f ≡ F.neg (sym_at t) = repair_missing F h.n (h.n - h.k) t sym_at (u t) balanced (2 ^ b) (8 / b) frobenius (map (u t) missing) out fits in
          let none : (j : ℕ) → 0 ≤ j → j < 0 + h.n → sends t missing j ≡ false → f j ≡ F.0f = λ j _ _ e.
          ⊎_elim
          (λ q. at_one (u t j) _ (ap (u t) q ∙ balanced.here))
          (λ q. missing_term F (2 ^ b) (8 / b) frobenius (u_1 t j) _ _ (sym_at j) (erased t missing j q))
          (is_in_cons j t missing (not_sender _ e)) in
          ap (xor_below (length js)) (fun_ext (λ i. ap (λ (x : ℕ). part h b t (get_or js i 0) (sent_digit h t missing (get_or js i 0) x)) (sym (symbol_at_lem ws low (get_or js i 0))) ∙ sym (term_is (get_or js i 0) (sym_at (get_or js i 0)))))
          ∙ sym (sum_numbers (length js) (λ i. f (get_or js i 0)))
          ∙ ap number (sym (sum_passing F h.n 0 (sends t missing) f none) ∙ ap (sum F h.n) (fun_ext (λ z. ap f (zero-add z))) ∙ whole)
          ∙ byte_sub (modulus_of h) (sym_at t).0 kind
          ∙ symbol_at_lem ws low t
