-- A list of numbers that document 03 accepts as a record is a list of bytes, and no record of kind 3: its n is the order of a symbol, and so a byte.
use mathlib.Core.Path.{◌≡◌, sym, ◌∙◌}
use mathlib.Core.Bool.{true, false, ◌&&◌, ◌||◌, not, or-true, true≢false}
use mathlib.Core.List.{List}
use Prim.Native.Nat.{ℕ, zero, suc, ◌*◌, ◌≤◌, ◌<◌}
use native.Mathlib.Omega.{arith}
use borrow.Author.Tests.{ltb-true, ltb-false, leb-true, eqb-true, not-false}
use lib.Dec.{eqb, ltb, leb}
use lib.ListN.{length, get_or}
use Rattle.lists.specs.Choice.{pick, when}
use Rattle.lists.specs.Numbers.{all_below}
use Rattle.std.proofs.lemmas.Bool.{and_parts, or_parts}
use Rattle.lists.proofs.Cases.{by_test, first_zero, when_zero}
use Rattle.lists.proofs.Numbers.{at_below}
use Rattle.field.specs.Fields as F
use Rattle.field.proofs.Agreement.{rest, size_of, is_prime, order_of, size_of_agrees, is_prime_agrees, order_of_agrees}
use Rattle.field.proofs.Meanings.{prime_field, prime_size, byte_field}
use Rattle.generator.proofs.Older.{Older}
use Rattle.generator.proofs.OrderBound.{found_below}
use Rattle.generator.proofs.RecordsAgreement.{Header, header_of, weight, record_fault}

-- lists of five or four bytes
five_bytes : (s : List ℕ) → length s ≡ 5 → get_or s 0 0 < 256 → get_or s 1 0 < 256 → get_or s 2 0 < 256 → get_or s 3 0 < 256 → get_or s 4 0 < 256 → all_below 256 s ≡ true
five_bytes s long a b c d e = at_below 256 s at
  where
    at : (i : ℕ) → i < length s → get_or s i 0 < 256
    at zero inside = a
    at (suc zero) inside = b
    at (suc (suc zero)) inside = c
    at (suc (suc (suc zero))) inside = d
    at (suc (suc (suc (suc zero)))) inside = e
    at (suc (suc (suc (suc (suc i))))) inside = absurd (omega arith)

four_bytes : (s : List ℕ) → length s ≡ 4 → get_or s 0 0 < 256 → get_or s 1 0 < 256 → get_or s 2 0 < 256 → get_or s 3 0 < 256 → all_below 256 s ≡ true
four_bytes s long a b c d = at_below 256 s at
  where
    at : (i : ℕ) → i < length s → get_or s i 0 < 256
    at zero inside = a
    at (suc zero) inside = b
    at (suc (suc zero)) inside = c
    at (suc (suc (suc zero))) inside = d
    at (suc (suc (suc (suc i)))) inside = absurd (omega arith)

-- the conditions that an accepted list with the header h passes
record Passed (s : List ℕ) (h : Header) : Type 0 where
  kind : (eqb (length s) 0 || not (eqb (get_or s 0 0) 1 || eqb (get_or s 0 0) 2)) ≡ false
  body : length s ≡ pick (eqb (get_or s 0 0) 1) 5 4
  field : (eqb (get_or s 0 0) 1 && not (leb 3 h.p && (leb h.p 251 && is_prime h.p))) ≡ false
  k_fits : h.k ≤ h.n
  root_low : h.root < F.size_of h.p
  order : F.order_of h.p h.root ≡ h.n

passed : (s : List ℕ) → record_fault s ≡ 0 → Passed s (header_of s)
unfolding record_fault
passed s e =
    let h = header_of s in
    let low = ltb h.root (size_of h.p) in
    let found = eqb (order_of h.p h.root) h.n in
    let (one, after_one) = first_zero _ _ e in
    let (two, after_two) = first_zero _ _ after_one in
    let (three, after_three) = first_zero _ _ after_two in
    let (four, after_four) = first_zero _ _ after_three in
    let (five, six) = first_zero (when (not (low && found)) 5) (when (not (eqb (rest (h.k * weight h) h.n) 0)) 6) after_four in
    let sizes : (ltb h.n 2 || (eqb h.k 0 || ltb h.n h.k)) ≡ false = when_zero _ 3 four in
    let both : (low && found) ≡ true = not-false _ (when_zero _ 4 five) in
    let below : h.root < F.size_of h.p = rw (size_of_agrees h.p) at (ltb-true h.root (size_of h.p) (and_parts low found both).0) in
    record {
      kind = when_zero _ 0 one;
      body = eqb-true _ _ (not-false _ (when_zero _ 1 two));
      field = when_zero _ 2 three;
      k_fits = ltb-false h.n h.k (or_parts (eqb h.k 0) _ (or_parts (ltb h.n 2) _ sizes).1).1;
      root_low = below;
      order = sym (order_of_agrees h.p h.root below) ∙ eqb-true _ _ (and_parts low found both).1;
    }

-- n is below the field's size
nodes_below : {s : List ℕ} {h : Header} → Passed s h → F.is_field h.p ≡ true → h.n < F.size_of h.p
nodes_below {s} {h} a v = rw (← a.order) (found_below h.p h.root v a.root_low)

module _ (s : List ℕ) (e : record_fault s ≡ 0) where
  -- kind 1
  prime_bytes : eqb (get_or s 0 0) 1 ≡ true → all_below 256 s ≡ true
  unfolding header_of
  prime_bytes t =
      let p = get_or s 1 0 in
      let a : Passed s (record { p = p; root = get_or s 2 0; n = get_or s 3 0; k = get_or s 4 0 }) = rw t at (passed s e) in
      let three : (leb 3 p && (leb p 251 && is_prime p)) ≡ true = not-false _ (rw t at a.field) in
      let inside : (leb p 251 && is_prime p) ≡ true = (and_parts (leb 3 p) _ three).1 in
      let most : p ≤ 251 = leb-true p 251 (and_parts _ (is_prime p) inside).0 in
      let prime = sym (is_prime_agrees p) ∙ (and_parts (leb p 251) _ inside).1 in
      let size = prime_size p prime in
      let nodes = nodes_below a (prime_field p prime) in
      let one : get_or s 0 0 ≡ 1 = eqb-true (get_or s 0 0) 1 t in
      five_bytes s (rw t at a.body) (omega arith) (omega arith) (omega (arith, a.root_low, size)) (omega arith) (omega (arith, a.k_fits, nodes, size))

  -- kind 2
  binary_bytes : eqb (get_or s 0 0) 1 ≡ false → all_below 256 s ≡ true
  unfolding header_of F.size_of
  binary_bytes t =
      let a : Passed s (record { p = 0; root = get_or s 1 0; n = get_or s 2 0; k = get_or s 3 0 }) = rw t at (passed s e) in
      let nodes = nodes_below a byte_field in
      let two : get_or s 0 0 ≡ 2 = eqb-true (get_or s 0 0) 2 (not-false _ (or_parts (eqb (length s) 0) _ (rw t at a.kind)).1) in
      four_bytes s (rw t at a.body) (omega arith) a.root_low nodes (omega (arith, a.k_fits, nodes))

  -- no list of kind 3 is accepted
  not_three : eqb (get_or s 0 0) 3 ≡ false
  not_three =
      by_test (eqb (get_or s 0 0) 3)
      (λ t.
      let three : get_or s 0 0 ≡ 3 = eqb-true (get_or s 0 0) 3 t in
      absurd (true≢false (sym (or-true (eqb (length s) 0)) ∙ rw three at (passed s e).kind)))
      (λ t. t)

  -- so it is one of the older records
  pub accepted_older : Older s
  accepted_older = record { bytes = by_test (eqb (get_or s 0 0) 1) prime_bytes binary_bytes; kind = not_three }
