-- What holds where a call meets no number, and what it says beside one.
use Rattle.std.specs.Prelude.{Err}
use mathlib.Core.Path.{◌≡◌, refl, sym}
use mathlib.Core.Bool.{Bool, true, false, not}
use mathlib.Core.List.{List}
use Prim.Native.Nat.{ℕ, ◌+◌, ◌≤◌, ◌<◌}
use native.Mathlib.Omega.{arith}
use borrow.Author.Tests.{lt-ltb, ltb-true, ltb-false, leb-true, ne_eqb}
use lib.Dec.{eqb, ltb, leb}
use lib.ListN.{length}
use Rattle.std.proofs.lemmas.Bool.{and_parts}
use Rattle.lists.specs.Numbers.{all_below}
use Rattle.lists.proofs.Cases.{not_both, first_zero, when_zero}
use Rattle.field.specs.declared.prime.PrimeField.{PrimeField}
use Rattle.field.specs.declared.Field.{Field}
use Rattle.field.specs.declared.Field.TheVariants.{Prime, Binary}
use Rattle.field.specs.Fields.{size_of}
use Rattle.field.specs.Primes.{is_prime}
use Rattle.field.specs.Widths.{bytes_for}
use Rattle.field.specs.Kinds.{modulus, usable}
use Rattle.field.proofs.KindLaws.{usable_prime}
use Rattle.generator.specs.declared.Header.{Header}
use Rattle.generator.specs.Records.{modulus_of, width}
use Rattle.layout.specs.Width.{symbols_of}
use Rattle.generator.proofs.Answered.{answer_refused}
use Rattle.refusals.specs.Conditions.{length_bad, symbols_bad}
use Rattle.refusals.proofs.Accepts.{not_met}
use Rattle.refusals.proofs.NotMet.{length_good}
use Rattle.blocks.proofs.Refused.{refused_value}
use Rattle.carrying.specs.Carrying.{carries_none, carried_length}
use Rattle.carry.specs.declared.prime.WordPrime.{WordPrime}
use Rattle.carry.specs.Promise.{long_bad, part_bad, carried_len_fault, carry_in_fault, carry_out_fault, carry_change_fault, CarriedLenPromise, CarryInPromise, CarryOutPromise, CarryChangePromise}

-- the prime of a field is a word
pub modulus_word : (field : Field) → usable field ≡ true → modulus field < 65536
unfolding modulus usable
modulus_word (Prime f) e = omega (arith, leb-true f.p 65521 (and_parts _ (is_prime f.p) e).0)
modulus_word (Binary g) e = omega arith

-- a prime carries bytes where it has 34,816 symbols
pub few_carry_none : (f : PrimeField) → usable (Prime f) ≡ true → f.p < 34816 → carries_none f.p ≡ true
unfolding carries_none is_prime
few_carry_none f good few =
    let (_, prime, _) = usable_prime f good in
    let least = leb-true 2 f.p (and_parts (leb 2 f.p) _ prime).0 in
    rw (ne_eqb f.p 0 (λ none. omega arith), lt-ltb f.p 34816 few)

pub many_carry : (p : ℕ) → 34815 < p → carries_none p ≡ false
unfolding carries_none
many_carry p many = not_both {b = ltb p 34816} (λ some few. omega (arith, ltb-true p 34816 few))

pub some_prime : (prime : WordPrime) → eqb prime.p 0 ≡ false
some_prime prime = ne_eqb prime.p 0 (λ none. omega (arith, prime.large))

-- n bytes that can be carried
pub record Carriable (h : Header) (n : ℕ) : Type 0 where
  pub carries : carries_none (modulus_of h) ≡ false
  pub few : n ≤ 4611686018427387904

pub length_accepts : (h : Header) (n : ℕ) → carried_len_fault h n ≡ 0 → Carriable h n
unfolding carried_len_fault long_bad
length_accepts h n e =
    let (none, last) = not_met (carries_none (modulus_of h)) 17 _ e in
    record { carries = none; few = ltb-false 4611686018427387904 n (when_zero (long_bad n) 7 last) }

pub in_accepts : (h : Header) (n long : ℕ) → carry_in_fault h n long ≡ 0 → Carriable h n × (long ≡ carried_length (modulus_of h) n)
unfolding carry_in_fault
in_accepts h n long e =
    let (before, last) = first_zero (carried_len_fault h n) _ e in
    (length_accepts h n before, length_good _ _ (when_zero (length_bad (carried_length (modulus_of h) n) long) 7 last))

pub out_accepts : (h : Header) (n : ℕ) (symbols : List ℕ) → carry_out_fault h n symbols ≡ 0 → (carry_in_fault h n (length symbols) ≡ 0) × (symbols_bad h symbols ≡ false)
unfolding carry_out_fault
out_accepts h n symbols e =
    let (before, last) = first_zero (carry_in_fault h n (length symbols)) _ e in
    (before, when_zero (symbols_bad h symbols) 10 last)

-- a part that can be changed
pub record Changeable (h : Header) (n at count : ℕ) (symbols : List ℕ) : Type 0 where
  pub carried : carry_in_fault h n (length symbols) ≡ 0
  pub inside : at + count ≤ n
  pub good : symbols_bad h symbols ≡ false

pub change_accepts : (h : Header) (n at count : ℕ) (symbols : List ℕ) → carry_change_fault h n at count symbols ≡ 0 → Changeable h n at count symbols
unfolding carry_change_fault part_bad
change_accepts h n at count symbols e =
    let (before, rest) = first_zero (carry_in_fault h n (length symbols)) _ e in
    let (inside, last) = not_met (part_bad n at count) 8 _ rest in
    record { carried = before; inside = ltb-false n (at + count) inside; good = when_zero (symbols_bad h symbols) 10 last }

-- beside a number g: nothing is written
pub length_refuses : (h : Header) (g : ℕ) → (g ≡ 0 → ⊥) → (n : ℕ) → CarriedLenPromise n (Err g) h g
length_refuses h g some n = record { answered = sym (answer_refused g _ some) }

pub in_refuses : (h : Header) (g : ℕ) → (g ≡ 0 → ⊥) → (bytes out : List ℕ) → CarryInPromise bytes out out (Err g) h g
in_refuses h g some bytes out = record { answered = sym (answer_refused g _ some); written = sym (refused_value g _ out some) }

pub out_refuses : (h : Header) (g : ℕ) → (g ≡ 0 → ⊥) → (symbols out : List ℕ) → CarryOutPromise symbols out out (Err g) h g
out_refuses h g some symbols out = record { answered = sym (answer_refused g _ some); written = sym (refused_value g _ out some) }

pub change_refuses : (h : Header) (g : ℕ) → (g ≡ 0 → ⊥) → (at : ℕ) (bytes symbols : List ℕ) → CarryChangePromise at bytes symbols symbols (Err g) h g
change_refuses h g some at bytes symbols = record { answered = sym (answer_refused g _ some); written = sym (refused_value g _ symbols some) }

-- the symbols are those of the field
pub good_symbols : (h : Header) (s : List ℕ) → symbols_bad h s ≡ false → all_below (size_of (modulus_of h)) (symbols_of (bytes_for (modulus_of h)) s) ≡ true
unfolding symbols_bad width
good_symbols h s e = not_false _ e
  where
    not_false : (b : Bool) → not b ≡ false → b ≡ true
    not_false true e = refl
    not_false false e = sym e
