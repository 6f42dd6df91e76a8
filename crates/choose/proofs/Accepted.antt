-- For every n from 2 to 255 and k from 1 to n the record is accepted, has this n and this k, and carries bytes.
use mathlib.Core.Path.{◌≡◌, refl, ap, ap₂, ◌∙◌}
use mathlib.Core.Bool.{Bool, false, not, ◌&&◌}
use mathlib.Core.List.{[], ◌∷◌}
use Prim.Native.Nat.{ℕ, ◌/◌, ◌%◌, ◌≤◌, ◌<◌}
use native.Mathlib.Nat.{div-add-mod'}
use native.Mathlib.Omega.{arith}
use borrow.Author.Tests.{eq-eqb, ne_eqb, lt-ltb, le-ltb, le-leb}
use Rattle.std.proofs.lemmas.Bool.{and_from}
use Rattle.field.specs.declared.Field.TheVariants.{Prime, Binary}
use Rattle.field.specs.Fields.{size_of, order_of}
use Rattle.field.specs.Kinds.{prime_of, gf256, modulus}
use Rattle.generator.specs.declared.Header.{Header}
use Rattle.generator.specs.Records.{header_of, modulus_of, kind_bad, body_bad, prime_in, field_bad, size_bad, root_bad, header_fault, record_fault}
use Rattle.carrying.specs.Carrying.{carries_none}
use Rattle.choose.specs.Table.{prime_for, root_for}
use Rattle.choose.specs.Promise.{chosen_record, ChosenWell}
use Rattle.choose.proofs.Entries.{BytesEntry, PrimeEntry, entries}

-- numbers 4 and 5
size_good : (h : Header) → 2 ≤ h.n → h.n ≤ 255 → 0 < h.k → h.k ≤ h.n → size_bad h ≡ false
unfolding size_bad
size_good h two byte some fits = rw (le-ltb h.n 2 two, le-ltb 255 h.n byte, ne_eqb h.k 0 (omega arith), le-ltb h.n h.k fits)

root_good : (h : Header) (q : ℕ) → size_of (modulus_of h) ≡ q → h.root < q → order_of (modulus_of h) h.root ≡ h.n → root_bad h ≡ false
unfolding root_bad
root_good h q size below order = ap not (and_from _ _ (lt-ltb h.root (size_of (modulus_of h)) (rw size below)) (eq-eqb _ h.n order))

module _ (n k : ℕ) (two : 2 ≤ n) (byte : n ≤ 255) (some : 0 < k) (fits : k ≤ n) where
  -- kind 2
  abbrev binary : ℕ → Header
  binary r = record { field = Binary gf256; root = r; n = n; k = k }

  binary_well : (r : ℕ) → BytesEntry n r → ChosenWell n k (2 ∷ r ∷ n ∷ k ∷ [])
  unfolding record_fault kind_bad body_bad field_bad header_fault header_of modulus carries_none size_of
  binary_well r e = record {
    accepted = rw (size_good (binary r) two byte some fits, root_good (binary r) 256 refl e.below e.order);
    nodes = refl;
    needed = refl;
    carries = refl;
    bytes = λ _. refl;
    best = λ no. absurd (no e.divides);
  }

  -- kind 3
  abbrev wide : ℕ → ℕ → Header
  wide p r = record { field = Prime (prime_of p); root = r; n = n; k = k }

  wide_header : (p r : ℕ) → header_of (3 ∷ p / 256 ∷ p % 256 ∷ r / 256 ∷ r % 256 ∷ n ∷ k ∷ []) ≡ wide p r
  unfolding header_of
  wide_header p r = ap₂ wide (div-add-mod' p 256) (div-add-mod' r 256)

  wide_field : (p r : ℕ) → PrimeEntry n p r → field_bad (3 ∷ p / 256 ∷ p % 256 ∷ r / 256 ∷ r % 256 ∷ n ∷ k ∷ []) ≡ false
  unfolding field_bad prime_in
  wide_field p r e =
      ap (λ (x : ℕ). not (prime_in 257 65521 x)) (div-add-mod' p 256)
      ∙ ap not (and_from _ _ (le-leb 257 p (omega (arith, e.large))) (and_from _ _ (le-leb p 65521 e.small) e.prime))

  wide_size : (p r : ℕ) → PrimeEntry n p r → size_of (modulus_of (wide p r)) ≡ p
  unfolding modulus size_of
  wide_size p r e = rw (ne_eqb p 0 (omega (arith, e.large)))

  wide_accepted : (p r : ℕ) → PrimeEntry n p r → record_fault (3 ∷ p / 256 ∷ p % 256 ∷ r / 256 ∷ r % 256 ∷ n ∷ k ∷ []) ≡ 0
  unfolding record_fault kind_bad body_bad header_fault modulus
  wide_accepted p r e =
      rw (wide_field p r e, wide_header p r, size_good (wide p r) two byte some fits, root_good (wide p r) p (wide_size p r e) e.below e.order)

  wide_well : (p r : ℕ) → PrimeEntry n p r → ChosenWell n k (3 ∷ p / 256 ∷ p % 256 ∷ r / 256 ∷ r % 256 ∷ n ∷ k ∷ [])
  unfolding modulus carries_none
  wide_well p r e =
      let header = wide_header p r in
      let is : modulus_of (header_of (3 ∷ p / 256 ∷ p % 256 ∷ r / 256 ∷ r % 256 ∷ n ∷ k ∷ [])) ≡ p = ap modulus_of header in
      record {
        accepted = wide_accepted p r e;
        nodes = ap (λ (h : Header). h.n) header;
        needed = ap (λ (h : Header). h.k) header;
        carries = rw (is, le-ltb p 34816 e.large) (ap (λ (b : Bool). not b && false) (ne_eqb p 0 (omega (arith, e.large))));
        bytes = λ yes. absurd (e.divides yes);
        best = λ no q prime leaves word. rw is (e.best q prime leaves word);
      }

  -- so for every n and k
  pub chosen_well : ChosenWell n k (chosen_record n k)
  unfolding chosen_record
  chosen_well =
      entries n two byte
      (λ e entry. rw e (binary_well (root_for n) entry))
      (λ e entry. rw e (wide_well (prime_for n) (root_for n) entry))
