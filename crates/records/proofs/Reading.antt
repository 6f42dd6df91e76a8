-- A record as it is read, by its kind: the number that turns it away, or what it holds is judged.
use Rattle.std.specs.Prelude.{Err}
use mathlib.Core.Path.{◌≡◌}
use mathlib.Core.Bool.{true, false, or-true}
use mathlib.Core.List.{List, ◌∷◌}
use Prim.Native.Nat.{ℕ}
use borrow.Author.Tests.{eq-eqb, ne_eqb}
use lib.Dec.{eqb}
use lib.ListN.{length, get_or}
use Rattle.field.specs.declared.Field.TheVariants.{Prime, Binary}
use Rattle.field.specs.Kinds.{prime_of, gf256}
use Rattle.generator.specs.declared.Header.{Header}
use Rattle.generator.specs.Records.{pair_at, header_of, kind_bad, body_bad, prime_in, field_bad, header_fault, record_fault, judged, record_of}

-- no record, or of none of the three kinds
pub none_read : (rec : List ℕ) → length rec ≡ 0 → Err 1 ≡ record_of rec
unfolding record_of record_fault judged kind_bad
none_read rec none = rw none

pub kind_unread : (rec : List ℕ) → (get_or rec 0 0 ≡ 1 → ⊥) → (get_or rec 0 0 ≡ 2 → ⊥) → (get_or rec 0 0 ≡ 3 → ⊥) → Err 1 ≡ record_of rec
unfolding record_of record_fault judged kind_bad
kind_unread rec one two three = rw (ne_eqb (get_or rec 0 0) 1 one, ne_eqb (get_or rec 0 0) 2 two, ne_eqb (get_or rec 0 0) 3 three, or-true)

module _ (body : List ℕ) where
  filled : (kind : ℕ) → eqb (length (kind ∷ body)) 0 ≡ false
  filled kind = ne_eqb (length (kind ∷ body)) 0 (λ none. absurd cc)

  -- kind 1
  pub prime_body : (length (1 ∷ body) ≡ 5 → ⊥) → Err 2 ≡ record_of (1 ∷ body)
  unfolding record_of record_fault judged kind_bad body_bad
  prime_body other = rw (filled 1, ne_eqb (length (1 ∷ body)) 5 other)

  pub prime_field : length (1 ∷ body) ≡ 5 → prime_in 3 251 (get_or body 0 0) ≡ false → Err 3 ≡ record_of (1 ∷ body)
  unfolding record_of record_fault judged kind_bad body_bad field_bad
  prime_field long none = rw (filled 1, eq-eqb (length (1 ∷ body)) 5 long, none)

  pub prime_judged : length (1 ∷ body) ≡ 5 → prime_in 3 251 (get_or body 0 0) ≡ true → (h : Header) → h ≡ record { field = Prime (prime_of (get_or body 0 0)); root = get_or body 1 0; n = get_or body 2 0; k = get_or body 3 0 } → judged (header_fault h) h ≡ record_of (1 ∷ body)
  unfolding record_of record_fault kind_bad body_bad field_bad header_of
  prime_judged long good h is = rw (is, filled 1, eq-eqb (length (1 ∷ body)) 5 long, good)

  -- kind 2
  pub binary_body : (length (2 ∷ body) ≡ 4 → ⊥) → Err 2 ≡ record_of (2 ∷ body)
  unfolding record_of record_fault judged kind_bad body_bad
  binary_body other = rw (filled 2, ne_eqb (length (2 ∷ body)) 4 other)

  pub binary_judged : length (2 ∷ body) ≡ 4 → (h : Header) → h ≡ record { field = Binary gf256; root = get_or body 0 0; n = get_or body 1 0; k = get_or body 2 0 } → judged (header_fault h) h ≡ record_of (2 ∷ body)
  unfolding record_of record_fault kind_bad body_bad field_bad header_of
  binary_judged long h is = rw (is, filled 2, eq-eqb (length (2 ∷ body)) 4 long)

  -- kind 3
  pub wide_body : (length (3 ∷ body) ≡ 7 → ⊥) → Err 2 ≡ record_of (3 ∷ body)
  unfolding record_of record_fault judged kind_bad body_bad
  wide_body other = rw (filled 3, ne_eqb (length (3 ∷ body)) 7 other)

  pub wide_field : length (3 ∷ body) ≡ 7 → prime_in 257 65521 (pair_at body 0) ≡ false → Err 3 ≡ record_of (3 ∷ body)
  unfolding record_of record_fault judged kind_bad body_bad field_bad
  wide_field long none = rw (filled 3, eq-eqb (length (3 ∷ body)) 7 long, none)

  pub wide_judged : length (3 ∷ body) ≡ 7 → prime_in 257 65521 (pair_at body 0) ≡ true → (h : Header) → h ≡ record { field = Prime (prime_of (pair_at body 0)); root = pair_at body 2; n = get_or body 4 0; k = get_or body 5 0 } → judged (header_fault h) h ≡ record_of (3 ∷ body)
  unfolding record_of record_fault kind_bad body_bad field_bad header_of
  wide_judged long good h is = rw (is, filled 3, eq-eqb (length (3 ∷ body)) 7 long, good)
