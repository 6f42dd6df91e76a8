-- What a record that no number turns away holds.
use Rattle.std.specs.Prelude.{Ok}
use mathlib.Core.Path.{◌≡◌, refl, subst}
use mathlib.Core.Bool.{true, false, ◌&&◌}
use mathlib.Core.List.{List}
use Prim.Native.Nat.{ℕ, zero, suc, ◌≤◌}
use native.Mathlib.Omega.{arith}
use borrow.Author.Tests.{ltb-true, leb-true, le-leb, eqb-true, not-false}
use lib.Dec.{eqb, ltb, leb}
use lib.ListN.{get_or}
use Rattle.lists.specs.Choice.{first_of, when}
use Rattle.std.proofs.lemmas.Bool.{and_from, and_parts}
use Rattle.lists.proofs.Cases.{by_test, first_zero, when_zero}
use Rattle.field.specs.declared.Field.TheVariants.{Prime}
use Rattle.field.specs.Primes.{is_prime}
use Rattle.field.specs.Fields.{order_of}
use Rattle.field.specs.Kinds.{prime_of, usable}
use Rattle.field.proofs.KindLaws.{usable_field}
use Rattle.generator.specs.declared.Header.{Header}
use Rattle.generator.specs.Records.{pair_at, header_of, modulus_of, size, kind_bad, body_bad, prime_in, field_bad, size_bad, root_bad, header_fault, record_fault, judged, record_of, Sound}
use Rattle.generator.proofs.Faults.{sizes}

-- a header that numbers 4 and 5 pass
pub header_sound : (h : Header) → usable h.field ≡ true → header_fault h ≡ 0 → Sound h
unfolding header_fault root_bad
header_sound h u e =
    let (four, five) = first_zero (when (size_bad h) 4) (when (root_bad h) 5) e in
    let (two, byte, some, fits) = sizes h (when_zero (size_bad h) 3 four) in
    let root : (ltb h.root (size h) && eqb (order_of (modulus_of h) h.root) h.n) ≡ true = not-false _ (when_zero (root_bad h) 4 five) in
    record {
      usable_field = u;
      field = usable_field h.field u;
      two = two;
      byte = byte;
      some = some;
      fits = fits;
      root_below = ltb-true h.root (size h) (and_parts _ (eqb (order_of (modulus_of h) h.root) h.n) root).0;
      order = eqb-true (order_of (modulus_of h) h.root) h.n (and_parts (ltb h.root (size h)) _ root).1;
    }

-- a prime up to 65,521 names a usable field
pub usable_in : (low high p : ℕ) → high ≤ 65521 → prime_in low high p ≡ true → usable (Prime (prime_of p)) ≡ true
unfolding usable prime_in
usable_in low high p most e =
    let below : (leb p high && is_prime p) ≡ true = (and_parts (leb low p) _ e).1 in
    let bound : p ≤ high = leb-true p high (and_parts _ (is_prime p) below).0 in
    and_from _ _ (le-leb p 65521 (omega arith)) (and_parts (leb p high) _ below).1

-- a field that number 3 passes is usable
pub field_usable : (rec : List ℕ) → field_bad rec ≡ false → usable (header_of rec).field ≡ true
unfolding field_bad header_of usable
field_usable rec e =
    by_test (eqb (get_or rec 0 0) 1)
    (λ t. rw t (usable_in 3 251 (get_or rec 1 0) (omega arith) (not-false _ (rw t at e))))
    (λ t.
    by_test (eqb (get_or rec 0 0) 3)
    (λ u. rw (t, u) (usable_in 257 65521 (pair_at rec 1) (omega arith) (not-false _ (rw (t, u) at e))))
    (λ u. rw (t, u)))

-- a record that holds a header meets no number, and the header is its own
pub held_header : (rec : List ℕ) (h : Header) → record_of rec ≡ Ok h → (record_fault rec ≡ 0) × (header_of rec ≡ h)
unfolding record_of judged
held_header rec h e = go (record_fault rec) refl
  where
    go : (f : ℕ) → record_fault rec ≡ f → (record_fault rec ≡ 0) × (header_of rec ≡ h)
    go zero q = (q, let w : judged zero (header_of rec) ≡ Ok h = rw q at e in cc)
    go (suc f) q = let w : judged (suc f) (header_of rec) ≡ Ok h = rw q at e in let z : ◌≡◌ {A = ℕ} 0 1 = cc in absurd (omega arith)

-- such a header is sound
pub accepted_sound : (rec : List ℕ) (h : Header) → record_of rec ≡ Ok h → Sound h
unfolding record_fault
accepted_sound rec h e =
    let (none, same) = held_header rec h e in
    let (one, after_one) = first_zero (when (kind_bad rec) 1) (first_of (when (body_bad rec) 2) (first_of (when (field_bad rec) 3) (header_fault (header_of rec)))) none in
    let (two, after_two) = first_zero (when (body_bad rec) 2) (first_of (when (field_bad rec) 3) (header_fault (header_of rec))) after_one in
    let (three, rest) = first_zero (when (field_bad rec) 3) (header_fault (header_of rec)) after_two in
    subst Sound same (header_sound (header_of rec) (field_usable rec (when_zero (field_bad rec) 2 three)) rest)

-- so the header of a record that no number turns away is sound
pub faultless_sound : (rec : List ℕ) → record_fault rec ≡ 0 → Sound (header_of rec)
unfolding record_of judged
faultless_sound rec none = accepted_sound rec (header_of rec) (rw none)
