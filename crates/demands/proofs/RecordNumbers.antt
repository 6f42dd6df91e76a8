-- Numbers 1 to 5: the record's number is the lowest that is met.
use mathlib.Core.Path.{◌≡◌, refl, sym, ◌∙◌}
use mathlib.Core.Logic.{◌↔◌, ◌≢◌, ◌⊎◌, inl, inr, ⊎_elim}
use mathlib.Core.Bool.{true, false, ◌||◌, not, true≢false}
use mathlib.Core.List.{List, ◌++◌}
use Prim.Native.Nat.{ℕ, ◌+◌, ◌*◌, ◌<◌}
use native.Mathlib.Omega.{arith}
use borrow.Author.Tests.{eqb-true, eqb-false}
use lib.Dec.{eqb, ltb}
use lib.ListN.{length, get_or}
use Rattle.lists.specs.Choice.{first_of}
use Rattle.std.proofs.lemmas.Bool.{or_parts}
use Rattle.lists.proofs.Cases.{by_test}
use Rattle.generator.specs.declared.Header.{Header}
use Rattle.generator.specs.Records.{header_of, modulus_of, size, pair_at, kind_bad, body_bad, prime_in, field_bad, size_bad, root_bad, header_fault, record_fault}
use Rattle.generator.proofs.Accepts.{field_usable}
use Rattle.generator.specs.Pinned.{PrimeFrom, HasOrder}
use Rattle.generator.proofs.PinnedRecords.{prime_test, test_prime, root_test, test_root}
use Rattle.demands.specs.Numbers.{kind, record_numbers}
use Rattle.demands.specs.Judging.{Table}
use Rattle.demands.proofs.Judging.{Tells, all_from, line, last, then}
use Rattle.demands.proofs.Conditions.{equal_test, other_test, less_test, not_test, or_test}

-- three numbers that a number is none of
none_of_three : (x a b c : ℕ) → (not (eqb x a || (eqb x b || eqb x c)) ≡ true) ↔ ((x ≢ a) × (x ≢ b) × (x ≢ c))
none_of_three x a b c =
    let some = not_test (eqb x a || (eqb x b || eqb x c)) (or_test (eqb x a) (eqb x b || eqb x c) (equal_test x a) (or_test (eqb x b) (eqb x c) (equal_test x b) (equal_test x c))) in (
      λ e. let none = some.0 e in (λ q. none (inl q), λ q. none (inr (inl q)), λ q. none (inr (inr q))),
      λ none. some.1 (⊎_elim none.0 (⊎_elim none.1 none.2)),
    )

module _ (rec : List ℕ) where
  abbrev h : Header
  h = header_of rec

  abbrev first : ℕ
  first = kind rec

  kind_means : (kind_bad rec ≡ true) ↔ ((length rec ≡ 0) ⊎ ((first ≢ 1) × (first ≢ 2) × (first ≢ 3)))
  unfolding kind_bad
  kind_means = or_test (eqb (length rec) 0) _ (equal_test (length rec) 0) (none_of_three first 1 2 3)

  -- a kind that is neither 1 nor 3 is 2
  two_left : kind_bad rec ≡ false → eqb first 1 ≡ false → eqb first 3 ≡ false → first ≡ 2
  unfolding kind_bad
  two_left good one three =
      by_test (eqb first 2) (eqb-true first 2)
      (λ t. absurd (true≢false (or_parts (eqb (length rec) 0) _ (rw (one, three, t) at good)).1))

  body_means : kind_bad rec ≡ false → (body_bad rec ≡ true) ↔ (((first ≡ 1) × (length rec ≢ 5)) ⊎ ((first ≡ 2) × (length rec ≢ 4)) ⊎ ((first ≡ 3) × (length rec ≢ 7)))
  unfolding body_bad
  body_means good =
      by_test (eqb first 1)
      (λ t. let is = eqb-true first 1 t in rw t (
        λ e. inl (is, (other_test (length rec) 5).0 e),
        ⊎_elim (λ x. (other_test (length rec) 5).1 x.1) (⊎_elim (λ x. absurd (omega (arith, x.0))) (λ x. absurd (omega (arith, x.0)))),
      ))
      (λ t. let not_one = eqb-false first 1 t in
      by_test (eqb first 3)
      (λ u. let is = eqb-true first 3 u in rw (t, u) (
        λ e. inr (inr (is, (other_test (length rec) 7).0 e)),
        ⊎_elim (λ x. absurd (omega (arith, x.0))) (⊎_elim (λ x. absurd (omega (arith, x.0))) (λ x. (other_test (length rec) 7).1 x.1)),
      ))
      (λ u. let is = two_left good t u in rw (t, u) (
        λ e. inr (inl (is, (other_test (length rec) 4).0 e)),
        ⊎_elim (λ x. absurd (omega (arith, x.0))) (⊎_elim (λ x. (other_test (length rec) 4).1 x.1) (λ x. absurd (omega (arith, x.0)))),
      )))

  field_means : (field_bad rec ≡ true) ↔ (((first ≡ 1) × (PrimeFrom 3 251 (get_or rec 1 0) → ⊥)) ⊎ ((first ≡ 3) × (PrimeFrom 257 65521 (get_or rec 1 0 * 256 + get_or rec 2 0) → ⊥)))
  unfolding field_bad
  field_means =
      let small = not_test (prime_in 3 251 (get_or rec 1 0)) (prime_test 3 251 _ (omega arith), test_prime 3 251 _ (omega arith)) in
      let large = not_test (prime_in 257 65521 (pair_at rec 1)) (prime_test 257 65521 _ (omega arith), test_prime 257 65521 _ (omega arith)) in
      by_test (eqb first 1)
      (λ t. let is = eqb-true first 1 t in rw t (
        λ e. inl (is, small.0 e),
        ⊎_elim (λ x. small.1 x.1) (λ x. absurd (omega (arith, x.0))),
      ))
      (λ t. let not_one = eqb-false first 1 t in
      by_test (eqb first 3)
      (λ u. let is = eqb-true first 3 u in rw (t, u) (
        λ e. inr (is, large.0 e),
        ⊎_elim (λ x. absurd (not_one x.0)) (λ x. large.1 x.1),
      ))
      (λ u. let not_three = eqb-false first 3 u in rw (t, u) (
        λ e. absurd (true≢false (sym e)),
        ⊎_elim (λ x. absurd (not_one x.0)) (λ x. absurd (not_three x.0)),
      )))

  size_means : (size_bad h ≡ true) ↔ ((h.n < 2) ⊎ (255 < h.n) ⊎ (h.k ≡ 0) ⊎ (h.n < h.k))
  unfolding size_bad
  size_means =
      or_test (ltb h.n 2) _ (less_test h.n 2)
      (or_test (ltb 255 h.n) _ (less_test 255 h.n)
      (or_test (eqb h.k 0) _ (equal_test h.k 0) (less_test h.n h.k)))

  -- where numbers 3 and 4 are not met
  root_means : field_bad rec ≡ false → size_bad h ≡ false → (root_bad h ≡ true) ↔ (HasOrder (size h) (modulus_of h) h.root h.n → ⊥)
  root_means three four =
      let usable = field_usable rec three in (
        λ e order. true≢false (sym e ∙ test_root h usable four order),
        λ none. by_test (root_bad h) (λ t. t) (λ t. absurd (none (root_test h usable four t))),
      )

  pub record_tells : Tells (record_numbers rec) (record_fault rec)
  unfolding record_fault header_fault
  record_tells =
      line 0 (kind_bad rec) refl kind_means
      (λ one. line 1 (body_bad rec) refl (body_means one)
      (λ two. line 2 (field_bad rec) refl field_means
      (λ three. line 3 (size_bad h) refl size_means
      (λ four. last 4 (root_bad h) (root_means three four)))))

-- the numbers of a call after those of its record
pub after_record : (rec : List ℕ) (own : Table) {number : ℕ} → all_from 5 own ≡ true → (record_fault rec ≡ 0 → Tells own number) → Tells (record_numbers rec ++ own) (first_of (record_fault rec) number)
after_record rec own low tells = then 5 (record_numbers rec) own refl low (record_tells rec) tells
