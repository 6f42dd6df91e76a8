-- What the documents fix of records: the primes that number 3 passes, the numbers of two bytes, and the roots that number 5 passes.
use mathlib.Core.Path.{◌≡◌, refl, sym, ap, ◌∙◌}
use mathlib.Core.Logic.{◌↔◌}
use mathlib.Core.Bool.{true, false, ◌&&◌, not, true≢false}
use mathlib.Core.List.{[], ◌∷◌}
use Prim.Native.Nat.{ℕ, ◌+◌, ◌*◌, ◌/◌, ◌%◌, ◌≤◌, ◌<◌}
use native.Mathlib.Nat.{div_self, div-add-mod', mul-mod_right, mul-le-mul_left, mul-le-mul_right, lt_of_not-le}
use native.Mathlib.Omega.{arith}
use borrow.Author.Tests.{ltb-true, lt-ltb, leb-true, le-leb, eqb-true, eq-eqb, not-false}
use lib.Dec.{eqb, ltb, leb}
use Rattle.lists.specs.Choice.{first_of, when}
use Rattle.std.proofs.lemmas.Bool.{and_from, and_parts}
use Rattle.lists.proofs.Cases.{by_test}
use Rattle.field.specs.Primes.{is_prime}
use Rattle.field.specs.Fields.{power, order_of}
use Rattle.field.specs.Kinds.{modulus, usable}
use Rattle.field.proofs.BothKinds.{arithmetic}
use Rattle.field.proofs.KindLaws.{usable_field}
use Rattle.field.proofs.Orders.{FirstFrom, order_from_lem, order_finds}
use Rattle.field.proofs.Primes.{prime_no_divisor, trial}
use Rattle.generator.specs.declared.Header.{Header}
use Rattle.generator.specs.Records.{header_of, modulus_of, size, kind_bad, body_bad, prime_in, field_bad, size_bad, root_bad, header_fault, record_fault}
use Rattle.generator.specs.Pinned.{PrimeFrom, HasOrder}
use Rattle.generator.proofs.Faults.{sizes}

-- the test of number 3 passes just the primes of the range
module _ (low high p : ℕ) (two : 2 ≤ low) where
  pub prime_test : prime_in low high p ≡ true → PrimeFrom low high p
  unfolding prime_in
  prime_test e =
      let rest : (leb p high && is_prime p) ≡ true = (and_parts (leb low p) _ e).1 in
      let prime : is_prime p ≡ true = (and_parts (leb p high) _ rest).1 in
      record {
        above = leb-true low p (and_parts _ (leb p high && is_prime p) e).0;
        below = leb-true p high (and_parts _ (is_prime p) rest).0;
        no_product = λ a b la lb is. prime_no_divisor p prime a la (omega (arith, is, mul-le-mul_left a lb)) (ap (λ (x : ℕ). x % a) (sym is) ∙ mul-mod_right a b);
      }

  -- a number that divides p leaves another factor
  factor : PrimeFrom low high p → (d : ℕ) → d < p → 2 ≤ d → p % d ≡ 0 → ⊥
  factor f d less many divides =
      let whole : p / d * d ≡ p = omega (arith, div-add-mod' p d) in
      f.no_product (p / d) d (lt_of_not-le (λ h. omega (arith, mul-le-mul_right d h, whole))) many whole

  pub test_prime : PrimeFrom low high p → prime_in low high p ≡ true
  unfolding prime_in
  test_prime f =
      let above = f.above in
      let one : p / p < p = rw (div_self {n = p} (omega arith)) (omega arith) in
      and_from _ _ (le-leb low p above) (and_from _ _ (le-leb p high f.below) (trial p p (omega arith) one (factor f)))

  -- so a number after the test is 3 just where p is none
  pub three : (others : ℕ) → (others ≡ 3 → ⊥) → (first_of (when (not (prime_in low high p)) 3) others ≡ 3) ↔ (PrimeFrom low high p → ⊥)
  three others not_three =
      by_test (prime_in low high p)
      (λ t. (λ e f. not_three (rw t at e), λ none. absurd (none (prime_test t))))
      (λ t. (λ e f. true≢false (sym (test_prime f) ∙ t), λ none. rw t))

-- numbers 4 and 5 are not 3
not_three : (h : Header) → header_fault h ≡ 3 → ⊥
unfolding header_fault
not_three h e =
    by_test (size_bad h)
    (λ t. let four : ◌≡◌ {A = ℕ} 4 3 = rw t at e in omega arith)
    (λ t. by_test (root_bad h) (λ u. let five : ◌≡◌ {A = ℕ} 5 3 = rw (t, u) at e in omega arith) (λ u. let none : ◌≡◌ {A = ℕ} 0 3 = rw (t, u) at e in omega arith))

pub one_byte_field : (p root n k : ℕ) → (record_fault (1 ∷ p ∷ root ∷ n ∷ k ∷ []) ≡ 3) ↔ (PrimeFrom 3 251 p → ⊥)
unfolding record_fault kind_bad body_bad field_bad
one_byte_field p root n k = three 3 251 p (omega arith) (header_fault (header_of (1 ∷ p ∷ root ∷ n ∷ k ∷ []))) (not_three _)

pub two_byte_field : (p₁ p₂ root₁ root₂ n k : ℕ) → (record_fault (3 ∷ p₁ ∷ p₂ ∷ root₁ ∷ root₂ ∷ n ∷ k ∷ []) ≡ 3) ↔ (PrimeFrom 257 65521 (p₁ * 256 + p₂) → ⊥)
unfolding record_fault kind_bad body_bad field_bad
two_byte_field p₁ p₂ root₁ root₂ n k = three 257 65521 (p₁ * 256 + p₂) (omega arith) (header_fault (header_of (3 ∷ p₁ ∷ p₂ ∷ root₁ ∷ root₂ ∷ n ∷ k ∷ []))) (not_three _)

-- the numbers of a record of kind 3
pub two_byte_header : (p₁ p₂ root₁ root₂ n k : ℕ) →
    let h = header_of (3 ∷ p₁ ∷ p₂ ∷ root₁ ∷ root₂ ∷ n ∷ k ∷ []) in
    (modulus_of h ≡ p₁ * 256 + p₂) × (h.root ≡ root₁ * 256 + root₂) × (h.n ≡ n) × (h.k ≡ k)
unfolding header_of modulus
two_byte_header p₁ p₂ root₁ root₂ n k = (refl, refl, refl, refl)

-- the test of number 5 passes just the symbols of order n
module _ (h : Header) (usable : usable h.field ≡ true) (size_good : size_bad h ≡ false) where
  -- the first power is the root itself
  first_power : h.root < size h → power (modulus_of h) h.root 1 ≡ h.root
  unfolding power
  first_power low = (arithmetic (modulus_of h) (usable_field h.field usable)).mul-one h.root low

  pub root_test : root_bad h ≡ false → HasOrder (size h) (modulus_of h) h.root h.n
  unfolding root_bad order_of
  root_test e =
      let both : (ltb h.root (size h) && eqb (order_of (modulus_of h) h.root) h.n) ≡ true = not-false _ e in
      let low = ltb-true h.root (size h) (and_parts _ (eqb (order_of (modulus_of h) h.root) h.n) both).0 in
      let order = eqb-true (order_of (modulus_of h) h.root) h.n (and_parts (ltb h.root (size h)) _ both).1 in
      let first = order_from_lem (modulus_of h) h.root 256 1 h.root h.n (first_power low) (omega (arith, (sizes h size_good).0)) order in
      record { symbol = low; returns = first.one; least = first.before }

  pub test_root : HasOrder (size h) (modulus_of h) h.root h.n → root_bad h ≡ false
  unfolding root_bad order_of
  test_root o =
      let first : FirstFrom (modulus_of h) h.root 1 h.n = record { from = omega (arith, (sizes h size_good).0); one = o.returns; before = o.least } in
      let order : order_of (modulus_of h) h.root ≡ h.n = order_finds (modulus_of h) h.root 256 1 h.root h.n (first_power o.symbol) (omega (arith, (sizes h size_good).1)) first in
      ap not (and_from _ _ (lt-ltb h.root (size h) o.symbol) (eq-eqb _ h.n order))

  pub root : (header_fault h ≡ 5) ↔ (HasOrder (size h) (modulus_of h) h.root h.n → ⊥)
  unfolding header_fault
  root =
      rw size_good
      (by_test (root_bad h)
      (λ t. (λ e o. true≢false (sym t ∙ test_root o), λ none. rw t))
      (λ t. (λ e o. let five : ◌≡◌ {A = ℕ} 0 5 = rw t at e in omega arith, λ none. absurd (none (root_test t)))))
