-- Every entry of the table by one computed test: the prime, the order of the root, and that no larger number will do.
use mathlib.Core.Path.{◌≡◌, refl, sym, ap, ◌∙◌}
use mathlib.Core.Bool.{Bool, true, false, not, ◌&&◌, true≢false}
use Prim.Native.Nat.{ℕ, zero, suc, ◌+◌, ◌-◌, ◌*◌, ◌/◌, ◌%◌, ◌≤◌, ◌<◌}
use native.Mathlib.Nat.{suc-mul, zero-mul, add-mul, one-mul, mul-le-mul_right, div-add-mod', lt_of_not-le}
use native.Mathlib.Omega.{arith}
use borrow.Author.Tests.{eqb-true, eqb-false, leb-true, leb-false, eq-eqb, le-leb, le-ltb}
use lib.Dec.{T, eqb, ltb, leb, eqb→eq, ltb→lt}
use lib.ListN.{get_or}
use Rattle.lists.specs.Choice.{pick}
use Rattle.std.proofs.lemmas.Bool.{and_from, and_parts, or_parts}
use Rattle.lists.proofs.Cases.{by_test}
use Rattle.field.specs.Bytes.{times_x, product_from, product}
use Rattle.field.specs.Primes.{divides_some, is_prime}
use Rattle.field.specs.Fields.{mul, order_from, order_of}
use Rattle.field.proofs.Computed.{both, both_left, both_right, every, at}
use Rattle.field.proofs.Primes.{trial, composite}
use Rattle.choose.specs.Table.{prime_table, root_table, prime_for, root_for}

-- q, q + n, .. below 65,536 have divisors
none_from : ℕ → ℕ → ℕ → Bool
none_from zero q n = false
none_from (suc f) q n = pick (ltb 65535 q) true (both (divides_some 255 q) (none_from f (q + n) n))

-- an entry over the field of 256 elements, and over a prime
bytes_entry : ℕ → ℕ → Bool
bytes_entry n r = both (eqb (255 % n) 0) (both (ltb r 256) (eqb (order_of 0 r) n))

prime_entry : ℕ → ℕ → ℕ → Bool
prime_entry n p r =
    both (not (eqb (255 % n) 0))
    (both (ltb 34815 p)
    (both (ltb p 65522)
    (both (not (divides_some 255 p))
    (both (ltb r p)
    (both (eqb (order_of p r) n)
    (both (eqb (p % n) 1) (none_from 40 (p + n) n)))))))

entry : ℕ → Bool
entry i = let p = get_or prime_table i 0 in let r = get_or root_table i 0 in pick (eqb p 0) (bytes_entry (i + 2) r) (prime_entry (i + 2) p r)

all_entries : T (every 254 entry)
unfolding prime_table root_table divides_some order_of order_from mul product product_from times_x entry bytes_entry prime_entry none_from
all_entries = tt

-- a test that fails
no_test : (b : Bool) → T (not b) → b ≡ false
no_test true t = absurd t
no_test false t = refl

-- numbers up to d that divide none, and one that does
no_small : (d p : ℕ) → divides_some d p ≡ false → (k : ℕ) → k ≤ d → 2 ≤ k → p % k ≡ 0 → ⊥
unfolding divides_some
no_small zero p h k high low e = omega arith
no_small (suc d) p h k high low e =
    by_test (eqb k (suc d))
    (λ q.
    let same = eqb-true k (suc d) q in
    let here : eqb (p % suc d) 0 ≡ true = eq-eqb (p % suc d) 0 (rw same at e) in
    let two : leb 2 (suc d) ≡ true = le-leb 2 (suc d) (omega arith) in
    true≢false (sym (and_from _ _ two here) ∙ (or_parts (leb 2 (suc d) && eqb (p % suc d) 0) (divides_some d p) h).0))
    (λ q. no_small d p (or_parts (leb 2 (suc d) && eqb (p % suc d) 0) (divides_some d p) h).1 k (omega (arith, eqb-false k (suc d) q)) low e)

some_small : (d p : ℕ) → d < p → T (divides_some d p) → is_prime p ≡ false
unfolding divides_some
some_small zero p h t = absurd t
some_small (suc d) p h t =
    by_test (leb 2 (suc d) && eqb (p % suc d) 0)
    (λ q. composite p (suc d) (leb-true 2 (suc d) (and_parts _ (eqb (p % suc d) 0) q).0) h (eqb-true (p % suc d) 0 (and_parts (leb 2 (suc d)) _ q).1))
    (λ q. some_small d p (omega arith) (rw q at t))

-- a number that is in range is tested
rest : (f q n : ℕ) → T (none_from (suc f) q n) → q < 65536 → T (both (divides_some 255 q) (none_from f (q + n) n))
unfolding none_from
rest f q n t h = rw (le-ltb 65535 q (omega arith)) at t

none_from_lem : (f q n : ℕ) → T (none_from f q n) → (j : ℕ) → q + j * n < 65536 → T (divides_some 255 (q + j * n))
unfolding none_from
none_from_lem zero q n t j h = absurd t
none_from_lem (suc f) q n t zero h =
    let same : q + 0 * n ≡ q = omega (arith, zero-mul n) in
    rw same (both_left (divides_some 255 q) (none_from f (q + n) n) (rest f q n t (omega arith)))
none_from_lem (suc f) q n t (suc j) h =
    let same : q + suc j * n ≡ q + n + j * n = omega (arith, suc-mul j n) in
    rw same (none_from_lem f (q + n) n (both_right (divides_some 255 q) (none_from f (q + n) n) (rest f q n t (omega arith))) j (omega (arith, same)))

-- what the test says of an entry
pub record BytesEntry (n r : ℕ) : Type 0 where
  pub divides : 255 % n ≡ 0
  pub below : r < 256
  pub order : order_of 0 r ≡ n

pub record PrimeEntry (n p r : ℕ) : Type 0 where
  pub divides : 255 % n ≡ 0 → ⊥
  pub large : 34815 < p
  pub small : p ≤ 65521
  pub prime : is_prime p ≡ true
  pub below : r < p
  pub order : order_of p r ≡ n
  pub best : (q : ℕ) → is_prime q ≡ true → q % n ≡ 1 → q < 65536 → q ≤ p

bytes_entry_lem : (n r : ℕ) → T (bytes_entry n r) → BytesEntry n r
unfolding bytes_entry
bytes_entry_lem n r t =
    let a = both_right (eqb (255 % n) 0) _ t in
    record {
      divides = eqb→eq (255 % n) 0 (both_left (eqb (255 % n) 0) _ t);
      below = ltb→lt r 256 (both_left (ltb r 256) _ a);
      order = eqb→eq (order_of 0 r) n (both_right (ltb r 256) _ a);
    }

-- a larger q that leaves 1 too is among those that have divisors
larger : (n p q : ℕ) → 2 ≤ n → n ≤ 255 → p % n ≡ 1 → 255 < p → T (none_from 40 (p + n) n) → is_prime q ≡ true → q % n ≡ 1 → q < 65536 → q ≤ p
larger n p q two byte one some t prime leaves word =
    by_test (leb q p)
    (λ e. leb-true q p e)
    (λ e.
    let more = leb-false q p e in
    let a = p / n in
    let b = q / n in
    let pq : a * n + 1 ≡ p = ap (λ (x : ℕ). p / n * n + x) (sym one) ∙ div-add-mod' p n in
    let qq : b * n + 1 ≡ q = ap (λ (x : ℕ). q / n * n + x) (sym leaves) ∙ div-add-mod' q n in
    let less : a < b = lt_of_not-le (λ h. omega (arith, mul-le-mul_right n h)) in
    let j = b - a - 1 in
    let sum : b ≡ a + 1 + j = omega arith in
    let is : p + n + j * n ≡ q = omega (arith, ap (λ (x : ℕ). x * n) sum, add-mul (a + 1) j n, add-mul a 1 n, one-mul n) in
    let divided : T (divides_some 255 q) = rw is at (none_from_lem 40 (p + n) n t j (omega arith)) in
    absurd (true≢false (sym prime ∙ some_small 255 q (omega arith) divided)))

prime_entry_lem : (n p r : ℕ) → 2 ≤ n → n ≤ 255 → T (prime_entry n p r) → PrimeEntry n p r
unfolding prime_entry
prime_entry_lem n p r two byte t =
    let a = both_right (not (eqb (255 % n) 0)) _ t in
    let b = both_right (ltb 34815 p) _ a in
    let c = both_right (ltb p 65522) _ b in
    let d = both_right (not (divides_some 255 p)) _ c in
    let e = both_right (ltb r p) _ d in
    let f = both_right (eqb (order_of p r) n) _ e in
    let large = ltb→lt 34815 p (both_left (ltb 34815 p) _ a) in
    let small = ltb→lt p 65522 (both_left (ltb p 65522) _ b) in
    let none = no_small 255 p (no_test (divides_some 255 p) (both_left (not (divides_some 255 p)) _ c)) in
    record {
      divides = eqb-false (255 % n) 0 (no_test (eqb (255 % n) 0) (both_left (not (eqb (255 % n) 0)) _ t));
      large = large;
      small = omega arith;
      prime = trial p 256 (omega arith) (omega arith) (λ k less low e. none k (omega arith) low e);
      below = ltb→lt r p (both_left (ltb r p) _ d);
      order = eqb→eq (order_of p r) n (both_left (eqb (order_of p r) n) _ e);
      best = λ q prime leaves word. larger n p q two byte (eqb→eq (p % n) 1 (both_left (eqb (p % n) 1) _ f)) (omega arith) (both_right (eqb (p % n) 1) _ f) prime leaves word;
    }

-- the two kinds of entry
module _ (n : ℕ) (two : 2 ≤ n) (byte : n ≤ 255) where
  pub entries : {A : Type 0} → (eqb (prime_for n) 0 ≡ true → BytesEntry n (root_for n) → A) → (eqb (prime_for n) 0 ≡ false → PrimeEntry n (prime_for n) (root_for n) → A) → A
  unfolding prime_for root_for entry
  entries bytes prime =
      let here : n - 2 + 2 ≡ n = omega arith in
      let t : T (pick (eqb (prime_for n) 0) (bytes_entry n (root_for n)) (prime_entry n (prime_for n) (root_for n))) = rw here at (at 254 entry all_entries (n - 2) (omega arith)) in
      by_test (eqb (prime_for n) 0)
      (λ e. bytes e (bytes_entry_lem n (root_for n) (rw e at t)))
      (λ e. prime e (prime_entry_lem n (prime_for n) (root_for n) two byte (rw e at t)))
