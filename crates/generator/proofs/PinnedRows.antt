-- What the documents fix of the rows: Lemma 2's shifts, and the nodes at which rows begin that are laid end to end.
use mathlib.Core.Path.{◌≡◌, sym, ap, ◌∙◌}
use mathlib.Core.Bool.{Bool, true, true≢false}
use mathlib.Core.List.{List}
use Prim.Native.Nat.{ℕ, ◌+◌, ◌-◌, ◌*◌, ◌/◌, ◌%◌, ◌≤◌, ◌<◌}
use native.Mathlib.Nat.{le_antisymm, le_of_dvd, eq_of_mul-eq-mul_left, mul_comm, mul-add-div_right, mul-add-mod_self_right, div-eq_of_lt, mod-eq_of_lt, mod-lt, mod-add-mod, mod_self, add-zero}
use native.Mathlib.Omega.{arith}
use borrow.Author.Tests.{eq-eqb, ne_eqb}
use lib.Dec.{ltb}
use lib.ListN.{get_or}
use Rattle.lists.specs.Counting.{passing_from}
use Rattle.lists.specs.Numbers.{is_in}
use Rattle.lists.proofs.All.{All-at}
use Rattle.lists.proofs.Cases.{by_test}
use Rattle.lists.proofs.Numbers.{is_in_place, place_is_in}
use Rattle.lists.proofs.Passing.{passing_place, passing_pass}
use Rattle.generator.specs.declared.Header.{Header}
use Rattle.generator.specs.Records.{Sound}
use Rattle.generator.specs.Shifts.{gcd, even_shifts, negative, period, laid_at, laid_shifts, is_even, shifts_of, firsts_of}
use Rattle.generator.specs.Pinned.{GreatestDivisor, PinnedRows}
use Rattle.generator.proofs.Gcd.{gcd_left, gcd_right, gcd_pos, divides_gcd}
use Rattle.generator.proofs.EvenShifts.{taken, around, is_shift, times_taken, times_around, even_are, even_rise, even_length}
use Rattle.generator.proofs.LaidShifts.{times_period, laid_at_lem, laid_begin}
use Rattle.generator.proofs.Shifts.{firsts_at}

-- a greatest common divisor is what Euclid's algorithm gives
greatest_is : (a b g : ℕ) → 0 < b → GreatestDivisor a b g → gcd a b ≡ g
greatest_is a b g pos is = le_antisymm (is.greatest (gcd a b) (gcd_left a b) (gcd_right a b)) (le_of_dvd (gcd_pos a b pos) (divides_gcd a b g is.left is.right))

-- what stands in a list of numbers that pass
passing_in : (f i : ℕ) (p : ℕ → Bool) (j : ℕ) → i ≤ j → j < i + f → is_in j (passing_from f i p) ≡ p j
passing_in f i p j low high =
    by_test (p j)
    (λ t. let (u, inside, here) = passing_place f i p j low high t in rw here at (place_is_in (passing_from f i p) u inside) ∙ sym t)
    (λ t.
    by_test (is_in j (passing_from f i p))
    (λ e.
    let (u, inside, here) = is_in_place j (passing_from f i p) e in
    absurd (true≢false (sym (rw here at (All-at (λ x. p x ≡ true) 0 (passing_from f i p) (passing_pass f i p) u inside)) ∙ t)))
    (λ e. e ∙ sym t))

-- a node and its negative make 0 modulo n
negative_sum : (n x : ℕ) → x < n → (negative n x + x) % n ≡ 0
unfolding negative
negative_sum n x low = let back : n - x + x ≡ n = omega arith in mod-add-mod (n - x) n x ∙ ap (λ (y : ℕ). y % n) back ∙ mod_self n

module _ (n k : ℕ) (some : 0 < k) (fits : k ≤ n) where
  abbrev d : ℕ
  d = n - k + 1

  -- which of the two rules
  even_rule : k * d % n ≡ 0 → shifts_of n k ≡ even_shifts n k
  unfolding shifts_of is_even
  even_rule even = rw (eq-eqb (k * d % n) 0 even)

  laid_rule : (k * d % n ≡ 0 → ⊥) → shifts_of n k ≡ laid_shifts n k
  unfolding shifts_of is_even
  laid_rule uneven = rw (ne_eqb (k * d % n) 0 uneven)

  -- Lemma 2's round, by any divisor that is the greatest
  module _ (g c t : ℕ) (is : GreatestDivisor k n g) (round : c * g ≡ n) (most : t * g ≡ k) where
    pos : 0 < gcd k n
    pos = gcd_pos k n (omega arith)

    same : gcd k n ≡ g
    same = greatest_is k n g (omega arith) is

    around_is : around n k ≡ c
    around_is = eq_of_mul-eq-mul_left (gcd k n) pos (around n k) c (times_around n k some fits ∙ sym round ∙ mul_comm c g ∙ ap (λ (x : ℕ). x * c) (sym same))

    taken_is : taken n k ≡ t
    taken_is = eq_of_mul-eq-mul_left (gcd k n) pos (taken n k) t (times_taken n k some fits ∙ sym most ∙ mul_comm t g ∙ ap (λ (x : ℕ). x * t) (sym same))

    taken_shifts : k * d % n ≡ 0 → (i : ℕ) → i < n → is_in i (shifts_of n k) ≡ ltb (i % c) t
    taken_shifts even i low =
        ap (is_in i) (even_rule even ∙ even_are n k some fits)
        ∙ passing_in n 0 (is_shift n k) i (omega arith) (omega arith)
        ∙ ap (λ (x : ℕ). ltb (i % x) (taken n k)) around_is
        ∙ ap (ltb (i % c)) taken_is

  rising_shifts : k * d % n ≡ 0 → (r : ℕ) → r + 1 < k → get_or (shifts_of n k) r 0 < get_or (shifts_of n k) (r + 1) 0
  rising_shifts even r row = rw (even_rule even) (even_rise n k some fits r (r + 1) (omega arith) (omega (arith, even_length n k some fits)))

  -- rows laid end to end
  module _ (g m : ℕ) (is : GreatestDivisor n d g) (whole : m * g ≡ n) where
    period_is : period n d ≡ m
    period_is =
        let pos = gcd_pos n d (omega arith) in
        eq_of_mul-eq-mul_left (gcd n d) pos (period n d) m (times_period n d (omega arith) (omega arith) ∙ sym whole ∙ mul_comm m g ∙ ap (λ (x : ℕ). x * m) (sym (greatest_is n d g (omega arith) is)))

    -- row c·m + i, by its number
    laid_is : (c i : ℕ) → i < m → laid_at n d (c * m + i) ≡ (c + i * d) % n
    unfolding laid_at
    laid_is c i low =
        let run : (c * m + i) / m ≡ c = mul-add-div_right (omega arith) c i ∙ ap (λ (x : ℕ). c + x) (div-eq_of_lt low) ∙ add-zero c in
        let place : (c * m + i) % m ≡ i = mul-add-mod_self_right c m i ∙ mod-eq_of_lt low in
        rw (period_is, run, place)

    laid_rows : (k * d % n ≡ 0 → ⊥) → (c i : ℕ) → i < m → c * m + i < k → (get_or (firsts_of n k) (c * m + i) 0 ≡ (c + i * d) % n) × ((get_or (shifts_of n k) (c * m + i) 0 + (c + i * d) % n) % n ≡ 0)
    laid_rows uneven c i low row =
        let r = c * m + i in
        let node = (c + i * d) % n in
        let inside : node < n = mod-lt (c + i * d) (omega arith) in (
          firsts_at n k some fits r row ∙ ap (λ (l : List ℕ). negative n (get_or l r 0)) (laid_rule uneven) ∙ laid_begin n k some fits r row ∙ laid_is c i low,
          ap (λ (l : List ℕ). (get_or l r 0 + node) % n) (laid_rule uneven)
              ∙ ap (λ (x : ℕ). (x + node) % n) (laid_at_lem n k some fits r row ∙ ap (negative n) (laid_is c i low))
              ∙ negative_sum n node inside,
        )

-- what holds of every sound header's rows
pub pinned_rows : (h : Header) → Sound h → PinnedRows h
pinned_rows h s =
    record {
      taken = λ even g c t is round most. taken_shifts h.n h.k s.some s.fits g c t is round most even;
      rising = rising_shifts h.n h.k s.some s.fits;
      laid = λ uneven g m is whole. laid_rows h.n h.k s.some s.fits g m is whole uneven;
    }
