-- Which records are accepted, and so which lines there are.
use mathlib.Core.Path.{◌≡◌, refl, ap, ◌∙◌}
use mathlib.Core.Bool.{true, ◌&&◌}
use mathlib.Core.List.{List, [], ◌∷◌, append-nil}
use Prim.Native.Nat.{ℕ, ◌+◌, ◌-◌, ◌≤◌, ◌<◌}
use native.Mathlib.Omega.{arith}
use borrow.Author.Tests.{leb-true, le-leb, lt-ltb, le-ltb, eq-eqb, ne_eqb}
use lib.Dec.{leb}
use Rattle.lists.specs.Rows.{rows_from}
use Rattle.std.proofs.lemmas.Bool.{and_parts}
use Rattle.lists.proofs.Cases.{by_test}
use Rattle.field.specs.Primes.{is_prime}
use Rattle.field.specs.Fields.{size_of, order_of}
use Rattle.field.specs.Kinds.{modulus}
use Rattle.field.proofs.Meanings.{prime_size}
use Rattle.generator.specs.Records.{header_of, kind_bad, body_bad, prime_in, field_bad, size_bad, root_bad, header_fault, record_fault}
use Rattle.generator.proofs.Accepts.{faultless_sound}
use Rattle.text.specs.Text.{decimal, line}
use Rattle.small_plans_text.specs.SmallPlans.{plan_line, size_lines, root_lines, field_lines, small_plans}
use Rattle.small_plans_text.proofs.OrderBound.{order_fits}
use Rattle.small_plans_text.proofs.Stretch.{rows_none, rows_part}

-- the record 1 p root n k
abbrev record_with : ℕ → ℕ → ℕ → ℕ → List ℕ
record_with p root n k = 1 ∷ p ∷ root ∷ n ∷ k ∷ []

-- its line
abbrev pub line_with : ℕ → ℕ → ℕ → ℕ → List ℕ
line_with p root n k = line (decimal p) (root ∷ n ∷ k ∷ [])

-- what is asked of it
pub record Asked (p root n k : ℕ) : Type 0 where
  pub least : 3 ≤ p
  pub prime : is_prime p ≡ true
  pub below : root < p
  pub order : order_of p root ≡ n
  pub two : 2 ≤ n
  pub some : 0 < k
  pub fits : k ≤ n

module _ (p root n k : ℕ) where
  -- number 3
  field_good : record_fault (record_with p root n k) ≡ 0 → (leb 3 p && (leb p 251 && is_prime p)) ≡ true
  unfolding record_fault kind_bad body_bad field_bad prime_in
  field_good none = by_test (leb 3 p && (leb p 251 && is_prime p)) (λ t. t) (λ t. let three : ◌≡◌ {A = ℕ} 3 0 = rw t at none in absurd (omega arith))

  accepted_asked : record_fault (record_with p root n k) ≡ 0 → Asked p root n k
  unfolding header_of modulus
  accepted_asked none =
      let s = faultless_sound (record_with p root n k) none in
      let low : (leb p 251 && is_prime p) ≡ true = (and_parts (leb 3 p) _ (field_good none)).1 in
      let prime_p : is_prime p ≡ true = (and_parts (leb p 251) _ low).1 in
      let symbol : root < size_of p = s.root_below in
      record {
        least = leb-true 3 p (and_parts _ (leb p 251 && is_prime p) (field_good none)).0;
        prime = prime_p;
        below = rw (prime_size p prime_p) at symbol;
        order = s.order;
        two = s.two;
        some = s.some;
        fits = s.fits;
      }

  asked_accepted : p ≤ 31 → Asked p root n k → record_fault (record_with p root n k) ≡ 0
  unfolding record_fault kind_bad body_bad field_bad prime_in header_fault header_of size_bad root_bad modulus
  asked_accepted small a =
      rw (
        le-leb 3 p a.least,
        le-leb p 251 (omega arith),
        a.prime,
        le-ltb n 2 a.two,
        le-ltb 255 n (omega (arith, a.order, order_fits p root a.prime a.below)),
        ne_eqb k 0 (λ e. omega (arith, a.some)),
        le-ltb n k a.fits,
        prime_size p a.prime,
        lt-ltb root p a.below,
        eq-eqb (order_of p root) n a.order,
      )

  line_there : p ≤ 31 → Asked p root n k → plan_line p root n k ≡ line_with p root n k
  unfolding plan_line
  line_there small a = rw (eq-eqb (record_fault (record_with p root n k)) 0 (asked_accepted small a))

  line_none : (Asked p root n k → ⊥) → plan_line p root n k ≡ []
  unfolding plan_line
  line_none h = rw (ne_eqb (record_fault (record_with p root n k)) 0 (λ e. h (accepted_asked e)))

-- n is the order of the root
one_size : (p root n k : ℕ) → order_of p root ≡ n → n < 256 → size_lines p root k ≡ plan_line p root n k
unfolding size_lines rows_from
one_size p root n k o byte =
    let g : ℕ → List ℕ = λ x. plan_line p root x k in
    let one : n + 1 - n ≡ 1 = omega arith in
    rows_part g g n (n + 1) 256 (omega arith) (omega arith)
    (λ x l. line_none p root x k (λ a. omega (arith, a.order)))
    (λ x a b. refl)
    (λ x l u. line_none p root x k (λ a. omega (arith, a.order)))
    ∙ ap (rows_from g n) one
    ∙ append-nil (g n)

size_none : (p root k : ℕ) → ((n : ℕ) → Asked p root n k → ⊥) → size_lines p root k ≡ []
unfolding size_lines
size_none p root k h = rows_none (λ n. plan_line p root n k) 0 256 (λ n a b. line_none p root n k (h n))

pub root_none : (p root : ℕ) → ((n k : ℕ) → Asked p root n k → ⊥) → root_lines p root ≡ []
unfolding root_lines
root_none p root h = rows_none (size_lines p root) 0 256 (λ k a b. size_none p root k (λ n. h n k))

pub field_none : (p : ℕ) → ((root n k : ℕ) → Asked p root n k → ⊥) → field_lines p ≡ []
unfolding field_lines
field_none p h = rows_none (root_lines p) 0 256 (λ root a b. root_none p root (h root))

-- k goes from 1 to n
pub root_lines_lem : (p root n : ℕ) → 3 ≤ p → p ≤ 31 → is_prime p ≡ true → root < p → order_of p root ≡ n → 2 ≤ n → n ≤ p → root_lines p root ≡ rows_from (line_with p root n) 1 (n + 1 - 1)
unfolding root_lines
root_lines_lem p root n three small prime_p low o two_n most =
    rows_part (size_lines p root) (line_with p root n) 1 (n + 1) 256 (omega arith) (omega arith)
    (λ k l. size_none p root k (λ m a. omega (arith, a.some)))
    (λ k a b.
    one_size p root n k o (omega arith)
    ∙ line_there p root n k small (record { least = three; prime = prime_p; below = low; order = o; two = two_n; some = omega arith; fits = omega arith }))
    (λ k l u. size_none p root k (λ m a. omega (arith, a.order, a.fits)))

-- the root is below p
pub field_lines_lem : (p : ℕ) → p ≤ 31 → field_lines p ≡ rows_from (root_lines p) 0 (p - 0)
unfolding field_lines
field_lines_lem p small =
    rows_part (root_lines p) (root_lines p) 0 p 256 (omega arith) (omega arith)
    (λ root l. absurd (omega arith))
    (λ root a b. refl)
    (λ root l u. root_none p root (λ n k a. omega (arith, a.below)))

-- p is at least 3
pub all_lines : small_plans ≡ rows_from field_lines 3 (32 - 3)
unfolding small_plans
all_lines =
    rows_part field_lines field_lines 3 32 32 (omega arith) (omega arith)
    (λ p l. field_none p (λ root n k a. omega (arith, a.least)))
    (λ p a b. refl)
    (λ p l u. absurd (omega arith))
