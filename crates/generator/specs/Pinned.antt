-- What the documents fix of records and rows, each in words of its own: definitions that fit each other and say something else are ruled out here.
use Rattle.std.specs.Prelude.{◌≡◌, ◌↔◌, true, false, List, [], ◌∷◌, ℕ, ◌+◌, ◌-◌, ◌*◌, ◌%◌, ◌≤◌, ◌<◌, ltb, get_or}
use Rattle.std.specs.Int.{◌∣◌}
use Rattle.lists.specs.Numbers.{is_in}
use Rattle.lists.specs.Rows.{from}
use Rattle.field.specs.Fields.{power}
use Rattle.field.specs.Kinds.{usable}
use Rattle.generator.specs.declared.Header.{Header}
use Rattle.generator.specs.Records.{header_of, modulus_of, size, size_bad, header_fault, record_fault}
use Rattle.generator.specs.Shifts.{shifts, firsts}
use Rattle.generator.specs.Generator.{entry}
use Rattle.generator.specs.Codewords.{encoding}
use Rattle.generator.specs.Claims.{reads}

-- p is a prime from `low` to `high`: no product of two numbers from 2 on
pub record PrimeFrom (low high p : ℕ) : Type 0 where
  pub above : low ≤ p
  pub below : p ≤ high
  pub no_product : (a b : ℕ) → 2 ≤ a → 2 ≤ b → a * b ≡ p → ⊥

-- a is a symbol of the field of q elements that p names, of order exactly n: its n-th power is 1, and none before it
pub record HasOrder (q p a n : ℕ) : Type 0 where
  pub symbol : a < q
  pub returns : power p a n ≡ 1
  pub least : (e : ℕ) → 0 < e → e < n → power p a e ≡ 1 → ⊥

-- the greatest common divisor of a and b
pub record GreatestDivisor (a b divisor : ℕ) : Type 0 where
  pub left : divisor ∣ a
  pub right : divisor ∣ b
  pub greatest : (c : ℕ) → c ∣ a → c ∣ b → c ≤ divisor

-- the rows of an accepted plan
pub record PinnedRows (h : Header) : Type 0 where
  -- Lemma 2, where n divides k·d: with g = gcd(k, n), of each round of n / g numbers the first k / g, which are `many`, are shifts, rising
  pub taken : h.k * (h.n - h.k + 1) % h.n ≡ 0 → (divisor round many : ℕ) → GreatestDivisor h.k h.n divisor → round * divisor ≡ h.n → many * divisor ≡ h.k → (i : ℕ) → i < h.n → is_in i (shifts h) ≡ ltb (i % round) many
  pub rising : h.k * (h.n - h.k + 1) % h.n ≡ 0 → (r : ℕ) → r + 1 < h.k → get_or (shifts h) r 0 < get_or (shifts h) (r + 1) 0
  -- rows laid end to end, where it does not: with g = gcd(n, d) and rounds of n / g rows, row i of a turn begins at node (turn + i·d) mod n, and its shift is that node's negative
  pub laid : (h.k * (h.n - h.k + 1) % h.n ≡ 0 → ⊥) → (divisor round : ℕ) → GreatestDivisor h.n (h.n - h.k + 1) divisor → round * divisor ≡ h.n → (turn i : ℕ) → i < round → turn * round + i < h.k →
      let node = (turn + i * (h.n - h.k + 1)) % h.n in
      (get_or (firsts h) (turn * round + i) 0 ≡ node) × ((get_or (shifts h) (turn * round + i) 0 + node) % h.n ≡ 0)

-- n = 6 with k = 5: where the rows begin, and how many symbols each node depends on
pub record SixFive : Type 0 where
  pub begins : firsts (header_of (1 ∷ 7 ∷ 3 ∷ 6 ∷ 5 ∷ [])) ≡ 0 ∷ 2 ∷ 4 ∷ 1 ∷ 3 ∷ []
  pub weights : from (reads (header_of (1 ∷ 7 ∷ 3 ∷ 6 ∷ 5 ∷ []))) 0 6 ≡ 1 ∷ 2 ∷ 2 ∷ 2 ∷ 2 ∷ 1 ∷ []

-- a record of kind 3: p = 521, the root 396, n = 5, k = 3
pub record WideCase : Type 0 where
  pub accepted : record_fault (3 ∷ 2 ∷ 9 ∷ 1 ∷ 140 ∷ 5 ∷ 3 ∷ []) ≡ 0
  pub field_is : modulus_of (header_of (3 ∷ 2 ∷ 9 ∷ 1 ∷ 140 ∷ 5 ∷ 3 ∷ [])) ≡ 521
  pub root_is : (header_of (3 ∷ 2 ∷ 9 ∷ 1 ∷ 140 ∷ 5 ∷ 3 ∷ [])).root ≡ 396
  pub shifts_are : shifts (header_of (3 ∷ 2 ∷ 9 ∷ 1 ∷ 140 ∷ 5 ∷ 3 ∷ [])) ≡ 0 ∷ 2 ∷ 4 ∷ []
  pub rows_are : from (λ r. from (entry (header_of (3 ∷ 2 ∷ 9 ∷ 1 ∷ 140 ∷ 5 ∷ 3 ∷ [])) r) 0 5) 0 3 ≡ (322 ∷ 142 ∷ 474 ∷ 0 ∷ 0 ∷ []) ∷ (474 ∷ 0 ∷ 0 ∷ 322 ∷ 142 ∷ []) ∷ (0 ∷ 322 ∷ 142 ∷ 474 ∷ 0 ∷ []) ∷ []
  pub encodes : encoding (header_of (3 ∷ 2 ∷ 9 ∷ 1 ∷ 140 ∷ 5 ∷ 3 ∷ [])) (300 ∷ 7 ∷ 513 ∷ []) ≡ 407 ∷ 428 ∷ 394 ∷ 25 ∷ 473 ∷ []

pub record Pinned : Type 0 where
  -- number 3: of kind 1 just the primes from 3 to 251 pass it, of kind 3 just those from 257 to 65,521, the high byte first
  pub one_byte_field : (p root n k : ℕ) → (record_fault (1 ∷ p ∷ root ∷ n ∷ k ∷ []) ≡ 3) ↔ (PrimeFrom 3 251 p → ⊥)
  pub two_byte_field : (p₁ p₂ root₁ root₂ n k : ℕ) → (record_fault (3 ∷ p₁ ∷ p₂ ∷ root₁ ∷ root₂ ∷ n ∷ k ∷ []) ≡ 3) ↔ (PrimeFrom 257 65521 (p₁ * 256 + p₂) → ⊥)
  -- what a record of kind 3 holds, each number of two bytes high byte first
  pub two_byte_header : (p₁ p₂ root₁ root₂ n k : ℕ) →
      let h = header_of (3 ∷ p₁ ∷ p₂ ∷ root₁ ∷ root₂ ∷ n ∷ k ∷ []) in
      (modulus_of h ≡ p₁ * 256 + p₂) × (h.root ≡ root₁ * 256 + root₂) × (h.n ≡ n) × (h.k ≡ k)
  -- number 5: where numbers 3 and 4 are not met, it is met unless the root is a symbol of order exactly n
  pub root : (h : Header) → usable h.field ≡ true → size_bad h ≡ false → (header_fault h ≡ 5) ↔ (HasOrder (size h) (modulus_of h) h.root h.n → ⊥)
  -- the rows of every accepted plan
  pub rows : (rec : List ℕ) → record_fault rec ≡ 0 → PinnedRows (header_of rec)
  -- and worked examples
  pub six_five : SixFive
  pub wide_case : WideCase
