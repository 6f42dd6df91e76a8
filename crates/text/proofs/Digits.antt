-- The digits of a number.
use mathlib.Core.Path.{◌≡◌, ap, ◌∙◌}
use mathlib.Core.List.{List, [], ◌∷◌, ◌++◌}
use Prim.Native.Nat.{ℕ, ◌/◌, ◌%◌, ◌^◌, ◌≤◌, ◌<◌}
use native.Mathlib.Decide.{dec_lt}
use native.Mathlib.Omega.{arith}
use lib.ListN.{length}
use borrow.Author.Tests.{lt-ltb, le-ltb}
use Rattle.std.specs.Fmt as std
use Rattle.std.proofs.lemmas.Fmt.{decimal_digit, decimal_step, length-decimal-le}
use Rattle.text.specs.Text.{digit, decimal, field}

-- a field of one, two or three digits
pub one_digit : (x : ℕ) → x < 10 → field x ≡ 32 ∷ digit x ∷ []
unfolding field decimal
one_digit x low = rw (lt-ltb x 10)

pub two_digits : (x : ℕ) → 10 ≤ x → x < 100 → field x ≡ 32 ∷ digit (x / 10) ∷ digit (x % 10) ∷ []
unfolding field decimal
two_digits x low high = rw (le-ltb x 10, lt-ltb x 100)

pub three_digits : (x : ℕ) → 100 ≤ x → x < 1000 → field x ≡ 32 ∷ digit (x / 100) ∷ digit (x / 10 % 10) ∷ digit (x % 10) ∷ []
unfolding field decimal
three_digits x low high = rw (le-ltb x 10 (omega arith), le-ltb x 100, lt-ltb x 1000)

-- one digit more
step : (x : ℕ) (front : List ℕ) → 10 ≤ x → x < 100000 → std.decimal (x / 10) ≡ front → std.decimal x ≡ front ++ (digit (x % 10) ∷ [])
step x front low high e = decimal_step x low (omega arith) ∙ ap (λ ds. ds ++ (digit (x % 10) ∷ [])) e

two : (x : ℕ) → 10 ≤ x → x < 100 → std.decimal x ≡ digit (x / 10) ∷ digit (x % 10) ∷ []
two x low high = step x (digit (x / 10) ∷ []) low (omega arith) (decimal_digit (x / 10) (omega arith))

three : (x : ℕ) → 100 ≤ x → x < 1000 → std.decimal x ≡ digit (x / 100) ∷ digit (x / 10 % 10) ∷ digit (x % 10) ∷ []
three x low high =
    let hundreds : x / 10 / 10 ≡ x / 100 = omega arith in
    rw (← hundreds) (step x _ (omega arith) (omega arith) (two (x / 10) (omega arith) (omega arith)))

four : (x : ℕ) → 1000 ≤ x → x < 10000 → std.decimal x ≡ digit (x / 1000) ∷ digit (x / 100 % 10) ∷ digit (x / 10 % 10) ∷ digit (x % 10) ∷ []
four x low high =
    let thousands : x / 10 / 100 ≡ x / 1000 = omega arith in
    let hundreds : x / 10 / 10 ≡ x / 100 = omega arith in
    rw (← thousands, ← hundreds) (step x _ (omega arith) (omega arith) (three (x / 10) (omega arith) (omega arith)))

five : (x : ℕ) → 10000 ≤ x → x < 100000 → std.decimal x ≡ digit (x / 10000) ∷ digit (x / 1000 % 10) ∷ digit (x / 100 % 10) ∷ digit (x / 10 % 10) ∷ digit (x % 10) ∷ []
five x low high =
    let ten_thousands : x / 10 / 1000 ≡ x / 10000 = omega arith in
    let thousands : x / 10 / 100 ≡ x / 1000 = omega arith in
    let hundreds : x / 10 / 10 ≡ x / 100 = omega arith in
    rw (← ten_thousands, ← thousands, ← hundreds) (step x _ (omega arith) high (four (x / 10) (omega arith) (omega arith)))

-- what std writes of a number below 100,000
pub decimal_same : (x : ℕ) → x < 100000 → std.decimal x ≡ decimal x
unfolding decimal
decimal_same x h = go (dec_lt x 10) (dec_lt x 100) (dec_lt x 1000) (dec_lt x 10000)
  where
    go : Dec (x < 10) → Dec (x < 100) → Dec (x < 1000) → Dec (x < 10000) → std.decimal x ≡ decimal x
    go (yes a) b c d = rw (lt-ltb x 10 a) (decimal_digit x a)
    go (no a) (yes b) c d = rw (le-ltb x 10 (omega arith), lt-ltb x 100 b) (two x (omega arith) b)
    go (no a) (no b) (yes c) d = rw (le-ltb x 10 (omega arith), le-ltb x 100 (omega arith), lt-ltb x 1000 c) (three x (omega arith) c)
    go (no a) (no b) (no c) (yes d) =
        rw (le-ltb x 10 (omega arith), le-ltb x 100 (omega arith), le-ltb x 1000 (omega arith), lt-ltb x 10000 d) (four x (omega arith) d)
    go (no a) (no b) (no c) (no d) =
        rw (le-ltb x 10 (omega arith), le-ltb x 100 (omega arith), le-ltb x 1000 (omega arith), le-ltb x 10000 (omega arith)) (five x (omega arith) h)

-- a number below 10 ^ k has at most k digits
pub decimal_short : (k x : ℕ) → 0 < k → x < 10 ^ k → x < 100000 → length (decimal x) ≤ k
decimal_short k x some small h = rw (← decimal_same x h) (length-decimal-le k x some small (omega arith))
