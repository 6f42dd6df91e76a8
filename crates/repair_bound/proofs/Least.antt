-- The least bits of d nodes that are worth 255·k: what a node is worth lies below eight lines.
use mathlib.Core.Path.{◌≡◌, refl, ap, ◌∙◌}
use mathlib.Core.Bool.{Bool, true, false, ◌&&◌, not}
use mathlib.Core.Logic.{by_cases}
use Prim.Native.Nat.{ℕ, zero, suc, ◌+◌, ◌-◌, ◌*◌, ◌^◌, ◌≤◌, ◌<◌, zero-le}
use native.Mathlib.Nat.{mul-add, mul-le-mul_left}
use native.Mathlib.Decide.{dec_lt}
use native.Mathlib.Omega.{arith}
use borrow.Author.Tests.{eqb-true}
use lib.Dec.{eqb, leb, leb→le}
use lib.Pow.{pow_pos}
use Rattle.lists.specs.Choice.{pick, when}
use Rattle.lists.specs.Counting.{count_from}
use Rattle.lists.proofs.Cases.{by_test}
use Rattle.lists.proofs.Chosen.{count_without}
use Rattle.lists.proofs.Count.{count_below, count_all, count_none, count_either}
use Rattle.field.proofs.Computed.{every, at}
use Rattle.scheme.specs.Sums.{sum}
use Rattle.scheme.specs.Costs.{ceil}
use Rattle.scheme.proofs.Sums.{ceil_least}
use Rattle.repair_bound.specs.Additive.{sum_but, sending_count, worth, line_bits, greatest, least_bits}

-- terms of at most a times others, and r where the test passes
pub sum_line : (a r n : ℕ) (f g : ℕ → ℕ) (p : ℕ → Bool) → ((j : ℕ) → j < n → f j ≤ a * g j + r * when (p j) 1) → sum n f ≤ a * sum n g + r * count_from n 0 p
unfolding sum count_from
sum_line a r zero f g p h = zero-le
sum_line a r (suc n) f g p h =
    omega (
      arith,
      h n (omega arith),
      sum_line a r n f g p (λ j l. h j (omega arith)),
      mul-add a (g n) (sum n g),
      mul-add r (when (p n) 1) (count_from n 0 p),
      ap (λ (x : ℕ). r * x) (count_below n p),
    )

-- no bits are worth nothing
worth_none : worth 0 ≡ 0
unfolding worth
worth_none = refl

-- line c: 2^(7 − c) for each bit, from this height on
abbrev height : ℕ → ℕ
height c = worth c - c * 2 ^ (7 - c)

-- no number of bits is worth more
below_line : (c b : ℕ) → c < 8 → worth b ≤ 2 ^ (7 - c) * b + height c
unfolding worth
below_line c b l =
    by_cases (dec_lt b 9) (small b)
    (λ n. let many : 8 ≤ b = omega arith in omega (arith, pow_pos (8 - b), small 8 (omega arith), mul-le-mul_left (2 ^ (7 - c)) many))
  where
    small : (b : ℕ) → b < 9 → 256 - 2 ^ (8 - b) ≤ 2 ^ (7 - c) * b + (256 - 2 ^ (8 - c) - c * 2 ^ (7 - c))
    small b h =
        leb→le (256 - 2 ^ (8 - b)) (2 ^ (7 - c) * b + (256 - 2 ^ (8 - c) - c * 2 ^ (7 - c)))
        (at 9 (λ b. leb (256 - 2 ^ (8 - b)) (2 ^ (7 - c) * b + (256 - 2 ^ (8 - c) - c * 2 ^ (7 - c))))
        (at 8 (λ c. every 9 (λ b. leb (256 - 2 ^ (8 - b)) (2 ^ (7 - c) * b + (256 - 2 ^ (8 - c) - c * 2 ^ (7 - c))))) tt c l) b h)

-- a bit is worth 128 at most
pub sum_each : (t n : ℕ) (bits : ℕ → ℕ) → sum_but t n (λ j. worth (bits j)) ≤ 128 * sum_but t n bits
unfolding sum_but worth
sum_each t n bits =
    omega (arith, sum_line 128 0 n (λ j. pick (eqb j t) 0 (worth (bits j))) (λ j. pick (eqb j t) 0 (bits j)) (λ j. false) (λ j node. each (eqb j t) (bits j)))
  where
    each : (e : Bool) (b : ℕ) → pick e 0 (worth b) ≤ 128 * pick e 0 b + 0 * 0
    each true b = zero-le
    each false b = below_line 0 b (omega arith)

greatest_most : (m y : ℕ) (f : ℕ → ℕ) → ((c : ℕ) → c < m → f c ≤ y) → greatest m f ≤ y
unfolding greatest
greatest_most zero y f h = zero-le
greatest_most (suc m) y f h = omega (arith, h m (omega arith), greatest_most m y f (λ c l. h c (omega arith)))

-- d nodes that are worth 255·k send at least so many bits
pub worth_least : (t n : ℕ) (bits : ℕ → ℕ) (k d : ℕ) → sending_count t n bits ≤ d → 255 * k ≤ sum_but t n (λ j. worth (bits j)) → least_bits d k ≤ sum_but t n bits
unfolding least_bits line_bits sum_but sending_count
worth_least t n bits k d few enough =
    greatest_most 8 (sum n (λ j. pick (eqb j t) 0 (bits j))) (λ c. ceil (255 * k - height c * d) (2 ^ (7 - c)))
    (λ c l.
    let line = sum_line (2 ^ (7 - c)) (height c) n (λ j. pick (eqb j t) 0 (worth (bits j))) (λ j. pick (eqb j t) 0 (bits j)) (λ j. not (eqb j t) && not (eqb (bits j) 0)) (λ j node. each c l (eqb j t) (bits j)) in
    ceil_least (255 * k - height c * d) (2 ^ (7 - c)) (sum n (λ j. pick (eqb j t) 0 (bits j))) (pow_pos (7 - c)) (omega (arith, enough, line, mul-le-mul_left (height c) few)))
  where
    each : (c : ℕ) → c < 8 → (e : Bool) (b : ℕ) → pick e 0 (worth b) ≤ 2 ^ (7 - c) * pick e 0 b + height c * when (not e && not (eqb b 0)) 1
    each c l true b = zero-le
    each c l false b =
        by_test (eqb b 0)
        (λ q. let none : worth b ≡ 0 = ap worth (eqb-true b 0 q) ∙ worth_none in rw none zero-le)
        (λ q. let line : worth b ≤ 2 ^ (7 - c) * b + height c * 1 = omega (arith, below_line c b l) in rw q line)

-- at most n − 1 nodes send
pub senders_few : (t n : ℕ) (bits : ℕ → ℕ) → t < n → sending_count t n bits ≤ n - 1
unfolding sending_count
senders_few t n bits l =
    let all = count_all n 0 (λ j. true) (λ j a b. refl) in
    let others = count_without n t (λ j. true) l refl in
    let fewer = count_either n 0 (λ j. not (eqb j t) && not (eqb (bits j) 0)) (λ j. not (eqb j t)) (λ j. false) (λ j a b q r. rw q refl) in
    omega (arith, all, others, fewer, count_none n 0 (λ j. false) (λ j a b. refl))
