-- Sums over the numbers below n, a table of tests counted by rows and by columns, and rounding up.
use mathlib.Core.Path.{◌≡◌, refl, sym, ap, ap₂, ◌∙◌}
use mathlib.Core.Logic.{◌↔◌, ⊎_elim}
use mathlib.Core.Bool.{Bool, not}
use Prim.Native.Nat.{ℕ, zero, suc, ◌+◌, ◌-◌, ◌*◌, ◌%◌, ◌≤◌, ◌<◌, zero-le}
use native.Mathlib.Nat.{mul-add, sub-add_cancel, suc-mul, zero-mul, mul-zero, mul_comm, div-lt_iff_lt-mul, le-div_iff_mul-le, div-add-mod', mod-lt, le_of_mul-le-mul_left, le_of_suc-le-suc, le_refl, le_trans, not-suc-le-zero}
use native.Mathlib.Omega.{arith}
use native.Mathlib.Decide.{dec_le}
use borrow.Author.Count.{below_more}
use Rattle.lists.specs.Choice.{when}
use Rattle.lists.specs.Counting.{count_from}
use Rattle.lists.proofs.Count.{count_below, count_not}
use Rattle.scheme.specs.Sums.{sum}
use Rattle.scheme.specs.Costs.{floor, ceil, Rounded}

-- greater terms, greater sums
sum_mono : (n : ℕ) (f g : ℕ → ℕ) → ((i : ℕ) → i < n → f i ≤ g i) → sum n f ≤ sum n g
unfolding sum
sum_mono zero f g h = zero-le
sum_mono (suc n) f g h = omega (arith, h n (omega arith), sum_mono n f g (λ i l. h i (omega arith)))

-- the same terms
pub sum_ext : (n : ℕ) (f g : ℕ → ℕ) → ((i : ℕ) → i < n → f i ≡ g i) → sum n f ≡ sum n g
unfolding sum
sum_ext zero f g h = refl
sum_ext (suc n) f g h = ap₂ ◌+◌ (h n (omega arith)) (sum_ext n f g (λ i l. h i (omega arith)))

-- equal terms
pub sum_const : (n d : ℕ) → sum n (λ i. d) ≡ n * d
unfolding sum
sum_const zero d = sym (zero-mul d)
sum_const (suc n) d = omega (arith, suc-mul n d, sum_const n d)

-- a sum of sums
sum_add : (n : ℕ) (f g : ℕ → ℕ) → sum n (λ i. f i + g i) ≡ sum n f + sum n g
unfolding sum
sum_add zero f g = refl
sum_add (suc n) f g = omega (arith, sum_add n f g)

-- a table summed by rows and by columns
sum_swap : (k n : ℕ) (f : ℕ → ℕ → ℕ) → sum k (λ r. sum n (f r)) ≡ sum n (λ j. sum k (λ r. f r j))
unfolding sum
sum_swap zero n f = sym (sum_const n 0 ∙ mul-zero n)
sum_swap (suc k) n f = ap (λ x. sum n (f k) + x) (sum_swap k n f) ∙ sym (sum_add n (f k) (λ j. sum k (λ r. f r j)))

-- a count is a sum of ones
count_sum : (n : ℕ) (p : ℕ → Bool) → count_from n 0 p ≡ sum n (λ i. when (p i) 1)
unfolding sum count_from
count_sum zero p = refl
count_sum (suc n) p = count_below n p ∙ ap (λ c. when (p n) 1 + c) (count_sum n p)

-- a table of tests counted by rows and by columns
pub count_swap : (k n : ℕ) (table : ℕ → ℕ → Bool) → sum k (λ r. count_from n 0 (table r)) ≡ sum n (λ j. count_from k 0 (λ r. table r j))
count_swap k n table = simp count_sum (sum_swap k n (λ r j. when (table r j) 1))

-- what holds below n and at n holds below n + 1
below_suc : (P : ℕ → Type 0) (n : ℕ) → ((i : ℕ) → i < n → P i) → P n → (i : ℕ) → i < suc n → P i
below_suc P n all here i l = below_more P n all here i (omega arith)

-- the place of a greatest value
greatest : (n : ℕ) (f : ℕ → ℕ) → (j : ℕ) × (j < suc n) × ((i : ℕ) → i < suc n → f i ≤ f j)
greatest zero f = (0, omega arith, below_suc (λ i. f i ≤ f 0) 0 (λ i l. absurd (not-suc-le-zero l)) (le_refl (f 0)))
greatest (suc n) f = go (greatest n f) (dec_le (f (suc n)) (f (greatest n f).0))
  where
    go : (b : (j : ℕ) × (j < suc n) × ((i : ℕ) → i < suc n → f i ≤ f j)) → Dec (f (suc n) ≤ f b.0) → (j : ℕ) × (j < suc (suc n)) × ((i : ℕ) → i < suc (suc n) → f i ≤ f j)
    go b (yes h) = (b.0, omega arith, below_suc (λ i. f i ≤ f b.0) (suc n) b.2 h)
    go b (no h) = (suc n, omega arith, below_suc (λ i. f i ≤ f (suc n)) (suc n) (λ i l. omega (arith, b.2 i l)) (le_refl (f (suc n))))

-- where d or more pass in each of k rows, n times the count of some column is k · d or more
pub busiest : (k n d : ℕ) (table : ℕ → ℕ → Bool) → 1 ≤ n → ((r : ℕ) → r < k → d ≤ count_from n 0 (table r)) → (j : ℕ) × (j < n) × (k * d ≤ n * count_from k 0 (λ r. table r j))
busiest k zero d table l h = absurd (not-suc-le-zero l)
busiest k (suc n) d table l h =
    let column : ℕ → ℕ = λ j. count_from k 0 (λ r. table r j) in
    let b = greatest n column in
    let rows : sum k (λ r. d) ≤ sum k (λ r. count_from (suc n) 0 (table r)) = sum_mono k (λ r. d) (λ r. count_from (suc n) 0 (table r)) h in
    let columns : sum (suc n) column ≤ sum (suc n) (λ j. column b.0) = sum_mono (suc n) column (λ j. column b.0) b.2 in
    (b.0, b.1, rw (← sum_const k d, ← sum_const (suc n) (column b.0)) (le_trans rows (rw (count_swap k (suc n) table) columns)))

-- where n · e is k · (n − d) or more, and c is k − e, n · c is k · d or less
left_over : (k n d c e : ℕ) → d ≤ n → c + e ≡ k → k * (n - d) ≤ n * e → n * c ≤ k * d
left_over k n d c e small whole many =
    let all = ap (λ (x : ℕ). n * x) whole in
    let part : k * (n - d) + k * d ≡ k * n = sym (mul-add k (n - d) d) ∙ ap (λ (x : ℕ). k * x) (sub-add_cancel small) in
    omega arith

-- where at most d pass in each of k rows, n times the count of some column is k · d or less: there most fail
pub idlest : (k n d : ℕ) (table : ℕ → ℕ → Bool) → 1 ≤ n → d ≤ n → ((r : ℕ) → r < k → count_from n 0 (table r) ≤ d) → (j : ℕ) × (j < n) × (n * count_from k 0 (λ r. table r j) ≤ k * d)
idlest k n d table l small h =
    let (j, node, many) = busiest k n (n - d) (λ r i. not (table r i)) l (λ r row. omega (arith, h r row, count_not n 0 (table r))) in
    (j, node, left_over k n d (count_from k 0 (λ r. table r j)) _ small (count_not k 0 (λ r. table r j)) many)

-- a / n rounded down is the greatest b with n · b ≤ a
pub floor_greatest : (a n b : ℕ) → 1 ≤ n → n * b ≤ a → b ≤ floor a n
floor_greatest a n b l h = (le-div_iff_mul-le l).1 (omega arith)

-- a / n rounded up is the least b with a ≤ n · b
pub ceil_least : (a n b : ℕ) → 1 ≤ n → a ≤ n * b → ceil a n ≤ b
ceil_least a n b l h = le_of_suc-le-suc ((div-lt_iff_lt-mul l).1 (omega (arith, suc-mul b n, mul_comm n b)))

-- and is such a b
pub ceil_enough : (a n : ℕ) → 1 ≤ n → a ≤ n * ceil a n
ceil_enough a n l = omega (arith, div-add-mod' (a + (n - 1)) n, mod-lt (a + (n - 1)) l, mul_comm n (ceil a n))

-- the two roundings
pub floor_ceil : (a n : ℕ) → 1 ≤ n → floor a n ≤ ceil a n
floor_ceil a n l = le_of_mul-le-mul_left (le_trans (omega (arith, div-add-mod' a n)) (ceil_enough a n l)) l

-- they are equal exactly if n divides a
pub floor_is_ceil : (a n : ℕ) → 1 ≤ n → (floor a n ≡ ceil a n) ↔ (a % n ≡ 0)
floor_is_ceil a n l =
    let whole = div-add-mod' a n in (
      λ e. let all = ap (λ (x : ℕ). n * x) e in omega (arith, ceil_enough a n l),
      λ z. let up = ceil_least a n (floor a n) l (omega arith) in let down = floor_ceil a n l in omega arith,
    )

-- a column of a / n, rounded down or up, that has enough for a has the upper number, and one that has no more the lower
pub upper_column : (a n c : ℕ) → 1 ≤ n → Rounded a n c → a ≤ n * c → c ≡ ceil a n
upper_column a n c l near enough = ⊎_elim (λ e. omega (arith, floor_ceil a n l, ceil_least a n c l enough)) (λ e. e) near

pub lower_column : (a n c : ℕ) → 1 ≤ n → Rounded a n c → n * c ≤ a → c ≡ floor a n
lower_column a n c l near few = ⊎_elim (λ e. e) (λ e. omega (arith, floor_ceil a n l, floor_greatest a n c l few)) near
