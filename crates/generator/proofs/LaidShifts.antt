-- Rows laid end to end: they begin at different nodes, and every node lies in k·d / n rows, rounded down or up.
use mathlib.Core.Path.{◌≡◌, sym, ap, ap₂, ◌∙◌}
use mathlib.Core.Bool.{Bool, true, false, ◌&&◌, and-true}
use mathlib.Core.Logic.{⊎_elim, by_cases}
use Prim.Native.Nat.{ℕ, zero, suc, ◌+◌, ◌-◌, ◌*◌, ◌/◌, ◌%◌, ◌≤◌, ◌<◌, ◌∣◌}
use native.Mathlib.Nat.{mod-lt, mod_self, mod-eq_of_lt, mod-add-div', add-mul-mod_self_right, add-mod-mod, add-mod_right, add_comm, zero-mul, suc-mul, mul-one, zero-add, sub-zero, zero-mod, zero-div, le_refl, div-add-mod, div-add-mod', mod-mod_of_dvd, div-lt_iff_lt-mul, dvd-mul_left, dvd-mul_right, le_of_dvd, le_dest, mul-sub, mul-div_cancel', pos_of_dvd_of_pos, mul-le-mul_left, eq-zero-or-pos}
use native.Mathlib.Decide.{dec_le}
use native.Mathlib.Numerals.{add-one}
use native.Mathlib.Omega.{arith}
use lib.Arith.{digits_div, digits_mod}
use lib.Dec.{ltb, eqb}
use lib.ListN.{length, get_or}
use Rattle.lists.specs.Choice.{when}
use Rattle.lists.specs.Counting.{count_from}
use Rattle.lists.proofs.All.{All-of, Distinct-of}
use Rattle.lists.proofs.Count.{count_add, count_ext, count_move, count_period, count_periods, count_one}
use Rattle.lists.proofs.Places.{Places}
use Rattle.lists.proofs.Rows.{length_from, get_or_from}
use Rattle.generator.specs.Shifts.{gcd, negative, period, laid_at, laid_shifts}
use Rattle.generator.proofs.Gcd.{gcd_left, gcd_right, gcd_times, divides_cofactor}
use Rattle.generator.proofs.Windows.{below_period, count_stretch, Near}

-- x lies on node j
abbrev hits : ℕ → ℕ → ℕ → Bool
hits n j x = eqb (x % n) j

-- the test comes round with n
hits_period : (n j x : ℕ) → hits n j (x + n) ≡ hits n j x
hits_period n j x = rw add-mod_right

-- a stretch of d numbers from x on hits node j once if (j − x) modulo n is below d, and else not
row_hits : (n d j x : ℕ) → j < n → d ≤ n → count_from d x (hits n j) ≡ when (ltb ((j + negative n (x % n)) % n) d) 1
unfolding negative
row_hits n d j x node small =
    let b = x % n in
    let less = mod-lt x {m = n} (omega arith) in
    let back : b + x / n * n ≡ x = mod-add-div' x n in
    let near : count_from d x (hits n j) ≡ count_from d b (hits n j) =
    ap (λ (y : ℕ). count_from d y (hits n j)) (sym back)
    ∙ count_move d b (x / n * n) (hits n j)
    ∙ count_ext d b (λ i. hits n j (i + x / n * n)) (hits n j) (λ i u v. rw add-mul-mod_self_right) in
    let both : ℕ → Bool = λ i. hits n j i && ltb ((n - b + i) % n) d in
    let around_both : (i : ℕ) → both (i + n) ≡ both i = λ i. ap₂ ◌&&◌ (hits_period n j i) (below_period n d (n - b) i) in
    near
    ∙ sym (count_stretch n d (n - b) b (hits n j) small (omega arith))
    ∙ count_period n both around_both b
    ∙ count_ext n 0 both (λ i. eqb i j && ltb ((n - b + i) % n) d) (λ i u v. rw (mod-eq_of_lt {n = i} {m = n} (omega arith)))
    ∙ count_one n 0 j (λ i. ltb ((n - b + i) % n) d) (omega arith) (omega arith)
    ∙ rw (add-mod-mod, add_comm j (n - x % n))

-- one test counts at most 1
when_le : (b : Bool) → when b 1 ≤ 1
when_le true = omega arith
when_le false = omega arith

-- a stretch of n hits every node once
period_hits : (n j : ℕ) → j < n → count_from n 0 (hits n j) ≡ 1
period_hits n j node =
    count_ext n 0 (hits n j) (λ i. eqb i j && true) (λ i u v. rw (mod-eq_of_lt {n = i} {m = n} (omega arith)) (sym (and-true (eqb i j))))
    ∙ count_one n 0 j (λ i. true) (omega arith) (omega arith)

-- and a stretch of q·n every node q times
full_hits : (n j q x : ℕ) → j < n → count_from (q * n) x (hits n j) ≡ q
full_hits n j q x node = count_periods n (hits n j) (hits_period n j) q x ∙ rw (period_hits n j node, mul-one)

-- w is near if it is the quotient, or one more where something is left
near_part : (n len w v : ℕ) → len % n < n → w ≡ len / n + v → v ≤ 1 → (len % n ≡ 0 → v ≡ 0) → Near n len w
near_part n len w v less e small none =
    let whole = div-add-mod' len n in
    let total = ap (λ (y : ℕ). n * y) e in
    let most = mul-le-mul_left n small in
    ⊎_elim
    (λ z. let nothing = ap (λ (y : ℕ). n * y) (none z) in record { above = omega arith; below = omega arith })
    (λ z. record { above = omega arith; below = omega arith })
    (eq-zero-or-pos (len % n))

-- a stretch of any length hits every node its n-th part times, rounded down or up
stretch_near : (n j len x : ℕ) → j < n → Near n len (count_from len x (hits n j))
unfolding count_from
stretch_near n j len x node =
    let y = x + len / n * n in
    let less = mod-lt len {m = n} (omega arith) in
    let whole : count_from len x (hits n j) ≡ len / n + count_from (len % n) y (hits n j) =
    ap (λ (l : ℕ). count_from l x (hits n j)) (sym (div-add-mod' len n))
    ∙ count_add (len / n * n) (len % n) x (hits n j)
    ∙ ap (λ (c : ℕ). c + count_from (len % n) y (hits n j)) (full_hits n j (len / n) x node) in
    near_part
    n
    len
    (count_from len x (hits n j))
    (count_from (len % n) y (hits n j))
    less
    whole
    (rw (row_hits n (len % n) j y node (omega arith)) (when_le (ltb ((j + negative n (y % n)) % n) (len % n))))
    (λ z. rw z)

-- where row r begins if the nodes are not taken modulo n
abbrev start : ℕ → ℕ → ℕ → ℕ
start m d r = r / m + r % m * d

-- row r lies on node j
abbrev row_on : ℕ → ℕ → ℕ → ℕ → ℕ → Bool
row_on n m d j r = ltb ((j + negative n (start m d r % n)) % n) d

-- q rows of period c cover a stretch of q·d numbers from c on
run_hits : (n m d j c q : ℕ) → j < n → d ≤ n → q ≤ m → count_from q (c * m) (row_on n m d j) ≡ count_from (q * d) c (hits n j)
unfolding count_from
run_hits n m d j c zero node small h = rw zero-mul
run_hits n m d j c (suc q) node small h =
    let last = rw (add-one q, digits_div c h, digits_mod c h, ← row_hits n d j (c + q * d) node small, run_hits n m d j c q node small (omega arith)) at (count_add q 1 (c * m) (row_on n m d j)) in
    rw (suc-mul q d, count_add (q * d) d c (hits n j)) (omega arith)

-- c whole periods cover every node e·c times, where m rows come round after e rounds of the nodes
runs_hits : (n m d e j c : ℕ) → j < n → d ≤ n → m * d ≡ e * n → count_from (c * m) 0 (row_on n m d j) ≡ c * e
unfolding count_from
runs_hits n m d e j zero node small whole = rw (zero-mul m, zero-mul e)
runs_hits n m d e j (suc c) node small whole =
    rw
    (suc-mul c m, count_add (c * m) m 0 (row_on n m d j), zero-add (c * m), runs_hits n m d e j c node small whole, run_hits n m d j c m node small (le_refl m), whole, full_hits n j e c node)
    (sym (suc-mul c e))

-- k rows cover every node k·d / n times, rounded down or up
rows_near : (n m d e j k : ℕ) → j < n → d ≤ n → m * d ≡ e * n → 0 < m → Near n (k * d) (count_from k 0 (row_on n m d j))
rows_near n m d e j k node small whole pos =
    let c = k / m in
    let q = k % m in
    let less = mod-lt k pos in
    let parts : count_from k 0 (row_on n m d j) ≡ c * e + count_from (q * d) c (hits n j) =
    ap (λ (x : ℕ). count_from x 0 (row_on n m d j)) (sym (div-add-mod' k m))
    ∙ count_add (c * m) q 0 (row_on n m d j)
    ∙ rw (zero-add (c * m), runs_hits n m d e j c node small whole, run_hits n m d j c q node small (omega arith)) in
    let total = ap (λ (x : ℕ). x * d) (div-add-mod' k m) in
    let rounds = ap (λ (x : ℕ). c * x) whole in
    let near = stretch_near n j (q * d) c node in
    rw parts (record { above = omega arith; below = omega arith })

-- numbers of one residue differ by a multiple
mod_differ : (n a x : ℕ) → a % n ≡ (a + x) % n → n ∣ x
mod_differ n a x e =
    let one = div-add-mod a n in
    let two = div-add-mod (a + x) n in
    ∣ ((a + x) / n - a / n, rw mul-sub (omega arith)) ∣₁

-- a·d is b·n for n = g·a, d = g·b
cross : (g a b : ℕ) {n d : ℕ} → g * a ≡ n → g * b ≡ d → a * d ≡ b * n
cross g a b e₁ e₂ = rw (← e₁, ← e₂) (omega arith)

-- where g divides n and d the residue of a row's first node modulo g tells its period
start_run : (n m d g e r : ℕ) → g ∣ n → g * e ≡ d → r / m < g → start m d r % n % g ≡ r / m
start_run n m d g e r u whole h =
    let regroup : start m d r ≡ r / m + r % m * e * g = omega (arith, ap (λ (y : ℕ). r % m * y) whole) in
    rw (mod-mod_of_dvd g (start m d r) u, regroup, add-mul-mod_self_right (r / m) (r % m * e) g) (mod-eq_of_lt h)

-- a negative lies below n
pub negative_below : (n x : ℕ) → 0 < n → negative n x < n
unfolding negative
negative_below n x pos = mod-lt (n - x) pos

-- and its own negative is the number
pub negative_twice : (n x : ℕ) → x < n → negative n (negative n x) ≡ x
unfolding negative
negative_twice n x h =
    ⊎_elim
    (λ (z : x ≡ 0). rw (z, sub-zero, mod_self, sub-zero) (mod_self n))
    (λ z.
    let less : n - x < n = omega arith in
    let back : n - (n - x) ≡ x = omega arith in
    rw (mod-eq_of_lt less, back) (mod-eq_of_lt h))
    (eq-zero-or-pos x)

module _ (n d : ℕ) (some : 0 < d) (small : d ≤ n) where
  -- n is gcd(n, d) times a period
  pub times_period : gcd n d * period n d ≡ n
  unfolding period
  times_period = gcd_times n d

  -- a period is not empty
  pub pos_period : 0 < period n d
  pos_period = pos_of_dvd_of_pos (rw times_period at (dvd-mul_left (period n d) (gcd n d))) (omega arith)

  -- every node lies in k·d / n rows, rounded down or up
  laid_rows_near : (k j : ℕ) → j < n → Near n (k * d) (count_from k 0 (λ r. ltb ((j + negative n (laid_at n d r)) % n) d))
  unfolding laid_at
  laid_rows_near k j node = rows_near n (period n d) d (d / gcd n d) j k node small (cross (gcd n d) _ _ times_period (mul-div_cancel' _ (gcd_right n d))) pos_period

  -- the residue of a first node modulo gcd(n, d) tells its period
  laid_run : (r : ℕ) → r < n → laid_at n d r % gcd n d ≡ r / period n d
  unfolding laid_at
  laid_run r h = start_run n (period n d) d (gcd n d) (d / gcd n d) r (gcd_left n d) (mul-div_cancel' _ (gcd_right n d)) ((div-lt_iff_lt-mul pos_period).1 (rw times_period h))

  -- within a period the rows begin at different nodes
  run_distinct : (c i x : ℕ) → i + x < period n d → (c + i * d) % n ≡ (c + (i + x) * d) % n → x ≡ 0
  run_distinct c i x h e =
      let apart : c + (i + x) * d ≡ c + i * d + d * x = omega arith in
      let shared = divides_cofactor n d some (period n d) n x times_period (dvd-mul_right n x) (mod_differ n (c + i * d) (d * x) (rw apart at e)) in
      ⊎_elim (λ z. z) (λ z. let least = le_of_dvd z shared in omega arith) (eq-zero-or-pos x)

  -- two rows of one period that begin at one node are one row
  run_ordered : (r s : ℕ) → r / period n d ≡ s / period n d → r % period n d ≤ s % period n d → laid_at n d r ≡ laid_at n d s → r ≡ s
  unfolding laid_at
  run_ordered r s run below e =
      let m = period n d in
      let (x, more) = le_dest below in
      let less = mod-lt s pos_period in
      let none = run_distinct (s / m) (r % m) x (omega arith) (rw (run, ← more) at e) in
      let rows = ap (λ (y : ℕ). y * m) run in
      omega (arith, div-add-mod' r m, div-add-mod' s m)

  -- the rows begin at different nodes
  laid_distinct : (r s : ℕ) → r < n → s < n → laid_at n d r ≡ laid_at n d s → r ≡ s
  laid_distinct r s h l e =
      let m = period n d in
      let run : r / m ≡ s / m = sym (laid_run r h) ∙ ap (λ (x : ℕ). x % gcd n d) e ∙ laid_run s l in
      by_cases (dec_le (r % m) (s % m)) (λ u. run_ordered r s run u e) (λ u. sym (run_ordered s r (sym run) (omega arith) (sym e)))

  -- a first node is a node
  pub laid_below : (r : ℕ) → laid_at n d r < n
  unfolding laid_at
  laid_below r = mod-lt (start (period n d) d r) (omega arith)

-- row 0 begins at node 0
laid_first : (n d : ℕ) → laid_at n d 0 ≡ 0
unfolding laid_at
laid_first n d = rw (zero-div, zero-mod, zero-mul) (zero-mod n)

module _ (n k : ℕ) (some : 0 < k) (fits : k ≤ n) where
  -- the shift of row r is the negative of its first node
  pub laid_at_lem : (r : ℕ) → r < k → get_or (laid_shifts n k) r 0 ≡ negative n (laid_at n (n - k + 1) r)
  unfolding laid_shifts
  laid_at_lem r h = rw zero-add at (get_or_from (λ i. negative n (laid_at n (n - k + 1) i)) 0 k r 0 h)

  laid_length : length (laid_shifts n k) ≡ k
  unfolding laid_shifts
  laid_length = length_from (λ i. negative n (laid_at n (n - k + 1) i)) 0 k

  -- the first node of a row, from its shift
  pub laid_begin : (r : ℕ) → r < k → negative n (get_or (laid_shifts n k) r 0) ≡ laid_at n (n - k + 1) r
  laid_begin r h = rw (laid_at_lem r h) (negative_twice n (laid_at n (n - k + 1) r) (laid_below n (n - k + 1) (omega arith) (omega arith) r))

  -- k different shifts below n
  pub laid_places : Places n k (laid_shifts n k)
  laid_places =
      let low : (r : ℕ) → r < length (laid_shifts n k) → get_or (laid_shifts n k) r 0 < n = λ r h. rw (laid_at_lem r (omega (arith, laid_length))) (negative_below n (laid_at n (n - k + 1) r) (omega arith)) in
      let different : (r s : ℕ) → r < length (laid_shifts n k) → s < length (laid_shifts n k) → get_or (laid_shifts n k) r 0 ≡ get_or (laid_shifts n k) s 0 → r ≡ s =
      λ r s h l e.
      let row : r < k = omega (arith, laid_length) in
      let other : s < k = omega (arith, laid_length) in
      laid_distinct n (n - k + 1) (omega arith) (omega arith) r s (omega arith) (omega arith) (sym (laid_begin r row) ∙ ap (negative n) e ∙ laid_begin s other) in
      record { low = All-of (λ j. j < n) 0 (laid_shifts n k) low; distinct = Distinct-of 0 (laid_shifts n k) different; size = laid_length }

  -- the first is 0
  pub laid_shift_first : get_or (laid_shifts n k) 0 0 ≡ 0
  unfolding negative
  laid_shift_first = rw (laid_at_lem 0 some, laid_first n (n - k + 1), sub-zero) (mod_self n)

  -- every node lies in k·d / n rows, rounded down or up
  pub laid_near : (j : ℕ) → j < n → Near n (k * (n - k + 1)) (count_from k 0 (λ r. ltb ((j + get_or (laid_shifts n k) r 0) % n) (n - k + 1)))
  laid_near j node =
      let same : count_from k 0 (λ r. ltb ((j + get_or (laid_shifts n k) r 0) % n) (n - k + 1)) ≡ count_from k 0 (λ r. ltb ((j + negative n (laid_at n (n - k + 1) r)) % n) (n - k + 1)) =
      count_ext k 0 _ _ (λ r u v. rw (laid_at_lem r (omega arith))) in
      rw same (laid_rows_near n (n - k + 1) (omega arith) (omega arith) k j node)
