-- The shifts of Lemma 2: k numbers below n that rise from 0, so distinct; and where n divides k·d every node lies in k·d / n rows.
use mathlib.Core.Path.{◌≡◌, refl, sym, ap, ap₂, ◌∙◌}
use mathlib.Core.Bool.{Bool, ◌&&◌}
use mathlib.Core.List.{List, [], ◌∷◌, ◌++◌}
use mathlib.Core.Logic.{⊎_elim}
use Prim.Native.Nat.{ℕ, zero, suc, ◌+◌, ◌-◌, ◌*◌, ◌/◌, ◌%◌, ◌≤◌, ◌<◌, ◌∣◌}
use native.Mathlib.Nat.{mod-add-mod, mod-lt, mod_self, mod-eq_of_lt, zero-mod, eq-or-lt_of_le, mul-div_cancel', dvd-sub, add-mod_right, dvd-mul_right, dvd-mul_left, le_of_dvd, pos_of_dvd_of_pos, dvd_of_mod-eq-zero, add-mul-mod_self_right, div-mul_cancel}
use native.Mathlib.Omega.{arith}
use lib.Dec.{ltb}
use lib.ListN.{length, get_or}
use borrow.Author.Tests.{eq-eqb, ne_eqb, lt-ltb, le-ltb}
use Rattle.lists.specs.Choice.{pick}
use Rattle.lists.specs.Counting.{count_from, passing_from}
use Rattle.lists.proofs.All.{All, All-imp}
use Rattle.lists.proofs.Count.{count_add, count_all, count_none, count_period, count_periods}
use Rattle.lists.proofs.Passing.{length_passing, count_list, count_passing, passing_within, passing_first, Rises, passing_rises, rises_distinct}
use Rattle.lists.proofs.Places.{Places}
use Rattle.generator.specs.Shifts.{gcd, next_place, shifts_from, even_shifts}
use Rattle.generator.proofs.Gcd.{gcd_left, gcd_right, gcd_times, divides_cofactor}
use Rattle.generator.proofs.Windows.{below_period, count_stretch}

-- the place of i + 1 in a round of c is the one after that of i
next_place_lem : (c i : ℕ) → 0 < c → next_place c (i % c) ≡ (i + 1) % c
next_place_lem c i pos =
    let less : i % c + 1 ≤ c = omega (arith, mod-lt i pos) in
    ⊎_elim
    (λ e. rw (← mod-add-mod i c 1, eq-eqb (i % c + 1) c e, e) (sym (mod_self c)))
    (λ h. rw (← mod-add-mod i c 1, ne_eqb (i % c + 1) c (λ e. omega arith)) (sym (mod-eq_of_lt h)))
    (eq-or-lt_of_le less)

-- going round with t to take and s to skip chooses the numbers whose residue is below t
pub shifts_chosen : (f i t s : ℕ) → 0 < t + s → shifts_from f i t s (i % (t + s)) ≡ passing_from f i (λ j. ltb (j % (t + s)) t)
unfolding shifts_from passing_from
shifts_chosen zero i t s pos = refl
shifts_chosen (suc f) i t s pos = ap (λ (l : List ℕ). pick (ltb (i % (t + s)) t) (i ∷ []) [] ++ l) (rw (next_place_lem (t + s) i pos) (shifts_chosen f (i + 1) t s pos))

-- a round has t of them
count_residues : (t s : ℕ) → count_from (t + s) 0 (λ i. ltb (i % (t + s)) t) ≡ t
count_residues t s =
    let q : ℕ → Bool = λ i. ltb (i % (t + s)) t in
    let first : count_from t 0 q ≡ t = count_all t 0 q (λ j u v. rw (mod-eq_of_lt {n = j} {m = t + s} (omega arith)) (lt-ltb j t (omega arith))) in
    let others : count_from s (0 + t) q ≡ 0 = count_none s (0 + t) q (λ j u v. rw (mod-eq_of_lt {n = j} {m = t + s} (omega arith)) (le-ltb j t (omega arith))) in
    count_add t s 0 q ∙ omega arith

-- n·(q·t) is k·d for n = g·c, k = g·t, d = q·c
products : (g c t q : ℕ) {n k d : ℕ} → g * c ≡ n → g * t ≡ k → q * c ≡ d → n * (q * t) ≡ k * d
products g c t q e₁ e₂ e₃ = rw (← e₁, ← e₂, ← e₃) (omega arith)

-- the places that a round takes and skips, and its length
abbrev pub taken : ℕ → ℕ → ℕ
taken n k = k / gcd k n

abbrev pub skipped : ℕ → ℕ → ℕ
skipped n k = (n - k) / gcd k n

abbrev pub around : ℕ → ℕ → ℕ
around n k = taken n k + skipped n k

-- the test for a shift
abbrev pub is_shift : ℕ → ℕ → ℕ → Bool
is_shift n k i = ltb (i % around n k) (taken n k)

module _ (n k : ℕ) (some : 0 < k) (fits : k ≤ n) where
  -- n is not 0
  pos_n : 0 < n
  pos_n = omega arith

  -- k is g times what a round takes
  pub times_taken : gcd k n * taken n k ≡ k
  times_taken = gcd_times k n

  -- n − k is g times what a round skips
  times_skipped : gcd k n * skipped n k ≡ n - k
  times_skipped = mul-div_cancel' _ (dvd-sub _ (gcd_right k n) (gcd_left k n))

  -- g rounds make n
  pub times_around : gcd k n * around n k ≡ n
  times_around = omega (arith, times_taken, times_skipped)

  -- a round takes some
  pos_taken : 0 < taken n k
  pos_taken = pos_of_dvd_of_pos (rw times_taken at (dvd-mul_left (taken n k) (gcd k n))) some

  -- a round is not empty, and at most n long
  pub pos_around : 0 < around n k
  pos_around = omega (arith, pos_taken)

  pub around_within : around n k ≤ n
  around_within = le_of_dvd pos_n (rw times_around at (dvd-mul_left (around n k) (gcd k n)))

  -- the shifts are the numbers below n whose residue is among the first
  pub even_are : even_shifts n k ≡ passing_from n 0 (is_shift n k)
  unfolding even_shifts
  even_are = rw zero-mod at (shifts_chosen n 0 (taken n k) (skipped n k) pos_around)

  -- the test comes round with a round
  period : (j : ℕ) → is_shift n k (j + around n k) ≡ is_shift n k j
  period j = rw add-mod_right

  -- and with n
  period_n : (j : ℕ) → is_shift n k (j + n) ≡ is_shift n k j
  period_n j = ap (λ (x : ℕ). ltb x (taken n k)) (ap (λ (x : ℕ). (j + x) % around n k) (sym times_around) ∙ add-mul-mod_self_right j (gcd k n) (around n k))

  -- there are k shifts
  pub even_length : length (even_shifts n k) ≡ k
  even_length =
      let rounds = rw (times_around, count_residues, times_taken) at (count_periods (around n k) (is_shift n k) period (gcd k n) 0) in
      rw (even_are, length_passing) rounds

  -- they lie below n
  even_low : All (λ j. j < n) (even_shifts n k)
  even_low = rw even_are (All-imp (λ j. (0 ≤ j) × (j < 0 + n)) (λ j. j < n) (λ j h. omega arith) (passing_from n 0 (is_shift n k)) (passing_within n 0 (is_shift n k)))

  -- they rise
  pub even_rise : Rises (even_shifts n k)
  even_rise = rw even_are (passing_rises n 0 (is_shift n k))

  -- k distinct numbers below n
  pub even_places : Places n k (even_shifts n k)
  even_places = record { low = even_low; distinct = rises_distinct (even_shifts n k) even_rise; size = even_length }

  -- the first is 0
  pub even_first : get_or (even_shifts n k) 0 0 ≡ 0
  even_first = rw even_are (passing_first n 0 (is_shift n k) pos_n (rw zero-mod (lt-ltb 0 (taken n k) pos_taken)))

  -- where n divides k·x a round's length divides x
  around_divides : (x : ℕ) → n ∣ k * x → around n k ∣ x
  around_divides x u = divides_cofactor k n pos_n (around n k) n x times_around u (dvd-mul_right n x)

  -- the rows that are not zero at node j are as many as the shifts among d numbers in succession
  rows_stretch : (d j : ℕ) → d ≤ n → j < n → count_from k 0 (λ r. ltb ((j + get_or (even_shifts n k) r 0) % n) d) ≡ count_from d (n - j) (is_shift n k)
  rows_stretch d j small node =
      let q : ℕ → Bool = λ i. ltb ((j + i) % n) d in
      let both : ℕ → Bool = λ i. is_shift n k i && q i in
      let round : (i : ℕ) → both (i + n) ≡ both i = λ i. ap₂ ◌&&◌ (period_n i) (below_period n d j i) in
      ap (λ (x : ℕ). count_from x 0 (λ r. q (get_or (even_shifts n k) r 0))) (sym even_length)
      ∙ ap (λ (l : List ℕ). count_list l q) even_are
      ∙ count_passing n 0 (is_shift n k) q
      ∙ sym (count_period n both round (n - j))
      ∙ count_stretch n d j (n - j) (is_shift n k) small (omega arith)

  -- balance: where n divides k·d, every node lies in k·d / n rows
  module _ (d j : ℕ) (small : d ≤ n) (even : k * d % n ≡ 0) (node : j < n) where
    pub balance : n * count_from k 0 (λ r. ltb ((j + get_or (even_shifts n k) r 0) % n) d) ≡ k * d
    balance =
        let c = around n k in
        let whole = div-mul_cancel c (around_divides d (dvd_of_mod-eq-zero n even)) in
        let rounds = rw (whole, count_residues) at (count_periods c (is_shift n k) period (d / c) (n - j)) in
        rw (rows_stretch d j small node, rounds) (products (gcd k n) c (taken n k) (d / c) times_around times_taken whole)
