-- Counting the numbers of a stretch that pass a test.
use mathlib.Core.Path.{◌≡◌, refl, sym, ap, ap₂, ◌∙◌}
use mathlib.Core.Bool.{Bool, true, false, ◌&&◌, not, true≢false}
use mathlib.Core.Logic.{⊎_elim}
use Prim.Native.Nat.{ℕ, zero, suc, ◌+◌, ◌*◌, ◌≤◌, ◌<◌, zero-le}
use native.Mathlib.Nat.{zero-add, add-zero, suc-add, zero-mul, suc-mul, eq-or-lt_of_le}
use native.Mathlib.Omega.{arith}
use lib.Dec.{eqb}
use borrow.Author.Tests.{eq-eqb, ne_eqb}
use Rattle.lists.specs.Choice.{when}
use Rattle.lists.specs.Counting.{count_from}
use Rattle.lists.proofs.Cases.{by_test}

-- tests that agree on the stretch
pub count_ext : (f i : ℕ) (p q : ℕ → Bool) → ((j : ℕ) → i ≤ j → j < i + f → p j ≡ q j) → count_from f i p ≡ count_from f i q
unfolding count_from
count_ext zero i p q h = refl
count_ext (suc f) i p q h = ap₂ (λ (t : Bool) (c : ℕ). when t 1 + c) (h i (omega arith) (omega arith)) (count_ext f (i + 1) p q (λ j l m. h j (omega arith) (omega arith)))

-- two stretches end to end
pub count_add : (a b i : ℕ) (p : ℕ → Bool) → count_from (a + b) i p ≡ count_from a i p + count_from b (i + a) p
unfolding count_from
count_add zero b i p = rw (zero-add b, zero-add, add-zero)
count_add (suc a) b i p =
    let e : i + 1 + a ≡ i + suc a = omega arith in
    rw (suc-add, count_add a b (i + 1) p, e) (omega arith)

-- a number more at the end
pub count_last : (n i : ℕ) (p : ℕ → Bool) → count_from (suc n) i p ≡ when (p (i + n)) 1 + count_from n i p
unfolding count_from
count_last n i p =
    let e : suc n ≡ n + 1 = omega arith in
    ap (λ (f : ℕ). count_from f i p) e ∙ count_add n 1 i p ∙ omega arith

-- the numbers below n + 1 are n and those below n
pub count_below : (n : ℕ) (p : ℕ → Bool) → count_from (suc n) 0 p ≡ when (p n) 1 + count_from n 0 p
count_below n p = rw zero-add at (count_last n 0 p)

-- a stretch moved by c, the test moved along
pub count_move : (f i c : ℕ) (p : ℕ → Bool) → count_from f (i + c) p ≡ count_from f i (λ j. p (j + c))
unfolding count_from
count_move zero i c p = refl
count_move (suc f) i c p =
    let e : i + c + 1 ≡ i + 1 + c = omega arith in
    ap (λ (x : ℕ). when (p (i + c)) 1 + x) (rw e (count_move f (i + 1) c p))

-- all pass
pub count_all : (f i : ℕ) (p : ℕ → Bool) → ((j : ℕ) → i ≤ j → j < i + f → p j ≡ true) → count_from f i p ≡ f
unfolding count_from
count_all zero i p h = refl
count_all (suc f) i p h = rw (h i (omega arith) (omega arith), count_all f (i + 1) p (λ j l m. h j (omega arith) (omega arith))) (omega arith)

-- none passes
pub count_none : (f i : ℕ) (p : ℕ → Bool) → ((j : ℕ) → i ≤ j → j < i + f → p j ≡ false) → count_from f i p ≡ 0
unfolding count_from
count_none zero i p h = refl
count_none (suc f) i p h = rw (h i (omega arith) (omega arith), count_none f (i + 1) p (λ j l m. h j (omega arith) (omega arith))) refl

-- where none counts, none passes
pub none_pass : (f i : ℕ) (p : ℕ → Bool) → count_from f i p ≡ 0 → (j : ℕ) → i ≤ j → j < i + f → p j ≡ false
unfolding count_from
none_pass zero i p e j low high = absurd (omega arith)
none_pass (suc f) i p e j low high =
    by_test (p i)
    (λ t. absurd (let w : 1 + count_from f (i + 1) p ≡ 0 = rw t at e in omega arith))
    (λ t.
    let rest : 0 + count_from f (i + 1) p ≡ 0 = rw t at e in
    ⊎_elim (λ q. ap p (sym q) ∙ t) (λ next. none_pass f (i + 1) p (omega arith) j (omega arith) (omega arith)) (eq-or-lt_of_le low))

-- passes and failures make the stretch
pub count_not : (f i : ℕ) (p : ℕ → Bool) → count_from f i p + count_from f i (λ j. not (p j)) ≡ f
unfolding count_from
count_not zero i p = refl
count_not (suc f) i p = omega (arith, count_not f (i + 1) p, one (p i))
  where
    one : (t : Bool) → when t 1 + when (not t) 1 ≡ 1
    one true = refl
    one false = refl

-- what fails both q and r fails p: at most as many pass p as pass the two together
pub count_either : (f i : ℕ) (p q r : ℕ → Bool) → ((j : ℕ) → i ≤ j → j < i + f → q j ≡ false → r j ≡ false → p j ≡ false) → count_from f i p ≤ count_from f i q + count_from f i r
unfolding count_from
count_either zero i p q r h = zero-le
count_either (suc f) i p q r h = omega (arith, count_either f (i + 1) p q r (λ j l m. h j (omega arith) (omega arith)), one (p i) (q i) (r i) (h i (omega arith) (omega arith)))
  where
    one : (a b c : Bool) → (b ≡ false → c ≡ false → a ≡ false) → when a 1 ≤ when b 1 + when c 1
    one true true c g = omega arith
    one true false true g = omega arith
    one true false false g = absurd (true≢false (g refl refl))
    one false b c g = zero-le

-- a test of period c
module _ (c : ℕ) (p : ℕ → Bool) (period : (j : ℕ) → p (j + c) ≡ p j) where
  -- one period holds as many wherever it starts
  pub count_period : (i : ℕ) → count_from c i p ≡ count_from c 0 p
  unfolding count_from
  count_period zero = refl
  count_period (suc i) =
      let e : i + 1 ≡ suc i = omega arith in
      let longer : when (p i) 1 + count_from c (i + 1) p ≡ when (p (i + c)) 1 + count_from c i p = count_last c i p in
      let step : when (p i) 1 + count_from c (suc i) p ≡ when (p i) 1 + count_from c i p = rw (e, period i) at longer in
      omega (arith, count_period i)

  -- and q periods q times as many
  pub count_periods : (q i : ℕ) → count_from (q * c) i p ≡ q * count_from c 0 p
  unfolding count_from
  count_periods zero i = rw (zero-mul c, zero-mul)
  count_periods (suc q) i = rw (suc-mul q c, count_add (q * c) c i p, count_periods q i, count_period (i + q * c)) (omega arith)

-- just j, if it passes
pub count_one : (f i j : ℕ) (q : ℕ → Bool) → i ≤ j → j < i + f → count_from f i (λ x. eqb x j && q x) ≡ when (q j) 1
unfolding count_from
count_one zero i j q l h = absurd (omega arith)
count_one (suc f) i j q l h =
    ⊎_elim
    (λ e. rw (eq-eqb i j e, count_none f (i + 1) (λ x. eqb x j && q x) (λ x u v. rw (ne_eqb x j (λ w. omega arith))), e) (omega arith))
    (λ m. rw (ne_eqb i j (λ e. omega arith), zero-add) (count_one f (i + 1) j q (omega arith) (omega arith)))
    (eq-or-lt_of_le l)
