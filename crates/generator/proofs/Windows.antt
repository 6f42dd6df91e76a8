-- The test for an entry that is not zero, (j + s) mod n < d, for any shift s; and counts that lie near a quotient.
use mathlib.Core.Path.{◌≡◌, refl, sym, ◌∙◌}
use mathlib.Core.Logic.{◌↔◌, inl, inr, ⊎_elim}
use mathlib.Core.Bool.{Bool, true, ◌&&◌, and-true, and-false}
use Prim.Native.Nat.{ℕ, ◌+◌, ◌-◌, ◌*◌, ◌/◌, ◌%◌, ◌≤◌, ◌<◌}
use native.Mathlib.Nat.{add_comm, add_assoc, add-mod_left, add-mod_right, add-mod-mod, mod-add-mod, mod-eq_of_lt, mod-lt, div-lt_iff_lt-mul, le-div_iff_mul-le, lt-div-mul-add, eq-or-lt_of_le}
use native.Mathlib.Omega.{arith}
use lib.Dec.{ltb}
use borrow.Author.Tests.{lt-ltb, le-ltb, ltb-true}
use Rattle.lists.specs.Counting.{count_from}
use Rattle.generator.specs.Shifts.{negative}
use Rattle.scheme.specs.Costs.{Rounded}
use Rattle.lists.proofs.Count.{count_add, count_ext, count_all, count_none, count_period}

-- the test comes round with n
pub below_period : (n d j i : ℕ) → ltb ((j + (i + n)) % n) d ≡ ltb ((j + i) % n) d
below_period n d j i = rw (← add_assoc, add-mod_right)

-- where j + x is n, a number i of the n from x on is i − x modulo n, moved by j
mod_stretch : (n j x i : ℕ) → j + x ≡ n → x ≤ i → i < x + n → (j + i) % n ≡ i - x
mod_stretch n j x i e l m =
    let moved : j + i ≡ n + (i - x) = omega arith in
    rw (moved, add-mod_left) (mod-eq_of_lt (omega arith))

-- where j + x is n, the numbers of a round from x on that pass both tests are those of its first d that pass the first
pub count_stretch : (n d j x : ℕ) (p : ℕ → Bool) → d ≤ n → j + x ≡ n → count_from n x (λ i. p i && ltb ((j + i) % n) d) ≡ count_from d x p
count_stretch n d j x p l e =
    let q : ℕ → Bool = λ i. p i && ltb ((j + i) % n) d in
    let inside : count_from d x q ≡ count_from d x p =
    count_ext d x q p (λ i u v. rw (mod_stretch n j x i e u (omega arith), lt-ltb (i - x) d (omega arith)) (and-true (p i))) in
    let outside : count_from (n - d) (x + d) q ≡ 0 =
    count_none (n - d) (x + d) q (λ i u v. rw (mod_stretch n j x i e (omega arith) (omega arith), le-ltb (i - x) d (omega arith)) (and-false (p i))) in
    let whole : d + (n - d) ≡ n = omega arith in
    rw whole at (count_add d (n - d) x q) ∙ omega arith

-- a row of any shift lies on d nodes
pub row_nodes : (n d s : ℕ) → 0 < n → d ≤ n → count_from n 0 (λ j. ltb ((j + s) % n) d) ≡ d
row_nodes n d s pos small =
    let b = s % n in
    let less = mod-lt s pos in
    let moved : (j : ℕ) → ltb ((j + s) % n) d ≡ ltb ((b + j) % n) d = λ j. rw (mod-add-mod, add_comm s j) in
    count_ext n 0 (λ j. ltb ((j + s) % n) d) (λ j. ltb ((b + j) % n) d) (λ j u v. moved j)
    ∙ sym (count_period n (λ j. ltb ((b + j) % n) d) (below_period n d b) (n - b))
    ∙ count_stretch n d b (n - b) (λ j. true) small (omega arith)
    ∙ count_all d (n - b) (λ j. true) (λ j u v. refl)

-- b on and b back
turn_back : (n b y : ℕ) → b ≤ n → (b + y + (n - b) % n) % n ≡ y % n
turn_back n b y within =
    let whole : b + y + (n - b) ≡ y + n = omega arith in
    rw (add-mod-mod (b + y) (n - b) n, whole) (add-mod_right y n)

-- a row whose shift is the negative of b lies on node j exactly if j is one of the d nodes from b on, going round
pub row_window : (n d b j : ℕ) → d ≤ n → j < n → b ≤ n → (ltb ((j + negative n b) % n) d ≡ true) ↔ ((x : ℕ) × (x < d) × ((b + x) % n ≡ j))
unfolding negative
row_window n d b j small node within = (to, back)
  where
    far : ℕ
    far = (j + (n - b) % n) % n

    to : ltb far d ≡ true → (x : ℕ) × (x < d) × ((b + x) % n ≡ j)
    to e = (far, ltb-true far d e, rw (add-mod-mod b (j + (n - b) % n) n, ← add_assoc b j, turn_back n b j within) (mod-eq_of_lt node))

    back : (x : ℕ) × (x < d) × ((b + x) % n ≡ j) → ltb far d ≡ true
    back (x, h, e) =
        let same : far ≡ x = rw (← e, mod-add-mod, turn_back n b x within) (mod-eq_of_lt (omega arith)) in
        rw same (lt-ltb x d h)

-- n times w lies less than n from x
pub record Near (n x w : ℕ) : Type 0 where
  pub above : x < n * w + n
  pub below : n * w < x + n

-- so w is x / n, rounded down or up
pub near_rounded : (n x w : ℕ) → 0 < n → Near n x w → Rounded x n w
near_rounded n x w pos near =
    let low : x / n < w + 1 = (div-lt_iff_lt-mul pos).1 (omega arith) in
    let high : w ≤ (x + (n - 1)) / n = (le-div_iff_mul-le pos).1 (omega arith) in
    let most = lt-div-mul-add {a = x} pos in
    let close : (x + (n - 1)) / n < x / n + 2 = (div-lt_iff_lt-mul pos).1 (omega arith) in
    ⊎_elim (λ e. inl (sym e)) (λ h. inr (omega arith)) (eq-or-lt_of_le {n = x / n} {m = w} (omega arith))
