-- Lists of different numbers that pass a test: as many as pass can be chosen, and no more.
use mathlib.Core.Path.{◌≡◌, refl, sym, ap, ◌∙◌}
use mathlib.Core.Logic.{◌≢◌, ⊎_elim}
use mathlib.Core.Bool.{Bool, true, false, ◌&&◌, not, false≢true, true≢false, and-true, and-eq-true_iff, or-true}
use mathlib.Core.List.{List, [], ◌∷◌}
use Prim.Native.Nat.{ℕ, zero, suc, ◌+◌, ◌≤◌, ◌<◌, zero-le, suc-le-suc}
use native.Mathlib.Nat.{not-suc-le-zero}
use native.Mathlib.Omega.{arith}
use native.Mathlib.Decide.{ℕ_discrete}
use lib.Dec.{eqb}
use lib.ListN.{length}
use borrow.Author.Tests.{ne_eqb, eq-eqb, not-true}
use Rattle.lists.specs.Choice.{when}
use Rattle.lists.specs.Counting.{count_from}
use Rattle.lists.specs.Numbers.{all_below, is_in, distinct}
use Rattle.lists.proofs.Count.{count_below, count_ext}
use Rattle.lists.proofs.Numbers.{below_cons, cons_below, below_weaken, fresh, is_in_cons}

-- c different numbers below n that pass the test p
pub record Chosen (c n : ℕ) (p : ℕ → Bool) : Type 0 where
  pub which : List ℕ
  pub size : length which ≡ c
  pub below : all_below n which ≡ true
  pub different : distinct which ≡ true
  pub pass : (i : ℕ) → is_in i which ≡ true → p i ≡ true

-- as many as pass can be chosen, and any fewer
pub choose : (n c : ℕ) (p : ℕ → Bool) → c ≤ count_from n 0 p → Chosen c n p
unfolding count_from all_below is_in distinct
choose n zero p h = record { which = []; size = refl; below = refl; different = refl; pass = λ i e. absurd (false≢true e) }
choose zero (suc c) p h = absurd (not-suc-le-zero h)
choose (suc n) (suc c) p h = go (p n) refl (choose n c p) (choose n (suc c) p) (rw (count_below n p) at h)
  where
    go : (t : Bool) → p n ≡ t → (c ≤ count_from n 0 p → Chosen c n p) → (suc c ≤ count_from n 0 p → Chosen (suc c) n p) → suc c ≤ when (p n) 1 + count_from n 0 p → Chosen (suc c) (suc n) p
    go true e more less h =
        let b : Chosen c n p = more (omega (arith, rw e at h)) in
        record {
          which = n ∷ b.which;
          size = ap suc b.size;
          below = cons_below (suc n) n b.which (omega arith) (below_weaken n b.which b.below);
          different = rw (fresh n b.which b.below) b.different;
          pass = λ i m. ⊎_elim (λ l. rw l e) (b.pass i) (is_in_cons i n b.which m);
        }
    go false e more less h =
        let b : Chosen (suc c) n p = less (omega (arith, rw e at h)) in
        record { which = b.which; size = b.size; below = below_weaken n b.which b.below; different = b.different; pass = b.pass }

-- the test p, which x fails
abbrev pub without : ℕ → (ℕ → Bool) → ℕ → Bool
without x p i = p i && not (eqb i x)

-- all but x pass as before
pub without_other : (x i : ℕ) (p : ℕ → Bool) → i ≢ x → without x p i ≡ p i
without_other x i p ne = rw (ne_eqb i x ne) (and-true (p i))

-- without x, one fewer passes
pub count_without : (n x : ℕ) (p : ℕ → Bool) → x < n → p x ≡ true → count_from n 0 p ≡ suc (count_from n 0 (without x p))
count_without zero x p l e = absurd (not-suc-le-zero l)
count_without (suc n) x p l e = rw (count_below n p, count_below n (without x p)) (go (ℕ_discrete n x) (count_without n x p))
  where
    go : Dec (n ≡ x) → (x < n → p x ≡ true → count_from n 0 p ≡ suc (count_from n 0 (without x p))) → when (p n) 1 + count_from n 0 p ≡ suc (when (without x p n) 1 + count_from n 0 (without x p))
    go (yes d) hyp =
        rw (ap p d ∙ e, eq-eqb n x d)
        (omega (arith, count_ext n 0 p (without x p) (λ i a b. sym (without_other x i p (λ o. omega arith)))))
    go (no d) hyp = rw (without_other x n p d) (omega (arith, hyp (omega arith) e))

-- a list of different numbers that pass is no longer than the count
pub count_most : (n : ℕ) (p : ℕ → Bool) (is : List ℕ) → all_below n is ≡ true → distinct is ≡ true → ((i : ℕ) → is_in i is ≡ true → p i ≡ true) → length is ≤ count_from n 0 p
unfolding is_in distinct
count_most n p [] b d h = zero-le
count_most n p (x ∷ is) b d h =
    let a = below_cons n x is b in
    let c = (and-eq-true_iff (not (is_in x is)) (distinct is)).0 d in
    let here : p x ≡ true = h x (rw (eq-eqb x x refl)) in
    rw (count_without n x p a.0 here)
    (suc-le-suc (count_most n (without x p) is a.1 c.1
    (λ i m. rw (without_other x i p (λ e. true≢false (sym (rw e at m) ∙ not-true _ c.0))) (h i (rw m (or-true (eqb i x)))))))
