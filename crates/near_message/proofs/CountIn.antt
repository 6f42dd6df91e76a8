-- Which numbers stand in a list of those that pass a test, and how many stand in a list.
use mathlib.Core.Path.{◌≡◌, refl, sym, ap, ◌∙◌}
use mathlib.Core.Bool.{Bool, true, false, true≢false}
use mathlib.Core.List.{List, [], ◌∷◌}
use Prim.Native.Nat.{ℕ, zero, suc, ◌+◌, ◌≤◌, ◌<◌, zero-le}
use native.Mathlib.Omega.{arith}
use borrow.Author.Tests.{ne_eqb}
use lib.Dec.{eqb}
use lib.ListN.{length}
use Rattle.lists.specs.Counting.{count_from, passing_from}
use Rattle.lists.specs.Numbers.{is_in}
use Rattle.std.proofs.lemmas.Bool.{or_from}
use Rattle.lists.proofs.Cases.{by_test, same_test}
use Rattle.lists.proofs.All.{All-at}
use Rattle.lists.proofs.Count.{count_none, count_either}
use Rattle.lists.proofs.Numbers.{is_in_place, place_is_in}
use Rattle.lists.proofs.Passing.{passing_pass, passing_place}

-- one number is met at most once
count_same : (f i x : ℕ) → count_from f i (λ j. eqb j x) ≤ 1
unfolding count_from
count_same zero i x = zero-le
count_same (suc f) i x =
    by_test (eqb i x)
    (λ t. rw (t, count_none f (i + 1) (λ j. eqb j x) (λ j l b. ne_eqb j x (λ e. absurd (true≢false (sym t ∙ ne_eqb i x (λ d. omega arith)))))) (omega arith))
    (λ t. rw t (let r = count_same f (i + 1) x in omega arith))

-- at most as many numbers stand in a list as it has elements
pub count_in : (n : ℕ) (l : List ℕ) → count_from n 0 (λ j. is_in j l) ≤ length l
unfolding is_in
count_in n [] = omega (arith, count_none n 0 (λ j. false) (λ j l b. refl))
count_in n (x ∷ l) =
    omega (arith, count_either n 0 (λ j. is_in j (x ∷ l)) (λ j. eqb j x) (λ j. is_in j l) (λ j a b c d. or_from _ _ c d), count_same n 0 x, count_in n l)

-- a number below n stands in the list of those that pass exactly if it passes
pub is_in_passing : (n : ℕ) (q : ℕ → Bool) (j : ℕ) → j < n → is_in j (passing_from n 0 q) ≡ q j
is_in_passing n q j b =
    let l = passing_from n 0 q in
    same_test (is_in j l) (q j)
    (λ t.
    let (u, c, is) = is_in_place j l t in
    ap q (sym is) ∙ All-at (λ i. q i ≡ true) 0 l (passing_pass n 0 q) u c)
    (λ t.
    let (u, c, is) = passing_place n 0 q j (omega arith) (omega arith) t in
    sym (ap (λ (x : ℕ). is_in x l) is) ∙ place_is_in l u c)
