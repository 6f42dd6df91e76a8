-- The search through all lists of n numbers below q finds one that passes, where there is one.
use mathlib.Core.Path.{◌≡◌, refl, sym, ap, ◌∙◌}
use mathlib.Core.Bool.{Bool, true, not, true≢false, not-not}
use mathlib.Core.List.{List, [], ◌∷◌}
use Prim.Native.Nat.{ℕ, zero, suc, ◌<◌}
use native.Mathlib.Decide.{dec_lt}
use native.Mathlib.Omega.{arith}
use borrow.Author.Tests.{ltb-true, lt-ltb}
use lib.ListN.{length}
use Rattle.lists.specs.Numbers.{all_below}
use Rattle.lists.specs.Search.{first_false}
use Rattle.lists.specs.AllLists.{any_list, first_list}
use Rattle.lists.proofs.Numbers.{below_cons, cons_below}
use Rattle.lists.proofs.Search.{search_passes, search_fails}

-- what is known of a list that passes
pub record Passes (q n : ℕ) (p : List ℕ → Bool) (l : List ℕ) : Type 0 where
  pub long : length l ≡ n
  pub below : all_below q l ≡ true
  pub passes : p l ≡ true

-- a number below q that passes is found
found : (q : ℕ) (p : ℕ → Bool) (x : ℕ) → x < q → p x ≡ true → first_false q 0 (λ x. not (p x)) < q
found q p x low e = go (dec_lt (first_false q 0 (λ x. not (p x))) q)
  where
    go : Dec (first_false q 0 (λ x. not (p x)) < q) → first_false q 0 (λ x. not (p x)) < q
    go (yes h) = h
    go (no h) = absurd (true≢false (sym (search_passes q 0 (λ x. not (p x)) x (omega arith) (omega arith)) ∙ ap not e))

-- and what is found passes
passing : (q : ℕ) (p : ℕ → Bool) → first_false q 0 (λ x. not (p x)) < q → p (first_false q 0 (λ x. not (p x))) ≡ true
passing q p h = let x = first_false q 0 (λ x. not (p x)) in sym (not-not (p x)) ∙ ap not (search_fails q 0 (λ x. not (p x)) (omega arith))

-- a list that passes is found
pub any_list_lem : (q n : ℕ) (p : List ℕ → Bool) (l : List ℕ) → Passes q n p l → any_list q n p ≡ true
unfolding any_list
any_list_lem q zero p [] h = h.passes
any_list_lem q zero p (x ∷ l) h = absurd (omega (arith, h.long))
any_list_lem q (suc n) p [] h = absurd (omega (arith, h.long))
any_list_lem q (suc n) p (x ∷ l) h =
    let b = below_cons q x l h.below in
    lt-ltb _ q
    (found q (λ x. any_list q n (λ l. p (x ∷ l))) x b.0
    (any_list_lem q n (λ l. p (x ∷ l)) l (record { long = omega (arith, h.long); below = b.1; passes = h.passes })))

-- the first list passes, where one does
pub first_list_lem : (q n : ℕ) (p : List ℕ → Bool) → any_list q n p ≡ true → Passes q n p (first_list q n p)
unfolding any_list first_list all_below
first_list_lem q zero p h = record { long = refl; below = refl; passes = h }
first_list_lem q (suc n) p h =
    let x = first_false q 0 (λ x. not (any_list q n (λ l. p (x ∷ l)))) in
    let low = ltb-true x q h in
    let r = first_list_lem q n (λ l. p (x ∷ l)) (passing q (λ x. any_list q n (λ l. p (x ∷ l))) low) in
    record { long = ap suc r.long; below = cons_below q x (first_list q n (λ l. p (x ∷ l))) low r.below; passes = r.passes }
