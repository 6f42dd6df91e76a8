-- The places at which two lists differ: none where they are equal, and by way of a third list.
use mathlib.Core.Path.{◌≡◌, refl, sym, ap, ◌∙◌}
use mathlib.Core.Bool.{Bool, false, not}
use mathlib.Core.List.{List}
use Prim.Native.Nat.{ℕ, ◌+◌, ◌≤◌}
use native.Mathlib.Omega.{arith}
use borrow.Author.Tests.{eq-eqb, eqb-true, not-false}
use lib.Dec.{eqb}
use lib.ListN.{length, get_or}
use lib.Seq.{ext_get_or}
use Rattle.lists.specs.Counting.{differ}
use Rattle.lists.proofs.Count.{count_either, count_none, count_not, none_pass}

-- the lists differ at place i
abbrev pub unlike : List ℕ → List ℕ → ℕ → Bool
unlike s t i = not (eqb (get_or s i 0) (get_or t i 0))

-- where they do not, they hold the same
alike : (x y : ℕ) → not (eqb x y) ≡ false → x ≡ y
alike x y h = eqb-true x y (not-false _ h)

-- a list differs nowhere from itself
pub differ_same : (s : List ℕ) → differ s s ≡ 0
unfolding differ
differ_same s = count_none (length s) 0 _ (λ i low high. rw (eq-eqb (get_or s i 0) (get_or s i 0) refl))

-- and from no other list of its length
pub same_lists : (s t : List ℕ) → length s ≡ length t → differ s t ≡ 0 → s ≡ t
unfolding differ
same_lists s t long none = ext_get_or 0 s t long (λ i h. alike _ _ (none_pass (length s) 0 (unlike s t) none i (omega arith) (omega arith)))

-- by way of a third list: the triangle inequality
pub differ_by : (n : ℕ) (ws us vs : List ℕ) → length ws ≡ n → length us ≡ n → differ us vs ≤ differ ws us + differ ws vs
unfolding differ
differ_by n ws us vs lw lu =
    rw (lw, lu)
    (count_either n 0 (unlike us vs) (unlike ws us) (unlike ws vs)
    (λ j l b p q. ap not (eq-eqb (get_or us j 0) (get_or vs j 0) (sym (alike (get_or ws j 0) (get_or us j 0) p) ∙ alike (get_or ws j 0) (get_or vs j 0) q))))

-- at most all places
pub differ_most : (s t : List ℕ) → differ s t ≤ length s
unfolding differ
differ_most s t = omega (arith, count_not (length s) 0 (unlike s t))
