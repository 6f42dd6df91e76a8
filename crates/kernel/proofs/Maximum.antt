-- All numbers of a list are below m where the largest is; the larger of two numbers is below m where both are.
use Rattle.std.proofs.Common.{◌≡◌, sym, ◌∙◌, ℕ, ◌≤◌, ◌&&◌, ltb, List, get_or, arith, ltb-true, ltb-false, lt-ltb}
use Rattle.std.specs.Prelude.{Bool, true, length, Option, Some, None, MatchOption}
use Rattle.std.specs.List.{EachIndex, SomeIndex}
use mathlib.Core.Bool.{and-false}
use Rattle.lists.specs.Numbers.{all_below}
use Rattle.lists.proofs.Cases.{by_test}
use Rattle.lists.proofs.Numbers.{at_below, below_at}

-- a number is below m where a larger one is
pub ltb_larger : (a b m : ℕ) → a ≤ b → ltb b m ≡ (ltb a m && ltb b m)
ltb_larger a b m h =
    by_test (ltb b m)
    (λ e. rw (e, lt-ltb a m (omega (arith, ltb-true b m e))))
    (λ e. rw (e, and-false))

pub below_largest : (m top : ℕ) (s : List ℕ) → SomeIndex s (λ i. get_or s i 0 ≡ top) → EachIndex s (λ i. get_or s i 0 ≤ top) → ltb top m ≡ all_below m s
below_largest m top s (k, inside, is) largest =
    by_test (ltb top m)
    (λ e. rw (e, at_below m s (λ i h. omega (arith, largest i h, ltb-true top m e))))
    (λ e. by_test (all_below m s) (λ all. absurd (omega (arith, below_at m s all k inside, ltb-false top m e))) (λ some. rw (e, some)))

-- all numbers of a list are below m where it is empty, or where its largest one is
pub largest_below : (m : ℕ) (s : List ℕ) (r : Option ℕ) (b : Bool) → MatchOption r (length s ≡ 0) (λ top. SomeIndex s (λ i. get_or s i 0 ≡ top) × EachIndex s (λ i. get_or s i 0 ≤ top)) → MatchOption r (b ≡ true) (λ top. b ≡ ltb top m) → b ≡ all_below m s
largest_below m s None b empty is = is ∙ sym (at_below m s (λ i h. absurd (omega (arith, empty))))
largest_below m s (Some top) b (found, largest) is = is ∙ below_largest m top s found largest
