-- The place of a number among values.
use mathlib.Core.Path.{◌≡◌, ◌∙◌}
use mathlib.Core.Logic.{⊎_elim}
use mathlib.Core.Bool.{Bool, not}
use mathlib.Core.List.{List}
use Prim.Native.Nat.{ℕ, zero, suc, ◌+◌}
use native.Mathlib.Omega.{arith}
use borrow.Author.Tests.{lt-ltb, le-ltb}
use lib.Dec.{eqb}
use lib.ListN.{length}
use Rattle.std.proofs.Common.{unwrap_or}
use Rattle.std.specs.List.{position, position_or_len}
use Rattle.std.proofs.lemmas.Bool.{cases_lt}
use Rattle.std.proofs.lemmas.List.Sums.{prefix_len-le-length}
use Rattle.lists.specs.Rows.{from}
use Rattle.lists.specs.Search.{first_false}
use Rattle.lists.proofs.Cases.{by_test}

-- the first of n values from i on that is a
pub first_place : (f : ℕ → ℕ) (a n i : ℕ) → first_false n i (λ e. not (eqb (f e) a)) ≡ i + position_or_len (λ x. eqb x a) (from f i n)
unfolding first_false from
first_place f a zero i = omega arith
first_place f a (suc n) i = by_test (eqb (f i) a) (λ t. rw t (omega arith)) (λ t. rw t (first_place f a n (i + 1) ∙ omega arith))

-- a place, or the length
pub place_or : (p : ℕ → Bool) (xs : List ℕ) (d : ℕ) → length xs ≡ d → unwrap_or (position p xs) d ≡ position_or_len p xs
place_or p xs d e =
    ⊎_elim
    (λ l. rw (lt-ltb (position_or_len p xs) (length xs) l))
    (λ l. rw (le-ltb (position_or_len p xs) (length xs) l) (omega (arith, prefix_len-le-length (λ x. not (p x)) xs)))
    (cases_lt (position_or_len p xs) (length xs))
