-- The nodes at which a polynomial vanishes: they are below n, and no node stands twice.
use mathlib.Core.Path.{◌≡◌}
use mathlib.Core.Bool.{Bool, true}
use mathlib.Core.List.{List}
use Prim.Native.Nat.{ℕ, ◌+◌, ◌≤◌, ◌<◌}
use native.Mathlib.Omega.{arith}
use lib.Dec.{eqb}
use Rattle.lists.specs.Counting.{passing_from}
use Rattle.lists.specs.Numbers.{all_below}
use Rattle.lists.proofs.All.{All-imp, Distinct}
use Rattle.lists.proofs.Numbers.{all_below_lem}
use Rattle.lists.proofs.Passing.{passing_within, passing_rises, rises_distinct}
use Rattle.field.specs.Fields.{power}
use Rattle.generator.specs.Codewords.{poly_at}
use Rattle.decode.specs.Inner.Errors.{roots_of}

module _ (p root n : ℕ) (cs : List ℕ) where
  pub roots_low : all_below n (roots_of p root n cs) ≡ true
  unfolding roots_of
  roots_low =
      let is : ℕ → Bool = λ j. eqb (poly_at p cs (power p root j)) 0 in
      all_below_lem n (passing_from n 0 is) (All-imp (λ j. (0 ≤ j) × (j < 0 + n)) (λ j. j < n) (λ j h. omega arith) (passing_from n 0 is) (passing_within n 0 is))

  pub roots_distinct : Distinct (roots_of p root n cs)
  unfolding roots_of
  roots_distinct = let is : ℕ → Bool = λ j. eqb (poly_at p cs (power p root j)) 0 in rises_distinct (passing_from n 0 is) (passing_rises n 0 is)
