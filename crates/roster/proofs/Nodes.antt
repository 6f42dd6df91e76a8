-- The present nodes: rising, below n, marked.
use mathlib.Core.Path.{◌≡◌}
use mathlib.Core.Bool.{Bool, true}
use mathlib.Core.List.{List}
use Prim.Native.Nat.{ℕ, ◌+◌, ◌≤◌, ◌<◌}
use native.Mathlib.Omega.{arith}
use Rattle.lists.specs.Counting.{passing_from}
use Rattle.lists.proofs.All.{All, All-imp, Distinct}
use Rattle.lists.proofs.Numbers.{StandsIn}
use Rattle.lists.proofs.Passing.{passing_within, passing_pass, passing_place, Rises, passing_rises, rises_distinct}
use Rattle.roster.specs.Rosters.{is_present, present_of}

module _ (n : ℕ) (marks : List Bool) where
  -- the present nodes rise, lie below n and are marked
  pub present_rises : Rises (present_of n marks)
  unfolding present_of
  present_rises = passing_rises n 0 (is_present marks)

  pub present_distinct : Distinct (present_of n marks)
  present_distinct = rises_distinct (present_of n marks) present_rises

  pub present_low : All (λ j. j < n) (present_of n marks)
  unfolding present_of
  present_low = All-imp (λ j. (0 ≤ j) × (j < 0 + n)) (λ j. j < n) (λ j h. omega arith) (passing_from n 0 (is_present marks)) (passing_within n 0 (is_present marks))

  pub present_marked : All (λ j. is_present marks j ≡ true) (present_of n marks)
  unfolding present_of
  present_marked = passing_pass n 0 (is_present marks)

  -- and every marked node below n is among them
  pub present_place : (j : ℕ) → j < n → is_present marks j ≡ true → StandsIn j (present_of n marks)
  unfolding present_of
  present_place j low is = passing_place n 0 (is_present marks) j (omega arith) (omega arith) is
