-- The shifts of every plan, by whichever rule: k different numbers below n, the first of them 0; and every node lies in k·d / n rows, rounded down or up.
use mathlib.Core.Path.{◌≡◌, refl, sym}
use mathlib.Core.Bool.{Bool, true, false}
use mathlib.Core.List.{List}
use Prim.Native.Nat.{ℕ, ◌+◌, ◌-◌, ◌*◌, ◌%◌, ◌≤◌, ◌<◌}
use native.Mathlib.Nat.{zero-add}
use native.Mathlib.Omega.{arith}
use lib.Dec.{ltb}
use lib.ListN.{length, get_or}
use borrow.Author.Tests.{eqb-true}
use Rattle.lists.specs.Choice.{pick}
use Rattle.lists.specs.Counting.{count_from}
use Rattle.lists.proofs.All.{All-at}
use Rattle.lists.proofs.Places.{Places}
use Rattle.lists.proofs.Rows.{length_from, get_or_from}
use Rattle.scheme.specs.Costs.{Rounded}
use Rattle.generator.specs.Shifts.{even_shifts, negative, laid_shifts, is_even, shifts_of, firsts_of}
use Rattle.generator.proofs.Windows.{Near, near_rounded}
use Rattle.generator.proofs.EvenShifts.{even_places, even_first, balance}
use Rattle.generator.proofs.LaidShifts.{negative_below, negative_twice, laid_places, laid_shift_first, laid_near}

-- what a list of shifts has to be
record Shared (n k : ℕ) (l : List ℕ) : Type 0 where
  places : Places n k l
  first : get_or l 0 0 ≡ 0
  near : (j : ℕ) → j < n → Near n (k * (n - k + 1)) (count_from k 0 (λ r. ltb ((j + get_or l r 0) % n) (n - k + 1)))

module _ (n k : ℕ) (some : 0 < k) (fits : k ≤ n) where
  -- the rule of Lemma 2
  even_shared : is_even n k ≡ true → Shared n k (even_shifts n k)
  unfolding is_even
  even_shared e =
      record {
        places = even_places n k some fits;
        first = even_first n k some fits;
        near = λ j node. let whole = balance n k some fits (n - k + 1) j (omega arith) (eqb-true _ 0 e) node in record { above = omega arith; below = omega arith };
      }

  -- rows laid end to end
  laid_shared : Shared n k (laid_shifts n k)
  laid_shared = record { places = laid_places n k some fits; first = laid_shift_first n k some fits; near = laid_near n k some fits }

  shifts_shared : Shared n k (shifts_of n k)
  unfolding shifts_of
  shifts_shared = go (is_even n k) refl
    where
      go : (t : Bool) → is_even n k ≡ t → Shared n k (pick t (even_shifts n k) (laid_shifts n k))
      go true e = even_shared e
      go false e = laid_shared

  -- k different numbers below n
  pub shifts_places : Places n k (shifts_of n k)
  shifts_places = shifts_shared.places

  pub shifts_length : length (shifts_of n k) ≡ k
  shifts_length = shifts_places.size

  pub shifts_below : (r : ℕ) → r < k → get_or (shifts_of n k) r 0 < n
  shifts_below r h = All-at (λ j. j < n) 0 (shifts_of n k) shifts_places.low r (omega (arith, shifts_length))

  -- the first is 0
  pub shifts_first : get_or (shifts_of n k) 0 0 ≡ 0
  shifts_first = shifts_shared.first

  -- a row's first node is its shift's negative, and a node
  pub firsts_at : (r : ℕ) → r < k → get_or (firsts_of n k) r 0 ≡ negative n (get_or (shifts_of n k) r 0)
  unfolding firsts_of
  firsts_at r h = rw zero-add at (get_or_from (λ i. negative n (get_or (shifts_of n k) i 0)) 0 k r 0 h)

  pub firsts_below : (r : ℕ) → r < k → get_or (firsts_of n k) r 0 < n
  firsts_below r h = rw (firsts_at r h) (negative_below n (get_or (shifts_of n k) r 0) (omega arith))

  -- and its shift the first node's
  pub shifts_at : (r : ℕ) → r < k → get_or (shifts_of n k) r 0 ≡ negative n (get_or (firsts_of n k) r 0)
  shifts_at r h = rw (firsts_at r h) (sym (negative_twice n (get_or (shifts_of n k) r 0) (shifts_below r h)))

  pub firsts_length : length (firsts_of n k) ≡ k
  unfolding firsts_of
  firsts_length = length_from (λ i. negative n (get_or (shifts_of n k) i 0)) 0 k

  -- balance: every node lies in k·d / n rows, rounded down or up
  pub shifts_balance : (j : ℕ) → j < n → Rounded (k * (n - k + 1)) n (count_from k 0 (λ r. ltb ((j + get_or (shifts_of n k) r 0) % n) (n - k + 1)))
  shifts_balance j node = near_rounded n (k * (n - k + 1)) _ (omega arith) (shifts_shared.near j node)
