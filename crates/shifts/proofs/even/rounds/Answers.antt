-- `rounds` meets its contract. Invariant: the first `count` places are written, and the numbers from i on are to come.
use mathlib.Core.Path.{◌≡◌, ap}
use mathlib.Core.List.{[], ◌∷◌, ◌++◌}
use Prim.Native.Nat.{ℕ, ◌+◌, ◌-◌, ◌≤◌, ◌<◌}
use native.Mathlib.Nat.{sub-zero, sub-eq-zero_of_le}
use native.Mathlib.Omega.{arith}
use lib.Dec.{ltb}
use borrow.Author.Tests.{lt-ltb, le-ltb}
use Rattle.lists.specs.Choice.{pick}
use Rattle.lists.specs.Padded.{zeros}
use Rattle.lists.proofs.Rows.{sub_next}
use Rattle.lists.proofs.Fill.{fills_start, fills_put, fills_padded, length_zeros}
use Rattle.generator.specs.Shifts.{next_place, shifts_from}
use Rattle.shifts.proofs.even.rounds.Goals as goal
use Rattle.shifts.proofs.even.rounds.Goals.{else-place-taken, then-place-taken}

-- the number i, and those after it
shifts_next : (n i t s place : ℕ) → i < n → shifts_from (n - i) i t s place ≡ pick (ltb place t) (i ∷ []) [] ++ shifts_from (n - (i + 1)) (i + 1) t s (next_place (t + s) place)
unfolding shifts_from
shifts_next n i t s place h = ap (λ (f : ℕ). shifts_from f i t s place) (sub_next n i h)

shifts_end : (n i t s place : ℕ) → n ≤ i → shifts_from (n - i) i t s place ≡ []
unfolding shifts_from
shifts_end n i t s place h = ap (λ (f : ℕ). shifts_from f i t s place) (sub-eq-zero_of_le h)

pub loop-i-init : goal.loop-i-init
unfolding zeros
loop-i-init c = (omega arith, omega arith, rw sub-zero (fills_start _ _))

pub loop-i-preserved : goal.loop-i-preserved
loop-i-preserved c =
    let a = c.args in
    let l = c.loop-i in
    let todo = rw (shifts_next _ _ _ _ _ c.loop-i-test.true) at l.invariant.2 in
    let next = c.next_place-place.ensures in
    elim c.if-place-taken.branch [
      | then-place-taken w ↦ (omega arith, next.1, rw (w.out-is, w.count-is, next.0) (fills_put (rw (lt-ltb l.place a.taken (omega (arith, w.if-place-taken.true))) at todo) (omega (arith, length_zeros 255))))
      | else-place-taken w ↦ (omega arith, next.1, rw (w.out-is, w.count-is, next.0) (rw (le-ltb l.place a.taken (omega (arith, w.if-place-taken.false))) at todo))
    ]

pub returns : goal.returns
returns c = fills_padded 255 (rw (shifts_end _ _ _ _ _ c.loop-i-test.false) at c.loop-i.invariant.2)
