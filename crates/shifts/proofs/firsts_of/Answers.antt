-- `firsts_of` meets its contract. Invariant: the first nodes of the first r rows are written.
use Prim.Native.Nat.{ℕ, ◌≤◌, ◌<◌}
use mathlib.Core.Path.{◌≡◌, refl, ap, ◌∙◌}
use mathlib.Core.List.{List}
use native.Mathlib.Omega.{arith}
use lib.ListN.{length, get_or}
use Rattle.lists.specs.Padded.{zeros, padded}
use Rattle.lists.proofs.Fill.{filled_start, filled_put, filled_end}
use Rattle.lists.proofs.Padding.{get_or_padded}
use Rattle.generator.specs.Shifts.{negative, shifts_of, firsts_of}
use Rattle.generator.proofs.Shifts.{shifts_length, shifts_below}
use Rattle.shifts.proofs.firsts_of.Goals as goal
use Rattle.shifts.proofs.firsts_of.Goals.{After-shift-1}

-- the shift of row r stands at place r, and is below n
shift_at : (n k r : ℕ) (list : List ℕ) → 0 < k → k ≤ n → list ≡ padded 255 (shifts_of n k) → r < k → (get_or list r 0 ≡ get_or (shifts_of n k) r 0) × (get_or list r 0 < n)
shift_at n k r list some fits e row =
    let many : r < length (shifts_of n k) = omega (arith, shifts_length n k some fits) in
    rw (e, get_or_padded 255 (shifts_of n k) r many) (refl, shifts_below n k some fits r row)

-- the shift that was read
shift_of : (c : After-shift-1) → let h = c.args.dimensions in let x = get_or c.args.shifts.now c.loop-r.r 0 in (x ≡ get_or (shifts_of h.n h.k) c.loop-r.r 0) × (x < h.n)
shift_of c =
    let h = c.args.dimensions in
    shift_at h.n h.k _ c.args.shifts.now h.some h.fits c.requires c.loop-r-test.true

pub loop-r-init : goal.loop-r-init
unfolding zeros
loop-r-init c = filled_start 255 _ _ (omega arith)

pub negative-first-requires : goal.negative-first-requires
negative-first-requires c = (shift_of c).1

pub loop-r-preserved : goal.loop-r-preserved
loop-r-preserved c = filled_put c.loop-r.invariant c.loop-r-test.true (c.negative-first.ensures.0 ∙ ap (negative _) (shift_of (goal.at.loop-r-preserved c).After-shift-1).0)

pub returns : goal.returns
unfolding firsts_of
returns c = filled_end c.loop-r.invariant c.loop-r-test.false
