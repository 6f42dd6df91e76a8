-- `times_linear` meets its contract. Invariant: the first coefficients are written, and `last` is carried over to the next.
use mathlib.Core.Path.{◌≡◌}
use Prim.Native.Nat.{◌≤◌, ◌<◌}
use native.Mathlib.Omega.{arith}
use lib.ListN.{length, get_or}
use Rattle.lists.proofs.Fill.{fills_next, fills_put, fills_all}
use Rattle.lists.proofs.Numbers.{below_at}
use Rattle.field.specs.Fields.{size_of}
use Rattle.field.specs.Kinds.{modulus}
use Rattle.interpolation.proofs.Coefficients.{carried_next, carried_end}
use Rattle.interpolation.proofs.polynomials.times_linear.Goals as goal
use Rattle.interpolation.proofs.polynomials.times_linear.Goals.{In-loop-c}

-- the place holds what it held, a symbol
turn : (c : In-loop-c)
    → let a = c.args in
    let l = c.loop-c in
    (get_or l.coefficients l.c-index 0 ≡ get_or a.coefficients.now l.c-index 0) × (get_or l.coefficients l.c-index 0 < size_of (modulus a.field.field))
turn c =
    let same = fills_next c.loop-c.invariant.1 0 in
    (same, rw same (below_at _ _ c.requires.0 _ (omega (arith, c.loop-c-test.true))))

pub mul-term-requires : goal.mul-term-requires
mul-term-requires c = (c.requires.1, (turn (goal.at.mul-term-requires c).In-loop-c).1)

pub loop-c-preserved : goal.loop-c-preserved
loop-c-preserved c =
    let l = c.loop-c in
    let inside : l.c-index < length c.args.coefficients.now = omega arith in
    let (same, low) = turn (goal.at.loop-c-preserved c).In-loop-c in
    let todo = rw (carried_next _ _ _ c.args.coefficients.now l.c-index inside) at l.invariant.1 in
    (low, rw (c.sub.ensures.is, c.mul-term.ensures.is, same) (fills_put todo inside))

pub returns : goal.returns
returns c =
    let l = c.loop-c in
    let all : length c.args.coefficients.now ≤ l.c-index = omega (arith, l.invariant.1.long) in
    fills_all (rw (carried_end _ _ _ _ l.c-index all) at l.invariant.1) all
