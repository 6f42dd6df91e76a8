-- `gcd` meets its contract. Invariant: so far as Euclid's algorithm has come, with fuel, the answer is still that of x and y.
use Prim.Native.Nat.{suc}
use mathlib.Core.Path.{refl}
use native.Mathlib.Omega.{arith}
use Rattle.generator.specs.Shifts.{gcd}
use Rattle.generator.proofs.Gcd.{gcd_next, gcd_end}
use Rattle.shifts.proofs.gcd.Goals as goal

pub loop-b-init : goal.loop-b-init
unfolding gcd
loop-b-init c = (suc c.args.y, omega arith, refl)

pub loop-b-preserved : goal.loop-b-preserved
loop-b-preserved c =
    let l = c.loop-b in
    gcd_next l.invariant.0 l.a l.b _ (omega (arith, c.loop-b-test.true)) l.invariant.1 l.invariant.2

pub returns : goal.returns
returns c =
    let l = c.loop-b in
    gcd_end l.invariant.0 l.a l.b _ (omega (arith, c.loop-b-test.false)) l.invariant.2
