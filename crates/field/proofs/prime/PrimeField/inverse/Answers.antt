-- `inverse` of a prime field meets its contract. The loop's invariant: t·a is x modulo p.
use mathlib.Core.Path.{sym, ap, ◌∙◌}
use Prim.Native.Nat.{◌+◌, ◌/◌, ◌%◌, ◌<◌}
use native.Mathlib.Omega.{arith}
use Rattle.field.specs.Fields.{inverse}
use Rattle.field.proofs.Primes.{two≤prime}
use Rattle.field.proofs.Meanings.{mul_under, sub_under, prime_field}
use Rattle.field.proofs.PrimeInverse.{step_bounds, turn_down, turn_up, turn_start}
use Rattle.field.proofs.Inverse.{inverse_zero, prime_inverse}
use Rattle.field.proofs.prime.PrimeField.inverse.Goals as goal
use Rattle.field.proofs.prime.PrimeField.inverse.Goals.{In-loop-x}

pub returns-then-a-eq-ZERO : goal.returns-then-a-eq-ZERO
returns-then-a-eq-ZERO c =
    sym (ap (inverse c.args.self.p) c.if-a-eq-ZERO.true ∙ inverse_zero c.args.self.p (prime_field _ c.requires.0))

pub loop-x-init : goal.loop-x-init
loop-x-init c = (omega arith, omega arith, two≤prime _ c.requires.0, turn_start _ _ (omega arith))

-- what holds of the quotient and the rest of a turn
turn : (c : In-loop-x)
    → let p = c.args.self.p in let x = c.loop-x.x in
    (0 < p % x) × (p % x < x) × (p / x + 1 < p)
turn c =
    let l = c.loop-x in
    step_bounds _ c.requires.0 _ l.invariant.0 c.loop-x-test.true l.invariant.1

pub sub-t-requires : goal.sub-t-requires
sub-t-requires c =
    let h : c.mul.result < c.args.self.p = rw c.mul.ensures (mul_under _ (omega arith) _ _) in
    omega arith

pub loop-x-preserved-then-r-x : goal.loop-x-preserved-then-r-x
loop-x-preserved-then-r-x c =
    let t = turn (goal.at.loop-x-preserved-then-r-x c).In-loop-x in
    let inv = c.loop-x.invariant in (
      t.0,
      omega (arith, t),
      rw c.sub-t.ensures (sub_under _ (omega arith) _ _),
      rw (c.sub-t.ensures, c.mul.ensures) (turn_down _ _ _ _ inv.0 inv.1 inv.3),
    )

pub loop-x-preserved : goal.loop-x-preserved
loop-x-preserved c =
    let t = turn (goal.at.loop-x-preserved c).In-loop-x in
    let inv = c.loop-x.invariant in (
      omega (arith, t),
      omega (arith, t),
      rw c.mul-t.ensures (mul_under _ (omega arith) _ _),
      rw c.mul-t.ensures (turn_up _ _ _ _ inv.0 inv.1 inv.3),
    )

pub returns : goal.returns
returns c =
    let inv = c.loop-x.invariant in
    prime_inverse _ c.requires.0 _ _ (omega arith) inv.2 (inv.3 ∙ c.loop-x-test.false)
