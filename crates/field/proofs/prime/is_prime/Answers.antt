-- `is_prime` meets its contract. The loop's invariant: no number from 2 on below `d` divides `p`.
use mathlib.Core.Path.{sym, ◌∙◌}
use Prim.Native.Nat.{◌*◌, ◌≤◌}
use native.Mathlib.Nat.{div-lt_iff_lt-mul, mul-le-mul_left}
use native.Mathlib.Omega.{arith}
use borrow.Author.Tests.{leb-true, leb-false}
use borrow.Author.Count.{below_more}
use Rattle.lists.proofs.Cases.{by_test}
use Rattle.field.proofs.Primes.{trial, composite, below_two}
use Rattle.field.proofs.prime.is_prime.Goals as goal

pub loop-d-init : goal.loop-d-init
loop-d-init c = λ k high low e. omega arith

pub returns-then-p-d : goal.returns-then-p-d
returns-then-p-d c = sym (trial _ _ (omega arith) c.if-p-d.true c.loop-d.invariant)

pub returns-then-p-d-eq0 : goal.returns-then-p-d-eq0
returns-then-p-d-eq0 c = sym (composite _ _ (omega arith) c.loop-d-test.true c.if-p-d-eq0.true)

pub loop-d-preserved : goal.loop-d-preserved
loop-d-preserved c = below_more _ _ c.loop-d.invariant (λ low. c.if-p-d-eq0.false)

pub returns : goal.returns
returns c =
    let p = c.args.p in
    by_test _
    (λ t.
    let two : 2 ≤ p = leb-true 2 p t in
    let square : p * 2 ≤ p * p = mul-le-mul_left p two in
    t ∙ sym (trial p p two ((div-lt_iff_lt-mul {k = p} (omega arith)).1 (omega arith)) (λ k high. c.loop-d.invariant k (omega arith))))
    (λ t. t ∙ sym (below_two p (leb-false 2 p t)))
