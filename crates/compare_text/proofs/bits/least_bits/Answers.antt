-- `least_bits` meets its contract.
use mathlib.Core.Path.{◌≡◌, refl, sym, ap₂, ◌∙◌}
use Prim.Native.Nat.{ℕ, suc, ◌+◌, max}
use native.Mathlib.Omega.{arith}
use Rattle.repair_bound.specs.Additive.{line_bits, greatest, least_bits}
use Rattle.compare_text.proofs.bits.least_bits.Goals as goal

next : (m : ℕ) (f : ℕ → ℕ) → greatest (m + 1) f ≡ max (f m) (greatest m f)
unfolding greatest
next m f = let e : m + 1 ≡ suc m = omega arith in rw e

pub loop-c-init : goal.loop-c-init
unfolding greatest
loop-c-init c = record { is = refl; small = omega arith }

pub loop-c-preserved : goal.loop-c-preserved
unfolding greatest
loop-c-preserved c =
    let l = c.loop-c in
    record {
      is = c.max-least.ensures ∙ ap₂ max c.line_bits.ensures.is l.invariant.is ∙ sym (next l.c (λ c'. line_bits c' c.args.d c.args.k));
      small = omega (arith, c.line_bits.ensures.small, l.invariant.small, c.max-least.ensures);
    }

pub returns-clause-is : goal.returns-clause-is
unfolding least_bits
returns-clause-is c = let l = c.loop-c in let end : l.c ≡ 8 = omega (arith, l.auto.c-end, c.loop-c-test.false) in rw end at l.invariant.is
