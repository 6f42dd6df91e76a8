-- `fill_exponents` meets its contract. Invariant: the exponents below x are written, and the next one and x are known modulo n.
use mathlib.Core.Path.{sym, ◌∙◌}
use Prim.Native.Nat.{◌≤◌, ◌<◌}
use native.Mathlib.Nat.{zero-mod}
use native.Mathlib.Omega.{arith}
use lib.ListN.{length}
use Rattle.lists.proofs.Parts.{valued_start, valued_all}
use Rattle.sliding_sums.proofs.Valued.{valued_next}
use Rattle.spectrum.specs.Inner.Spectrum.{triangle}
use Rattle.spectrum.proofs.Arrays.{triangle_next, next_modulo}
use Rattle.spectrum.proofs.chirps.fill_exponents.Goals as goal

pub loop-exponent-init : goal.loop-exponent-init
unfolding triangle
loop-exponent-init c = (valued_start _ _ _, sym (zero-mod c.args.n), sym (zero-mod c.args.n))

pub loop-exponent-preserved : goal.loop-exponent-preserved
loop-exponent-preserved c =
    let l = c.loop-exponent in
    let n = c.args.n in
    let room : l.exponent-index < length c.args.out.now = omega (arith, l.invariant.0.long) in
    (valued_next _ _ l.invariant.0 room (omega arith) l.invariant.1, c.stepped-sum.ensures ∙ rw (l.invariant.1, l.invariant.2) (triangle_next n l.exponent-index), c.stepped-step.ensures ∙ rw l.invariant.2 (next_modulo n l.exponent-index))

pub returns : goal.returns
returns c =
    let all : length c.args.out.now ≤ c.loop-exponent.exponent-index = omega (arith, c.loop-exponent.invariant.0.long) in
    valued_all _ _ c.loop-exponent.invariant.0 all all
