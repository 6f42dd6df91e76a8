-- `default` meets its contract. Invariant: the powers at exponents below e are made.
use mathlib.Core.Path.{◌≡◌, ap, ◌∙◌}
use Prim.Native.Nat.{◌+◌, ◌-◌, ◌<◌}
use native.Mathlib.Omega.{arith}
use lib.ListN.{length, length-set}
use Rattle.std.proofs.Common.{◌≢◌, below_more, get_or-set_same, get_or-set_other}
use Rattle.field.specs.Bytes.{times_x}
use Rattle.field.specs.Fields.{power}
use Rattle.tables.proofs.TwoPowers.{power_byte, next_power}
use Rattle.tables.proofs.powers.PowersDefault.default.Goals as goal

pub loop-e-preserved : goal.loop-e-preserved
loop-e-preserved c =
    let l = c.loop-e in
    let one : l.e - 1 + 1 ≡ l.e = omega arith in
    let next : c.next.result ≡ power 0 2 l.e = c.next.ensures ∙ ap times_x (l.invariant.made (l.e - 1) (omega arith)) ∙ next_power (l.e - 1) ∙ ap (power 0 2) one in
    record {
      size = length-set l.powers l.e c.next.result ∙ l.invariant.size;
      made =
          below_more _ _
          (λ k h. let other : k ≢ l.e = omega arith in rw get_or-set_other (l.invariant.made k h))
          (let inside : l.e < length l.powers = omega arith in rw get_or-set_same next);
    }
