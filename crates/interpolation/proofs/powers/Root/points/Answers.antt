-- `points` meets its contract. Invariant: the first i points are written.
use mathlib.Core.Path.{sym, ap, ◌∙◌}
use Prim.Native.Nat.{◌+◌}
use Rattle.lists.specs.Padded.{padded}
use Rattle.lists.proofs.Fill.{filled_put, filled_end}
use Rattle.lists.proofs.Places.{map_from}
use Rattle.field.specs.Fields.{power}
use Rattle.field.specs.Kinds.{modulus}
use Rattle.interpolation.specs.Inner.Points.{points_of}
use Rattle.interpolation.proofs.powers.Root.points.Goals as goal

pub loop-i-preserved : goal.loop-i-preserved
loop-i-preserved c = filled_put c.loop-i.invariant c.loop-i-test.true c.power.ensures.is

pub returns : goal.returns
unfolding points_of
returns c =
    let a = c.args in
    filled_end c.loop-i.invariant c.loop-i-test.false ∙ ap (padded 255) (sym (map_from (λ j. power (modulus a.self.field.field) a.self.value (j + a.offset)) a.places.now))
