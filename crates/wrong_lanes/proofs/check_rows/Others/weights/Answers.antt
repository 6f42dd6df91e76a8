-- `weights` meets its contract: the values of the first nodes' basis polynomials, and −1.
use mathlib.Core.Path.{◌≡◌}
use Prim.Native.Nat.{◌+◌}
use Rattle.lists.proofs.Numbers.{below_at}
use Rattle.field.proofs.Arithmetic.{zero_below}
use Rattle.field.proofs.BothKinds.{arithmetic}
use Rattle.field.proofs.Bounds.{one_below}
use Rattle.field.proofs.KindLaws.{usable_field}
use Rattle.wrong_lanes.proofs.check_rows.Others.weights.Goals as goal

pub values-weights-requires : goal.values-weights-requires
values-weights-requires c =
    let o = c.args.self in
    rw (c.first.ensures.0, c.first.ensures.1) (c.requires.0, below_at _ o.points.now o.symbols.below (o.k + c.args.e) c.requires.1)

pub sub-requires : goal.sub-requires
sub-requires c = let v = usable_field _ c.args.self.field.usable in (zero_below (arithmetic _ v), one_below _ v)

pub returns : goal.returns
returns c = rw (c.sub.ensures.is, c.values-weights.ensures, c.first.ensures.0, c.first.ensures.1)
