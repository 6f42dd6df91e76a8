-- `offset_from` meets its contract.
use mathlib.Core.Path.{◌≡◌}
use Prim.Native.Nat.{◌+◌, ◌-◌, ◌%◌, ◌<◌}
use native.Mathlib.Nat.{mod-lt}
use native.Mathlib.Omega.{arith}
use borrow.Author.Rules.{rules}
use lib.ListN.{get_or}
use Rattle.field.proofs.Bounds.{one_below}
use Rattle.check_sums.proofs.Sums.{power_place, power_at}
use Rattle.traces.specs.Repairs.{ratio, offset}
use Rattle.traces.proofs.Bounds.{ratio_below}
use Rattle.repair_tables.proofs.nodes.Target.offset_from.Goals as goal
use Rattle.repair_tables.proofs.nodes.Target.offset_from.Goals.{Start}

pub nonzero_rem-u : goal.nonzero_rem-u
nonzero_rem-u c = search rules

-- the place of the power, and what stands there
place : (c : Start) → let a = c.args in (a.node + (a.self.codec.code.header.n - a.self.node)) % a.self.codec.code.header.n < a.self.codec.code.header.n
place c = mod-lt _ (omega (arith, c.args.self.codec.code.sound.two))

read : (c : Start) → let a = c.args in get_or a.powers.list.now ((a.node + (a.self.codec.code.header.n - a.self.node)) % a.self.codec.code.header.n) 0 ≡ ratio a.self.codec.code.header a.self.node a.node
unfolding ratio
read c = rw (c.args.powers.are, c.requires.0) (power_at _ _ (place c))

pub bounds-powers-node : goal.bounds-powers-node
bounds-powers-node c = rw (c.args.powers.are, c.requires.0) (power_place _ _ (place (goal.at.bounds-powers-node c).Start))

pub sub-requires : goal.sub-requires
sub-requires c =
    let sound = c.args.self.codec.code.sound in
    rw c.args.self.codec.same (rw (read (goal.at.sub-requires c).Start) (ratio_below _ sound _ _), one_below _ sound.field)

pub returns : goal.returns
unfolding offset
returns c = rw (read (goal.at.returns c).Start, c.args.self.codec.same) at c.sub.ensures.is
