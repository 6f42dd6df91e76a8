-- `round_points` meets its contract: each point is a power of the root, whose exponent counts modulo n.
use mathlib.Core.Path.{refl}
use Prim.Native.Nat.{◌+◌, ◌-◌, ◌*◌, ◌%◌, ◌<◌}
use native.Mathlib.Nat.{mod-lt}
use native.Mathlib.Omega.{arith}
use Rattle.lists.proofs.Fill.{filled_put}
use Rattle.check_sums.proofs.Sums.{power_place}
use Rattle.lane_message.proofs.rows.GeneratorRows.round_points.Goals as goal
use Rattle.lane_message.proofs.rows.GeneratorRows.round_points.Goals.{In-loop-j, Start}

-- the place of the exponent
inside : (c : In-loop-j)
    → let a = c.args in
    (c.loop-j.j + (a.self.transform.powers.codec.code.header.k - 1)) * a.g % a.self.transform.powers.codec.code.header.n < a.self.transform.powers.codec.code.header.n
inside c = mod-lt _ (omega (arith, c.args.self.transform.powers.codec.code.sound.two))

pub bounds-powers-e : goal.bounds-powers-e
bounds-powers-e c = rw c.args.self.transform.powers.are (power_place c.args.self.transform.powers.codec.code.header _ (inside (goal.at.bounds-powers-e c).In-loop-j))

pub loop-j-preserved : goal.loop-j-preserved
loop-j-preserved c = filled_put c.loop-j.invariant c.loop-j-test.true refl
