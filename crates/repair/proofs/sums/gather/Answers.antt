-- `sums::gather` meets its contract.
use Prim.Native.Nat.{◌<◌}
use native.Mathlib.Omega.{arith}
use Rattle.repair.specs.Inner.Sums.{lane_byte}
use Rattle.repair.proofs.Digits.{gather_bit, gather_bit_low, byte_start, byte_turn_at, byte_done_at, byte_small}
use Rattle.repair.proofs.sums.gather.Goals as goal
use Rattle.repair.proofs.sums.gather.Goals.{In-loop-p, At-loop-p}

pub loop-p-init : goal.loop-p-init
loop-p-init c = byte_start _ _

-- the number of a turn is a byte
small : (c : At-loop-p) → c.loop-p.x < 256
small c = byte_small (gather_bit c.args.planes.now c.args.i) (gather_bit_low c.args.planes.now c.args.i) _ _ _ c.loop-p.invariant

pub overflow_mul-x : goal.overflow_mul-x
overflow_mul-x c = omega (arith, small (goal.at.overflow_mul-x c).At-loop-p)

pub overflow_add-x : goal.overflow_add-x
overflow_add-x c = omega (arith, small (goal.at.overflow_add-x c).At-loop-p, c.of.ensures.digit)

pub loop-p-preserved : goal.loop-p-preserved
loop-p-preserved c =
    let l = c.loop-p in
    rw c.of.ensures.value (byte_turn_at (gather_bit c.args.planes.now c.args.i) l.p l.x (omega arith) (omega arith) l.invariant)

pub overflow_cast-result : goal.overflow_cast-result
overflow_cast-result c = omega (arith, small (goal.at.overflow_cast-result c).At-loop-p)

pub returns : goal.returns
unfolding lane_byte
returns c =
    byte_done_at (gather_bit c.args.planes.now c.args.i) c.loop-p.p c.loop-p.x (omega arith) c.loop-p.invariant
