-- `packing::byte` meets its contract.
use Prim.Native.Nat.{ℕ, ◌<◌, ◌-◌}
use native.Mathlib.Omega.{arith}
use borrow.Author.Tests.{lt-ltb}
use lib.ListN.{length, get_or}
use Rattle.repair.specs.Packing.{within}
use Rattle.repair.proofs.Digits.{within_low, byte_none, byte_turn_at, byte_done_at, byte_small}
use Rattle.repair.proofs.packing.byte.Goals as goal
use Rattle.repair.proofs.packing.byte.Goals.{In-loop-z}

pub loop-z-init : goal.loop-z-init
loop-z-init c = byte_none _ _ _ _ (omega arith)

-- the number of a turn is small
small : (c : In-loop-z) → c.loop-z.x < 256
small c =
    let bit : ℕ → ℕ = λ z. get_or c.args.bits.now (get_or c.args.lanes.now z 0) 0 in
    byte_small (within (length c.args.lanes.now) bit) (within_low (length c.args.lanes.now) bit (λ z. c.requires.1 (get_or c.args.lanes.now z 0))) _ _ _ c.loop-z.invariant

pub overflow_mul-x : goal.overflow_mul-x
overflow_mul-x c = let low = small (goal.at.overflow_mul-x c).In-loop-z in omega arith

pub overflow_add-x : goal.overflow_add-x
overflow_add-x c = let low = small (goal.at.overflow_add-x c).In-loop-z in omega (arith, c.requires.1 (get_or c.args.lanes.now (c.loop-z.z - 1) 0))

pub loop-z-preserved : goal.loop-z-preserved
unfolding within
loop-z-preserved c =
    let l = c.loop-z in
    let inside : l.z - 1 < length c.args.lanes.now = omega arith in
    rw (lt-ltb _ _ inside) at (byte_turn_at (within (length c.args.lanes.now) (λ z. get_or c.args.bits.now (get_or c.args.lanes.now z 0) 0)) l.z l.x (omega arith) (omega arith) l.invariant)

pub overflow_cast-result : goal.overflow_cast-result
overflow_cast-result c =
    let bit : ℕ → ℕ = λ z. get_or c.args.bits.now (get_or c.args.lanes.now z 0) 0 in
    let low : c.loop-z.x < 256 = byte_small (within (length c.args.lanes.now) bit) (within_low (length c.args.lanes.now) bit (λ z. c.requires.1 (get_or c.args.lanes.now z 0))) _ _ _ c.loop-z.invariant in
    omega arith

pub returns : goal.returns
returns c = byte_done_at _ _ _ (omega arith) c.loop-z.invariant
