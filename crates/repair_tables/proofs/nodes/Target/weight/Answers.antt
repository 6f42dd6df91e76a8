-- `Target::weight` meets its contract.
use Prim.Native.Nat.{◌<◌}
use native.Mathlib.Omega.{arith}
use Rattle.lists.proofs.Numbers.{below_at}
use Rattle.traces.specs.Repairs.{part}
use Rattle.traces.proofs.Bounds.{offset_below}
use Rattle.repair_tables.specs.Inner.Weights.{bit_weight}
use Rattle.repair_tables.proofs.Steps.{binary_of, width_parts, kind_symbol, mul_kind, symbol_kind, element_byte, digit_place}
use Rattle.repair_tables.proofs.nodes.Target.weight.Goals as goal
use Rattle.repair_tables.proofs.nodes.Target.weight.Goals.{After-offset_from-y}

pub offset_from-y-requires : goal.offset_from-y-requires
offset_from-y-requires c =
    let (same, js, q) = c.requires in
    (same, below_at _ _ js _ (rw (← c.count-b.ensures) at (width_parts c.args.self.bits _ _ q).0))

-- the offset is a byte
low : (c : After-offset_from-y) → c.offset_from-y.result < 256
low c = let t = c.args.self in rw c.offset_from-y.ensures (kind_symbol _ _ (binary_of _ _ _ t.needed) (offset_below _ t.codec.code.sound _ _))

pub mul-requires : goal.mul-requires
mul-requires c =
    let t = c.args.self in
    rw t.codec.same (symbol_kind _ _ (binary_of _ _ _ t.needed) (low (goal.at.mul-requires c).After-offset_from-y), rw c.element-e.ensures (symbol_kind _ _ (binary_of _ _ _ t.needed) (element_byte _ _)))

pub overflow_cast-result : goal.overflow_cast-result
overflow_cast-result c =
    let t = c.args.self in
    let fits : c.mul.result < 256 = rw (c.mul.ensures.is, t.codec.same) (mul_kind _ _ _ (binary_of _ _ _ t.needed) (low (goal.at.overflow_cast-result c).After-offset_from-y)) in
    omega arith

pub returns : goal.returns
unfolding bit_weight part
returns c =
    let (same, js, q) = c.requires in
    let place = (width_parts c.args.self.bits _ _ q).1 in
    rw (c.mul.ensures.is, c.args.self.codec.same, c.element-e.ensures, c.offset_from-y.ensures, c.count-b.ensures, digit_place _ place)
