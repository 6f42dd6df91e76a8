-- `packing::packed_size` meets its contract.
use native.Mathlib.Omega.{arith}
use Rattle.repair_tables.proofs.Steps.{width_some}
use Rattle.repair.specs.Packing.{packed_size}
use Rattle.repair.proofs.Digits.{size_fits}
use Rattle.repair.proofs.packing.packed_size.Goals as goal

pub overflow_mul-result : goal.overflow_mul-result
unfolding packed_size
overflow_mul-result c = omega (arith, rw (← c.plane_size.ensures, ← c.count.ensures) at (size_fits _ _ (width_some c.args.b).1 c.requires))

pub returns : goal.returns
unfolding packed_size
returns c = rw (c.plane_size.ensures, c.count.ensures)
