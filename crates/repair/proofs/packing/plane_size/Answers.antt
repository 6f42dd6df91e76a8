-- `packing::plane_size` meets its contract.
use native.Mathlib.Omega.{arith}
use Rattle.repair.specs.Packing.{plane_size}
use Rattle.repair.proofs.packing.plane_size.Goals as goal

pub returns : goal.returns
unfolding plane_size
returns c = omega (arith, c.div_ceil.ensures)
