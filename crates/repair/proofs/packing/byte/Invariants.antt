-- `packing::byte` meets its contract.
use mathlib.Core.Path.{◌≡◌}
use Prim.Native.Nat.{◌-◌}
use lib.ListN.{length, get_or}
use Rattle.repair.specs.Packing.{byte_from, within}
use Rattle.repair.proofs.packing.byte.Given as goal

abbrev pub invariant-loop-z : goal.invariant-loop-z
invariant-loop-z l = l.x ≡ byte_from (8 - l.z) (within (length l.lanes) (λ z. get_or l.bits (get_or l.lanes z 0) 0)) l.z
