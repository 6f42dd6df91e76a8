-- `sums::gather` meets its contract.
use Rattle.repair.proofs.Digits.{gather_bit}
use mathlib.Core.Path.{◌≡◌}
use Prim.Native.Nat.{◌-◌}
use Rattle.repair.specs.Packing.{byte_from}
use Rattle.repair.proofs.sums.gather.Given as goal

abbrev pub invariant-loop-p : goal.invariant-loop-p
invariant-loop-p l = l.x ≡ byte_from (8 - l.p) (gather_bit l.planes l.i) l.p
