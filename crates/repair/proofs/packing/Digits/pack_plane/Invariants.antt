-- `Digits::pack_plane` meets its contract.
use Prim.Native.Nat.{◌*◌}
use Rattle.kernel.proofs.Filling.{Changed}
use Rattle.repair.specs.Packing.{byte_from}
use Rattle.repair.specs.Inner.Lanes.{lane_bit}
use Rattle.repair.proofs.packing.Digits.pack_plane.Given as goal

abbrev pub invariant-loop-c : goal.invariant-loop-c
invariant-loop-c l = Changed (λ c y. byte_from 8 (lane_bit l.fn.bit.place l.self.table.now l.self.share.now) (c * 8)) l.initial.out l.out l.c
