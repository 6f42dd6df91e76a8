-- `Digits::pack` meets its contract.
use Prim.Native.Nat.{◌-◌, ◌*◌, ◌/◌, ◌%◌, ◌^◌}
use lib.ListN.{length, get_or}
use Rattle.lists.specs.Rows.{rows_from}
use Rattle.lists.proofs.Fill.{Fills}
use Rattle.repair.specs.Packing.{plane, planes}
use Rattle.repair.proofs.packing.Digits.pack.Given as goal

abbrev pub invariant-loop-e : goal.invariant-loop-e
invariant-loop-e l = Fills l.initial.out l.out (l.e * l.size) (rows_from (λ e. plane (length l.self.share.now) (λ i. get_or l.self.table.now (get_or l.self.share.now i 0) 0 / 2 ^ e % 2)) l.e (l.count - l.e)) (planes l.count (length l.self.share.now) (λ i. get_or l.self.table.now (get_or l.self.share.now i 0) 0))
