-- `fill_share` meets its contract. The loop's invariant: the sums of the lanes below `first` are written.
use mathlib.Core.Path.{◌≡◌}
use Prim.Native.Nat.{◌-◌, ◌*◌, ◌≤◌}
use lib.ListN.{length, drop}
use Rattle.lists.proofs.Fill.{Fills}
use Rattle.recover.specs.Inner.OneRow.{sum_bytes}
use Rattle.recover.proofs.shares.Weighted.fill_share.Given as goal

abbrev pub invariant-loop-first : goal.invariant-loop-first
invariant-loop-first l =
    let v = l.self in
    let whole = sum_bytes v.code.header v.width.bytes v.lanes v.weights.now v.shares.now in
    (l.first ≤ v.lanes) × (length l.tile ≡ length l.initial.tile) × Fills l.initial.out l.out (l.first * v.width.bytes) (drop (l.first * v.width.bytes) whole) whole

abbrev pub decreases-loop-first : goal.decreases-loop-first
decreases-loop-first l = l.self.lanes - l.first
