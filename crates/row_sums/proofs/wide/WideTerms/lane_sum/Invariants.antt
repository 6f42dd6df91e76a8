-- `lane_sum` meets its contract. The loop's invariant: sum, with the sum over the rows from i on, is that over all.
use mathlib.Core.Path.{◌≡◌}
use Prim.Native.Nat.{◌+◌, ◌*◌, ◌≤◌}
use lib.ListN.{length}
use Rattle.row_sums.proofs.WideSums.{whole_at, rest_at}
use Rattle.row_sums.proofs.wide.WideTerms.lane_sum.Given as goal

abbrev pub invariant-loop-i : goal.invariant-loop-i
invariant-loop-i l =
    let t = l.terms in (l.sum ≤ l.i * 4294967295) × (l.sum + rest_at (length t.weights.now) t.lanes t.weights.now t.rows.now l.i l.t ≡ whole_at (length t.weights.now) t.lanes t.weights.now t.rows.now l.t)
