-- `gf256::combine` meets its contract. The loop's invariant: acc holds the sums with the weights without their first `place` digits.
use mathlib.Core.Path.{◌≡◌}
use lib.ListN.{length}
use Rattle.row_sums.proofs.Turns.{sums_of}
use Rattle.row_sums.proofs.gf256.ByteTerms.combine.Given as goal

abbrev pub invariant-loop-place : goal.invariant-loop-place
invariant-loop-place l = let t = l.self.terms in l.acc ≡ sums_of (length t.weights.now) t.lanes t.weights.now t.rows.now l.place
