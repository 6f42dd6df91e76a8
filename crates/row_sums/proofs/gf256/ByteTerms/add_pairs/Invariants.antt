-- `add_pairs` meets its contract. The loop's invariant: with the rows listed after some pairs acc makes the sum.
use mathlib.Core.Path.{◌≡◌}
use Prim.Native.Nat.{◌*◌}
use lib.ListN.{drop}
use Rattle.row_sums.specs.Inner.Digits.{rows_added}
use Rattle.row_sums.proofs.gf256.ByteTerms.add_pairs.Given as goal

abbrev pub invariant-loop-one : goal.invariant-loop-one
invariant-loop-one l =
    let t = l.self.terms in rows_added t.lanes t.rows.now (drop (l.one-index * 2) l.fn.list) l.acc ≡ rows_added t.lanes t.rows.now l.fn.list l.initial.acc
