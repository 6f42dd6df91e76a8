-- `list_rows` meets its contract. The loop's invariant: the rows below i whose weight has the digit are listed.
use native.Mathlib.Omega.{arith}
use Rattle.row_sums.proofs.Listing.{listed_none, listed_row, listed_all}
use Rattle.row_sums.proofs.gf256.Digit.list_rows.Goals as goal

pub loop-i-init : goal.loop-i-init
loop-i-init c = (omega arith, listed_none _ _ _ c.args.list.now)

pub loop-i-preserved : goal.loop-i-preserved
loop-i-preserved c =
    let l = c.loop-i in
    (omega arith, rw c.of.ensures.value (listed_row _ _ _ l.list l.count l.i (omega arith) (omega arith) l.invariant.1))

pub returns : goal.returns
returns c = let l = c.loop-i in (omega arith, listed_all _ _ _ l.list l.count l.i (omega arith) l.invariant.1)
