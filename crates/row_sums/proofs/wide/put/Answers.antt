-- `wide::put` meets its contract. The loop's invariant: the symbols from t on make of acc what all make of it.
use mathlib.Core.Path.{◌≡◌}
use Prim.Native.Nat.{◌/◌, ◌%◌, ◌<◌}
use native.Mathlib.Nat.{add_assoc}
use native.Mathlib.Omega.{arith}
use lib.ListN.{length, get_or, drop_of_length-le}
use Rattle.lists.proofs.Front.{drop_next}
use Rattle.row_sums.specs.Inner.WideSums.{pairs_put}
use Rattle.row_sums.proofs.wide.put.Goals as goal

pub loop-t-preserved : goal.loop-t-preserved
unfolding pairs_put
loop-t-preserved c =
    let a = c.args in
    let l = c.loop-t in
    let inside : l.t < length a.symbols.now = omega arith in
    let high : get_or a.symbols.now l.t 0 / 256 % 256 ≡ get_or a.symbols.now l.t 0 / 256 = omega (arith, c.type_inv.symbols l.t) in
    rw (c.to_be_bytes.ensures, high, ← add_assoc a.at l.t 1) (rw (drop_next a.symbols.now l.t 0 inside) at l.invariant)

pub returns : goal.returns
unfolding pairs_put
returns c = rw (drop_of_length-le c.args.symbols.now {i = c.loop-t.t} (omega arith)) at c.loop-t.invariant
