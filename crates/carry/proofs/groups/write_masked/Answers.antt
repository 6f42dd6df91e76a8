-- `write_masked` meets its contract. The loop's invariant: the bytes of the words below i are written.
use native.Mathlib.Nat.{add-sub_cancel_left}
use native.Mathlib.Omega.{arith}
use lib.ListN.{get_or}
use Rattle.lists.proofs.Fill.{fills_part, fills_all}
use Rattle.lists.proofs.Rows.{row_after}
use Rattle.layout.specs.Width.{symbol_bytes}
use Rattle.layout.proofs.Widths.{length_symbol}
use Rattle.symbols.proofs.Written.{bytes_next, bytes_none}
use Rattle.carrying.specs.Masks.{masked}
use Rattle.carrying.proofs.Carried.{length_masked, masked_at}
use Rattle.carry.proofs.groups.write_masked.Goals as goal

pub loop-i-preserved : goal.loop-i-preserved
loop-i-preserved c =
    let words = c.args.words.now in
    let ws = masked c.args.c words in
    let i = c.loop-i.i in
    let long = length_masked c.args.c words in
    let here = masked_at c.args.c words i c.loop-i-test.true in rw (row_after, add-sub_cancel_left, c.write_symbol.ensures, ← here)
    (fills_part (symbol_bytes 2 (get_or ws i 0)) 2
    (rw (bytes_next 2 ws i (omega arith)) at c.loop-i.invariant)
    (length_symbol 2 _)
    (omega arith))

pub returns : goal.returns
returns c =
    let ws = masked c.args.c c.args.words.now in
    let long = length_masked c.args.c c.args.words.now in
    fills_all (rw (bytes_none 2 ws c.loop-i.i (omega arith)) at c.loop-i.invariant) (omega arith)
