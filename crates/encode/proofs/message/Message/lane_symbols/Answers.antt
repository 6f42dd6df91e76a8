-- `lane_symbols` meets its contract. The loop's invariant: the symbols of the rows below r are read.
use mathlib.Core.Path.{sym, ◌∙◌}
use Prim.Native.Nat.{◌+◌, ◌*◌, ◌/◌, ◌<◌}
use native.Mathlib.Omega.{arith}
use lib.ListN.{length}
use Rattle.lists.proofs.Fill.{filled_put}
use Rattle.lists.proofs.Rows.{row_inside}
use Rattle.layout.proofs.Places.{held_by_row}
use Rattle.layout.proofs.Tiles.{many_symbols}
use Rattle.layout.proofs.Widths.{get_or_symbols}
use Rattle.encode.specs.Inner.Encoded.{record_header, message_symbols}
use Rattle.encode.proofs.message.Message.lane_symbols.Goals as goal
use Rattle.encode.proofs.message.Message.lane_symbols.Goals.{In-loop-r}

-- the symbol that is read is one of the message
inside : (c : In-loop-r) → let m = c.args.self in c.loop-r.r * m.lanes + c.args.t < length m.bytes.now / m.width.bytes
inside c =
    let m = c.args.self in
    let h = record_header m in
    rw (many_symbols m.width.bytes h.k m.lanes m.bytes.now m.width.some m.rows.bytes) (omega (arith, row_inside h.k c.loop-r.r m.lanes c.loop-r-test.true, c.requires))

pub symbol_at-requires : goal.symbol_at-requires
symbol_at-requires c = inside (goal.at.symbol_at-requires c).In-loop-r

pub loop-r-preserved : goal.loop-r-preserved
loop-r-preserved c =
    let m = c.args.self in
    let r = c.loop-r.r in
    filled_put c.loop-r.invariant c.loop-r-test.true
    (c.symbol_at.ensures ∙ sym (get_or_symbols m.width.bytes m.bytes.now (r * m.lanes + c.args.t) (inside (goal.at.loop-r-preserved c).In-loop-r)) ∙ sym (held_by_row (record_header m).k m.lanes (message_symbols m) r c.args.t))
