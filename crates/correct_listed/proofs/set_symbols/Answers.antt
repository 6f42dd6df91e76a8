-- `set_symbols` meets its contract: the lists fit the scratch of the size.
use Prim.Native.Nat.{ℕ}
use native.Mathlib.Omega.{arith}
use lib.ListN.{length-replicate}
use lib.Seq.{length-take-le}
use Rattle.listed_products.proofs.First.{nodes_byte}
use Rattle.correct_listed.proofs.Room.{listed_room}
use Rattle.correct_listed.proofs.set_symbols.Goals as goal

pub mark_lanes-requires : goal.mark_lanes-requires
mark_lanes-requires c = length-take-le c.args.block.lanes _ (omega (arith, length-replicate {A = ℕ} 4096 0, c.args.block.symbols.few_lanes))

pub set_in-requires : goal.set_in-requires
set_in-requires c =
    let r = listed_room c.args.block.listed 4 16 c.if-rows-le16.true (omega arith) in
    (omega arith, omega arith, omega arith, r.0, r.1, c.mark_lanes.ensures, c.requires.0, c.requires.1)

pub set_in-requires-then-rows-le64 : goal.set_in-requires-then-rows-le64
set_in-requires-then-rows-le64 c =
    let r = listed_room c.args.block.listed 16 64 c.if-rows-le64.true (omega arith) in
    (omega arith, omega arith, omega arith, r.0, r.1, c.mark_lanes.ensures, c.requires.0, c.requires.1)

pub set_in-requires-else-rows-le64 : goal.set_in-requires-else-rows-le64
set_in-requires-else-rows-le64 c =
    let b = c.args.block in
    let r = listed_room b.listed 64 255 (nodes_byte b.code.sound b.listed) (omega arith) in
    (omega arith, omega arith, omega arith, r.0, r.1, c.mark_lanes.ensures, c.requires.0, c.requires.1)
