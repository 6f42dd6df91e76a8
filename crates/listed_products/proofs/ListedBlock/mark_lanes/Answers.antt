-- `mark_lanes` meets its contract: the lists fit the scratch of the size.
use native.Mathlib.Omega.{arith}
use Rattle.listed_products.proofs.First.{nodes_byte}
use Rattle.listed_products.proofs.Products.{others_room}
use Rattle.listed_products.proofs.ListedBlock.mark_lanes.Goals as goal

pub mark_in-requires : goal.mark_in-requires
mark_in-requires c =
    let b = c.args.self in
    (omega arith, omega arith, others_room b.code.sound b.listed 4 16 c.if-rows-le16.true (omega arith), c.requires)

pub mark_in-requires-then-rows-le64 : goal.mark_in-requires-then-rows-le64
mark_in-requires-then-rows-le64 c =
    let b = c.args.self in
    (omega arith, omega arith, others_room b.code.sound b.listed 16 64 c.if-rows-le64.true (omega arith), c.requires)

pub mark_in-requires-else-rows-le64 : goal.mark_in-requires-else-rows-le64
mark_in-requires-else-rows-le64 c =
    let b = c.args.self in
    (omega arith, omega arith, others_room b.code.sound b.listed 64 255 (nodes_byte b.code.sound b.listed) (omega arith), c.requires)
