-- `fill_lanes` meets its contract: the lists of so many nodes fit the scratch.
use native.Mathlib.Omega.{arith}
use Rattle.encode.specs.Inner.Encoded.{record_header}
use Rattle.encode.proofs.Words.{list_room}
use Rattle.encode.proofs.message.Message.fill_lanes.Goals as goal

pub fill_in-requires : goal.fill_in-requires
fill_in-requires c =
    let m = c.args.self in
    (omega arith, omega arith, list_room (record_header m) 4 16 m.generator.now.planned.sound c.if-n-le16.true (omega arith), c.requires)

pub fill_in-requires-then-n-le64 : goal.fill_in-requires-then-n-le64
fill_in-requires-then-n-le64 c =
    let m = c.args.self in
    (omega arith, omega arith, list_room (record_header m) 16 64 m.generator.now.planned.sound c.if-n-le64.true (omega arith), c.requires)

pub fill_in-requires-else-n-le64 : goal.fill_in-requires-else-n-le64
fill_in-requires-else-n-le64 c =
    let sound = c.args.self.generator.now.planned.sound in
    (omega arith, omega arith, list_room _ 64 255 sound sound.byte (omega arith), c.requires)
