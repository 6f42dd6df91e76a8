-- `fill_message` meets its contract: the lists and squares of so many nodes fit the scratch.
use native.Mathlib.Omega.{arith}
use Rattle.recover_matrix.proofs.Room.{square_room}
use Rattle.recover_matrix.proofs.Prepared.{few}
use Rattle.recover_matrix.proofs.Inverse.fill_message.Goals as goal

pub fill_in-requires : goal.fill_in-requires
fill_in-requires c =
    let r = square_room c.args.self.codec.code.header 4 16 c.if-k-le16.true (omega arith) in
    (omega arith, omega arith, omega arith, r.0, r.1, c.requires.0, c.requires.1, c.requires.2)

pub fill_in-requires-then-k-le64 : goal.fill_in-requires-then-k-le64
fill_in-requires-then-k-le64 c =
    let r = square_room c.args.self.codec.code.header 16 64 c.if-k-le64.true (omega arith) in
    (omega arith, omega arith, omega arith, r.0, r.1, c.requires.0, c.requires.1, c.requires.2)

pub fill_in-requires-else-k-le64 : goal.fill_in-requires-else-k-le64
fill_in-requires-else-k-le64 c =
    let r = square_room c.args.self.codec.code.header 64 255 (few c.args.self.codec.code.sound) (omega arith) in
    (omega arith, omega arith, omega arith, r.0, r.1, c.requires.0, c.requires.1, c.requires.2)
