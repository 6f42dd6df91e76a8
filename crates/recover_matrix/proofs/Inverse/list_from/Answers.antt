-- `list_from` meets its contract: each row with zeros after it is what is lent.
use Rattle.recover_matrix.proofs.Rows.{length_padded_row, padded_row_below, row_taken}
use Rattle.recover_matrix.proofs.Prepared.{few}
use Rattle.recover_matrix.proofs.Room.{less_room}
use Rattle.recover_matrix.specs.Inner.Inverse.{padded_row}
use Rattle.recover_matrix.proofs.Inverse.list_from.Goals as goal

pub prepare_all-requires-clause-few : goal.prepare_all-requires-clause-few
prepare_all-requires-clause-few c = (c.requires.3, few c.args.self.codec.code.sound)

pub prepare_all-requires-clause-room : goal.prepare_all-requires-clause-room
prepare_all-requires-clause-room c = let r = less_room c.requires.2 c.requires.4 in (r.0, r.1)

pub prepare_all-requires-clause-below : goal.prepare_all-requires-clause-below
prepare_all-requires-clause-below c =
    let v = c.args.self in
    let s = v.codec.code.sound in
    λ j r low is. rw (is, c.requires.1, row_taken s v.nodes.now v.different c.args.rows c.requires.2 c.requires.3 j) (padded_row_below s v.nodes.now v.different c.args.rows c.requires.2 j low)

pub returns : goal.returns
returns c =
    let v = c.args.self in
    let h = v.codec.code.header in
    let s = v.codec.code.sound in
    let rows = c.args.rows in
    rw c.requires.1 at (c.prepare_all.ensures (padded_row h v.nodes.now rows) (length_padded_row s v.nodes.now v.different rows c.requires.2) (λ j r low is. rw is (row_taken s v.nodes.now v.different rows c.requires.2 c.requires.3 j)))
