-- `mark_lanes` meets its contract: the lists fit the scratch of the size.
use mathlib.Core.Path.{◌≡◌, ap, ◌∙◌}
use native.Mathlib.Omega.{arith}
use lib.ListN.{length}
use Rattle.lists.proofs.Fill.{length_zeros}
use Rattle.wrong_lanes.proofs.Checks.{check_room}
use Rattle.wrong_lanes.proofs.Block.mark_lanes.Goals as goal
use Rattle.wrong_lanes.proofs.Block.mark_lanes.Goals.{Start}

-- a mark for each lane
marks-long : (c : Start) → length c.args.marks.now ≡ c.args.self.lanes
marks-long c = ap length c.requires ∙ length_zeros c.args.self.lanes

pub mark_lane-requires : goal.mark_lane-requires
mark_lane-requires c =
    let one = c.if-self-eq1.true in
    (one, marks-long (goal.at.mark_lane-requires c).Start ∙ one)

pub mark_in-requires : goal.mark_in-requires
mark_in-requires c =
    (omega arith, omega arith, check_room c.args.self.code.header 4 16 c.if-n-le16.true (omega arith), marks-long (goal.at.mark_in-requires c).Start)

pub mark_in-requires-then-n-le64 : goal.mark_in-requires-then-n-le64
mark_in-requires-then-n-le64 c =
    (omega arith, omega arith, check_room c.args.self.code.header 16 64 c.if-n-le64.true (omega arith), marks-long (goal.at.mark_in-requires-then-n-le64 c).Start)

pub mark_in-requires-else-n-le64 : goal.mark_in-requires-else-n-le64
mark_in-requires-else-n-le64 c =
    let h = c.args.self.code.header in
    (omega arith, omega arith, check_room h 64 255 c.args.self.code.sound.byte (omega arith), marks-long (goal.at.mark_in-requires-else-n-le64 c).Start)
