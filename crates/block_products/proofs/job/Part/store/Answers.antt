-- `store` meets its contract: each way has its own place.
use Rattle.std.proofs.Common.{◌*◌, ◌≤◌, length, arith}
use Rattle.block_products.specs.Inner.Ways.{out_bytes, Done}
use Rattle.block_products.proofs.Lanes.{rows_inside}
use Rattle.block_products.proofs.job.Part.store.Goals as goal
use Rattle.block_products.proofs.job.Part.store.Goals.{Start}

room : (c : Start) → let j = c.args.self.job in j.w.bytes * j.m.outputs * 64 ≤ length c.args.words.now
room c = let j = c.args.self.job in omega (arith, rows_inside j.w.bytes j.m.outputs, c.requires.words_long)

pub store_lanes-requires : goal.store_lanes-requires
unfolding out_bytes
store_lanes-requires c = record { words_long = c.requires.words_long; blocks_long = c.requires.blocks_long; out_long = rw c.in-RowsToLanes.is at c.requires.out_long }

pub store_rows-requires : goal.store_rows-requires
unfolding out_bytes
store_rows-requires c = record { words_long = room (goal.at.store_rows-requires c).Start; out_long = rw c.in-LanesToRows.is at c.requires.out_long }

pub store_marks-requires : goal.store_marks-requires
unfolding out_bytes
store_marks-requires c = record { words_long = room (goal.at.store_marks-requires c).Start; out_long = rw c.in-LanesToMarks.is at c.requires.out_long }

pub returns-in-RowsToLanes : goal.returns-in-RowsToLanes
unfolding Done
returns-in-RowsToLanes c = rw c.in-RowsToLanes.is c.store_lanes.ensures

pub returns-in-LanesToRows : goal.returns-in-LanesToRows
unfolding Done
returns-in-LanesToRows c = rw c.in-LanesToRows.is c.store_rows.ensures

pub returns-in-LanesToMarks : goal.returns-in-LanesToMarks
unfolding Done
returns-in-LanesToMarks c = rw c.in-LanesToMarks.is c.store_marks.ensures
