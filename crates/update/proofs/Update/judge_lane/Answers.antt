-- `judge_lane` meets its contract: the lane is a part of the shares.
use Rattle.update.proofs.Lane.{lane_inside, lane_word, lane_is}
use Rattle.update.proofs.Update.judge_lane.Goals as goal

pub slice_bounds-lane-end : goal.slice_bounds-lane-end
slice_bounds-lane-end c = lane_inside c.requires _ c.width_of-w.ensures

pub judge-requires : goal.judge-requires
judge-requires c = lane_word c.requires _ c.width_of-w.ensures

pub returns : goal.returns
returns c =
    let wide = c.width_of-w.ensures in
    rw (lane_is c.requires _ wide, wide) at c.judge.ensures
