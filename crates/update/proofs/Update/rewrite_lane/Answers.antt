-- `rewrite_lane` meets its contract: what is added is a symbol, and what the lane becomes by itself is put in its place among the shares.
use mathlib.Core.Path.{◌≡◌}
use mathlib.Core.Bool.{true}
use native.Mathlib.Omega.{arith}
use Rattle.lists.specs.Numbers.{all_below}
use Rattle.lists.proofs.Numbers.{at_below}
use Rattle.field.proofs.Bounds.{sub_below}
use Rattle.blocks.specs.Blocks.{updated}
use Rattle.update.proofs.Lane.{lane_inside, lane_word, lane_rewritten, lane_differs}
use Rattle.update.proofs.Update.rewrite_lane.Goals as goal
use Rattle.update.proofs.Update.rewrite_lane.Goals.{After-slice_known-1}

-- the shares are bytes
bytes : (c : After-slice_known-1) → all_below 256 c.args.shares.now ≡ true
bytes c = at_below 256 _ (λ i h. omega (arith, c.type_inv.shares i))

pub slice_bounds-lane-end : goal.slice_bounds-lane-end
slice_bounds-lane-end c = lane_inside c.requires.0 _ c.width_of-w.ensures

pub rewrite-requires : goal.rewrite-requires
rewrite-requires c =
    let (ready, old, new) = c.requires in
    (lane_word ready _ c.width_of-w.ensures, rw c.sub-x.ensures (sub_below _ ready.sound.field new old))

pub returns : goal.returns
unfolding updated
returns c =
    let wide = c.width_of-w.ensures in
    let (ready, old, new) = c.requires in
    let (added, counted) = rw c.sub-x.ensures at c.rewrite.ensures in
    let low = bytes (goal.at.returns c).After-slice_known-1 in
    rw (← wide) (lane_rewritten ready _ wide low _ _ _ added counted, lane_differs ready _ wide low _ _ _ added counted)
