-- `fill_sums` meets its contract: the rows of powers times the lane's symbols.
use mathlib.Core.Path.{◌∙◌}
use Rattle.check_sums.proofs.OneLane.{combined_sums, lane_ready}
use Rattle.check_sums.proofs.lane.Lane.fill_sums.Goals as goal

pub combine_symbols-requires : goal.combine_symbols-requires
combine_symbols-requires c =
    let l = c.args.self in
    let p = l.rows in
    rw (p.made, l.long, c.checks-checks.ensures) (lane_ready p.code.header p.code.sound _ l.long l.below _ c.requires)

pub returns : goal.returns
returns c =
    let l = c.args.self in
    let p = l.rows in
    c.combine_symbols.ensures ∙ rw (p.made, l.long, c.checks-checks.ensures) (combined_sums p.code.header p.code.sound _ l.long l.below)
