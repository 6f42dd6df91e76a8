-- `scatter_short` meets its contract: the scratch begins with the lanes.
use Rattle.std.proofs.Common.{◌*◌, ◌≤◌, ◌+◌, ◌∙◌, mul-le-mul, length, take, length-take-le, get_or-take, arith}
use Rattle.lists.proofs.Rows.{row_inside}
use Rattle.tiles.proofs.Blocks.{turned_out}
use Rattle.tiles.proofs.scattering.scatter_short.Goals as goal
use Rattle.tiles.proofs.scattering.scatter_short.Goals.{Start}

-- the lanes are few bytes
few : (c : Start) → c.args.count * c.args.n ≤ 64 * 15
few c = let low : c.args.n ≤ 15 = omega (arith, c.requires.0) in mul-le-mul c.requires.2 low

pub returns : goal.returns
returns c =
    let a = c.args in
    let size = a.count * a.n in
    let block = c.turn_all.new.out in
    let inside : size ≤ length block = omega (arith, few (goal.at.returns c).Start, c.turn_all.ensures.long, c.requires.4) in
    c.copy.ensures
    ∙ turned_out a.n a.count a.tile.now (take size block) (length-take-le size block inside)
    (λ t i lane row. get_or-take size block (t * a.n + i) 0 (omega (arith, row_inside a.count t a.n lane)) ∙ c.turn_all.ensures.holds t i lane (omega (arith, c.requires.0)) row)
