-- `fill_nodes` meets its contract. The loop's invariant: the rows of the nodes below `node` are written, and the others are to come.
use mathlib.Core.Path.{◌≡◌, sym, ap, ◌∙◌}
use Prim.Native.Nat.{ℕ, ◌+◌, ◌*◌, ◌≤◌}
use native.Mathlib.Nat.{mul-one, mul-le-mul, le_refl, add-sub_cancel_left}
use native.Mathlib.Omega.{arith}
use lib.ListN.{length}
use Rattle.lists.proofs.Rows.{rows_next, rows_end, row_after, row_inside, part_length}
use Rattle.lists.proofs.Fill.{fills_part, fills_all}
use Rattle.layout.specs.Inner.Tiles.{tile_symbols}
use Rattle.generator.specs.Generator.{entry}
use Rattle.generator.proofs.Bounds.{entry_below}
use Rattle.differences.specs.Inner.Changes.{change_rows, told}
use Rattle.differences.proofs.Tiles.{length_times}
use Rattle.differences.proofs.change.Change.fill_nodes.Goals as goal
use Rattle.differences.proofs.change.Change.fill_nodes.Goals.{In-loop-node, Start}

-- a node's row
row-size : (start : Start) → let rows = change_rows start.args.self in length start.args.tile.now ≡ rows.width * rows.lanes
row-size start = let rows = change_rows start.args.self in start.requires.0.bytes ∙ ap (λ (x : ℕ). x * rows.lanes) (mul-one rows.width)

room : (start : Start) → length start.args.out.now ≡ (change_rows start.args.self).code.header.n * length start.args.tile.now
room start = start.requires.1 ∙ ap (λ (x : ℕ). (change_rows start.args.self).code.header.n * x) (sym (row-size start))

-- a row lies within the buffer
row_in : (c : In-loop-node) → let size = length c.args.tile.now in c.loop-node.node * size + size ≤ length c.args.out.now
row_in c =
    rw (room (goal.at.In-loop-node c).Start) (row_inside (change_rows c.args.self).code.header.n c.loop-node.node (length c.args.tile.now) c.loop-node-test.true)

pub multiply-requires : goal.multiply-requires
multiply-requires c =
    let now = c.loop-node in
    let size = length c.args.tile.now in
    rw c.rows-rows.ensures
    (c.requires.0, rw c.entry-weight.ensures (entry_below _ c.requires.0.symbol_rows.sound _ _), part_length (now.node * size) size now.out (omega (arith, now.invariant.long, row_in (goal.at.multiply-requires c).In-loop-node)) ∙ row-size (goal.at.multiply-requires c).Start)

pub loop-node-preserved : goal.loop-node-preserved
loop-node-preserved c =
    let change = c.args.self in
    let rows = change_rows change in
    let tile = c.args.tile.now in
    let now = c.loop-node in
    rw (row_after, add-sub_cancel_left, c.multiply.ensures, c.entry-weight.ensures, c.rows-rows.ensures)
    (fills_part (told rows change.symbol tile now.node) (length tile)
    (rw (rows_next _ _ _ c.loop-node-test.true) at now.invariant)
    (length_times rows.code.header rows.width rows.lanes (tile_symbols rows.width 1 rows.lanes tile) (entry rows.code.header change.symbol now.node) ∙ sym (row-size (goal.at.loop-node-preserved c).Start))
    (row_in (goal.at.loop-node-preserved c).In-loop-node))

pub returns : goal.returns
returns c =
    fills_all (rw (rows_end _ _ _ c.loop-node-test.false) at c.loop-node.invariant)
    (rw (room (goal.at.returns c).Start) (mul-le-mul c.loop-node-test.false (le_refl _)))
