-- `fill_differences` meets its contract: the difference of both rows is made once, and multiplied for each node.
use mathlib.Core.Path.{sym, ap, ◌∙◌}
use mathlib.Core.List.{List}
use Prim.Native.Nat.{ℕ}
use native.Mathlib.Omega.{arith}
use lib.Seq.{length-take-le}
use Rattle.lists.specs.Rows.{rows_from}
use Rattle.differences.specs.Inner.Rows.{row_tile}
use Rattle.differences.specs.Inner.Changes.{change_rows, told}
use Rattle.differences.proofs.Tiles.{row_bytes_long, row_few, less_times}
use Rattle.differences.proofs.change.Change.fill_differences.Goals as goal

pub slice_bounds-row-end-2 : goal.slice_bounds-row-end-2
slice_bounds-row-end-2 c = sym (length-take-le _ _ (omega (arith, row_few c.args.self.new_row)))

pub slice_bounds-tile-end-2 : goal.slice_bounds-tile-end-2
slice_bounds-tile-end-2 c = sym (length-take-le _ _ (omega (arith, row_few c.args.self.new_row)))

pub subtract-requires : goal.subtract-requires
subtract-requires c = let change = c.args.self in rw c.rows-rows.ensures (change.new_row, change.old_row, length-take-le _ _ (omega (arith, row_few change.new_row)) ∙ row_bytes_long change.new_row)

pub returns : goal.returns
returns c =
    let change = c.args.self in
    let rows = change_rows change in
    c.fill_nodes.ensures
    ∙ ap (λ (v : List ℕ). rows_from (told rows change.symbol v) 0 rows.code.header.n) (rw c.rows-rows.ensures at (c.load.ensures ∙ ap (row_tile c.rows-rows.result.width c.rows-rows.result.lanes) c.subtract.ensures))
    ∙ less_times change.new_row change.old_row change.symbol
