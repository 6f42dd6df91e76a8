-- `outputs` meets its contract. The loop's invariant: the outputs below j are in their rows.
use Rattle.std.proofs.Common.{◌≡◌, ℕ, ◌+◌, ◌*◌, ◌≤◌, length, sym, ap, ◌∙◌, mul_assoc, arith}
use native.Mathlib.Nat.{add-sub_cancel_left}
use Rattle.lists.proofs.Rows.{part_length, row_inside, row_after}
use Rattle.field.specs.Kinds.{modulus}
use Rattle.field.specs.Widths.{bytes_for}
use Rattle.field.proofs.Widths.{bytes_range}
use Rattle.tiles.proofs.Gathered.{tile_more}
use Rattle.tile_products.proofs.Beginning.{part_made}
use Rattle.tile_products.proofs.Lanes.{output_row}
use Rattle.tile_products.proofs.loaded.LoadedTile.outputs.Goals as goal
use Rattle.tile_products.proofs.loaded.LoadedTile.outputs.Goals.{In-loop-j}

-- and among the rows
rows_fit : (c : In-loop-j) → c.loop-j.j * (c.width-row.result * 64) + c.width-row.result * 64 ≤ length c.loop-j.out
rows_fit c =
    let m = c.args.self.matrix.shape in
    rw c.width-row.ensures (omega (arith, c.loop-j.auto.out, c.requires, row_inside m.outputs c.loop-j.j (bytes_for (modulus m.field) * 64) c.loop-j-test.true))

pub overflow_mul-row : goal.overflow_mul-row
overflow_mul-row c = omega (arith, c.width-row.ensures, (bytes_range (modulus c.args.self.matrix.shape.field)).1)

pub output-requires : goal.output-requires
output-requires c =
    let l = c.loop-j in
    record {
      made = rw c.groups_of-size.ensures.value (part_made c.args.self.matrix.made l.j c.loop-j-test.true);
      out_long = part_length (l.j * (c.width-row.result * 64)) (c.width-row.result * 64) l.out (rows_fit (goal.at.output-requires c).In-loop-j) ∙ ap (λ (x : ℕ). x * 64) c.width-row.ensures;
    }

pub loop-j-preserved : goal.loop-j-preserved
loop-j-preserved c =
    let s = c.args.self in
    let m = s.matrix.shape in
    let l = c.loop-j in
    let low = c.loop-j-test.true in
    let b = bytes_for (modulus m.field) in
    let wide = c.width-row.ensures in
    let at : l.j * (b * 64) ≡ l.j * b * 64 = sym (mul_assoc l.j b 64) in
    let within = rows_fit (goal.at.loop-j-preserved c).In-loop-j in
    let room : l.j * b * 64 + b * 64 ≤ length l.out = rw (← at) (rw wide at within) in
    let after = c.output.new.out in
    let from = l.j * (c.width-row.result * 64) in
    let size : length after ≡ b * 64 = omega (arith, wide, part_length from (c.width-row.result * 64) l.out within) in
    λ w begun.
    let made = c.output.ensures (w l.j) (begun.size l.j) (rw c.groups_of-size.ensures.value (begun.each l.j low)) in
    rw (wide, at, add-sub_cancel_left (l.j * b * 64) (b * 64), row_after l.j b)
    (tile_more (b * m.outputs) (l.j * b) b 64 _ l.out after (b * 64) size room (omega arith) (l.invariant w begun) (output_row (modulus m.field) m.rows m.outputs w s.tile.now l.j low made))
