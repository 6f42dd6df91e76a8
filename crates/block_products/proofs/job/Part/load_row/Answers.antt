-- `load_row` meets its contract: one row of bytes more.
use Rattle.std.proofs.Common.{◌≡◌, ℕ, ◌+◌, ◌*◌, ◌<◌, ◌≤◌, List, length, get_or, ap, ◌∙◌, zero-add, arith}
use Rattle.lists.specs.Rows.{from}
use native.Mathlib.Nat.{add-sub_cancel_left}
use Rattle.lists.proofs.Rows.{part_length, row_inside, length_from, get_or_from}
use Rattle.tiles.proofs.Gathered.{tile_more}
use Rattle.block_products.proofs.job.Part.load_row.Goals as goal
use Rattle.block_products.proofs.job.Part.load_row.Goals.{In-loop-v}

-- the row lies among the rows
row_in : (c : In-loop-v) → c.loop-v.v * 64 + c.args.self.count ≤ length c.loop-v.rows
row_in c = omega (arith, c.loop-v.auto.rows, c.args.self.few, c.requires.rows_long, row_inside c.args.self.job.w.bytes c.loop-v.v 64 c.loop-v-test.true)

-- what it holds
held : (w count v : ℕ) (part : List ℕ) (i t : ℕ) → i < 1 → v + i < w → t < count → (i * 64 + t < count) × (get_or (from (λ q. get_or part (q * w + v) 0) 0 count) (i * 64 + t) 0 ≡ get_or part (t * w + (v + i)) 0)
held w count v part i t one row lane =
    let none : i ≡ 0 = omega arith in
    let start : 0 * 64 + t ≡ t = omega arith in
    let same : v + 0 ≡ v = omega arith in
    rw (none, start, same) (lane, rw zero-add at (get_or_from (λ q. get_or part (q * w + v) 0) 0 count t 0 lane))

pub loop-v-preserved : goal.loop-v-preserved
loop-v-preserved c =
    let a = c.args in
    let l = c.loop-v in
    let fits = row_in (goal.at.loop-v-preserved c).In-loop-v in
    let xs = from (λ q. get_or a.part.now (q * a.self.job.w.bytes + l.v) 0) 0 a.self.count in
    let made = c.copy_bytes.ensures ∙ ap (from (λ q. get_or a.part.now (q * a.self.job.w.bytes + l.v) 0) 0) (part_length (l.v * 64) a.self.count l.rows fits) in
    rw (made, add-sub_cancel_left (l.v * 64) a.self.count) (tile_more a.self.job.w.bytes l.v 1 a.self.count _ l.rows xs a.self.count (length_from _ 0 a.self.count) fits c.args.self.few l.invariant (held a.self.job.w.bytes a.self.count l.v a.part.now))
