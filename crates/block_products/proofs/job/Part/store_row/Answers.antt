-- `store_row` meets its contract: symbols of one byte are their bytes.
use Rattle.std.proofs.Common.{◌≡◌, ℕ, ◌+◌, ◌*◌, ◌<◌, length, get_or, take, ◌∙◌, mul-one, arith, get_or-take}
use Rattle.lists.proofs.Rows.{get_or_from}
use Rattle.block_products.proofs.job.Part.store_row.Goals as goal

pub returns-then-w-eq1 : goal.returns-then-w-eq1
returns-then-w-eq1 c =
    let a = c.args in
    let one = c.if-w-eq1.true in
    let long : length a.out.now ≡ a.self.count = rw (one, mul-one) at c.requires.out_long in
    rw one
    (λ q v lane byte. let none : v ≡ 0 = omega arith in
    let from : 0 * 64 + q ≡ q = omega arith in
    let to : q * 1 + 0 ≡ q = omega arith in
    let place : (0 + q) * 1 + 0 ≡ q = omega arith in
    let inside : q < length a.out.now = omega arith in
    rw (none, from, to, c.pick_bytes.ensures) (rw place at (get_or_from {A = ℕ} (λ y. get_or (take a.self.count a.part.now) (y * 1 + 0) 0) 0 (length a.out.now) q 0 inside) ∙ get_or-take a.self.count a.part.now q 0 lane))
