-- `store_marks` meets its contract: the marks are made in their part.
use Rattle.std.proofs.Common.{ℕ, ◌+◌, ◌*◌, get_or, ap, ◌∙◌, arith}
use native.Mathlib.Nat.{add-sub_cancel_left}
use Rattle.lists.proofs.Rows.{part_length}
use Rattle.block_products.specs.Inner.Marks.{zero_marks}
use Rattle.block_products.proofs.Writing.{marks_step}
use Rattle.block_products.proofs.job.Part.store_marks.Goals as goal

pub returns : goal.returns
returns c =
    λ f sums base.
    let p = c.args.self in
    let j = p.job in
    let words = c.args.words.now in
    let count = part_length p.first p.count c.args.out.now (omega (arith, p.inside, c.requires.out_long)) in
    let made = c.mark_rows.ensures ∙ ap (λ (x : ℕ). zero_marks (j.w.bytes * j.m.outputs) x (λ i t. get_or words (i * 64 + t) 0)) count in
    rw (made, add-sub_cancel_left p.first p.count) (marks_step j.w.bytes j.m.outputs j.m.lanes p.first p.count f words sums p.inside j.w.some j.w.most base)
