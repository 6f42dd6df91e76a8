-- `mark_rows` meets its contract: marks of 0 are the start, and each row adds its own.
use Rattle.std.proofs.Common.{◌+◌, ◌*◌, length, get_or, ap, ◌∙◌, arith, rules}
use Rattle.lists.specs.Padded.{zeros}
use Rattle.kernel.specs.Inner.Lanes.{lanewise}
use Rattle.block_products.proofs.Marks.{zero_none, zero_more}
use Rattle.block_products.proofs.MarkedRows.{marking_byte, marking_next}
use Rattle.block_products.proofs.marking.mark_rows.Goals as goal

pub loop-row-init : goal.loop-row-init
unfolding zeros
loop-row-init c =
    let same = c.into_iter-row-iterator.ensures.into_iter_gives in (
      search rules,
      tt,
      rw same c.chunks-row-items.ensures.size,
      record { i = 0; few = omega arith; left = rw same c.chunks-row-items.ensures.rest; marked = c.fill.ensures.after (λ y same. same) ∙ zero_none _ _ },
    )

pub loop-row-preserved : goal.loop-row-preserved
loop-row-preserved c =
    let g = c.loop-row.invariant.3 in
    let steps = c.in-Some.ensures.steps in
    let size = rw c.loop-row.invariant.2 at steps.1.1 in
    let next = marking_next c.requires.words_long g _ _ steps.1.0 size steps.1.2 in
    let byte = marking_byte c.requires.words_long g _ _ steps.1.0 size steps.1.2 in (
      search rules,
      tt,
      steps.0 ∙ c.loop-row.invariant.2,
      next _
          (c.add_marks.ensures
          ∙ ap (lanewise _) g.marked
          ∙ zero_more (length c.args.marks.now) (λ i t. get_or c.args.words.now (i * 64 + t) 0) g.i c.in-Some.row.now (λ t lane. byte t (omega (arith, c.requires.few)))),
    )
