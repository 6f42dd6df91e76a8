-- `set_wrong` meets its contract: the last lane is judged before the first byte is written.
use mathlib.Core.Path.{◌≡◌, refl, sym, ap, ◌∙◌}
use mathlib.Core.Bool.{true, false}
use native.Mathlib.Omega.{arith}
use Rattle.lists.specs.Padded.{zeros}
use Rattle.layout.specs.Layout.{share_layout}
use Rattle.layout.proofs.Places.{share_by_lane}
use Rattle.generator.proofs.Answered.{exit}
use Rattle.listed_products.proofs.First.{nodes_byte}
use Rattle.correct_listed.specs.Blocks.{far_listed_bad}
use Rattle.correct_listed.proofs.Answers.{listed_refuses, listed_done}
use Rattle.correct_listed.proofs.SetLanes.{wrong_sum, wrong_end}
use Rattle.correct_listed.proofs.set_wrong.Goals as goal

pub invariant_of-marked : goal.invariant_of-marked
invariant_of-marked c =
    let b = c.args.block in
    record { listed = rw c.new-rows.ensures b.listed; symbols = rw c.new-rows.ensures b.symbols; agree = rw c.new-rows.ensures c.requires.0 }

pub fill-requires : goal.fill-requires
fill-requires c = rw (c.requires.1, c.requires.2) (c.args.block.symbols, c.requires.3)

pub set_lanes-requires : goal.set_lanes-requires
unfolding zeros
set_lanes-requires c =
    rw c.new-rows.ensures
    (rw c.new-rows.ensures at (sym c.has_far.ensures ∙ c.in_ok-when.ensures), c.requires.1, c.requires.2, rw (c.requires.1, c.requires.2) at c.fill.ensures, c.fill-2.ensures.after (λ y e. e) ∙ ap zeros c.requires.4)

pub total-requires : goal.total-requires
total-requires c =
    let b = c.args.block in
    let h = b.code.header in
    rw (c.set_lanes.ensures.1, c.new-rows.ensures, ← wrong_end h b.nodes.now b.lanes b.shares.now b.lanes refl) (wrong_sum h b.nodes.now b.lanes b.shares.now b.lanes b.symbols.few_lanes (nodes_byte b.code.sound b.listed))

pub returns : goal.returns
returns c =
    let b = c.args.block in
    let h = b.code.header in
    let near : far_listed_bad share_layout h b.nodes.now b.lanes b.shares.now ≡ false = rw share_by_lane (rw c.new-rows.ensures at (sym c.has_far.ensures ∙ c.in_ok-when.ensures)) in
    let set = rw c.new-rows.ensures at c.set_lanes.ensures in
    rw near (listed_done h b.lanes b.nodes.now b.shares.now set.0 set.1 c.total.ensures)

pub returns-in_err-when : goal.returns-in_err-when
returns-in_err-when c =
    let b = c.args.block in
    let h = b.code.header in
    let far : far_listed_bad share_layout h b.nodes.now b.lanes b.shares.now ≡ true = rw share_by_lane (rw c.new-rows.ensures at (sym c.has_far.ensures ∙ c.in_err-when.ensures.0)) in
    rw (exit _ c.from_residual.ensures.1, c.in_err-when.ensures.1, far) (listed_refuses h b.lanes b.nodes.now b.shares.now share_layout _ _ 14 (λ e. omega arith))
