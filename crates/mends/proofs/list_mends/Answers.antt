-- `list_mends` meets its contract: a word has no entry, and the list of another lane comes from its check sums.
use mathlib.Core.Path.{◌≡◌, sym, ap, ◌∙◌}
use lib.ListN.{take}
use Rattle.lists.specs.Numbers.{all_below}
use Rattle.lists.proofs.Padding.{take_padded}
use Rattle.generator.specs.Codewords.{is_word}
use Rattle.check_sums.specs.Inner.Sums.{check_sums}
use Rattle.check_sums.proofs.OneLane.{word_sums, length_sums}
use Rattle.refusals.specs.Accepted.{IsLane}
use Rattle.mends.proofs.BySums.{has_sums, nodes_are, symbols_are}
use Rattle.mends.proofs.Front.{word_lists}
use Rattle.mends.proofs.list_mends.Goals as goal
use Rattle.mends.proofs.list_mends.Goals.{After-all_zero, After-sums-sums}

-- the check sums
part : (c : After-sums-sums)
    → let a = c.args in
    take c.checks-checks.result c.sums-sums.result ≡ check_sums a.lane.rows.code.header a.lane.symbols.now
part c = rw (c.sums-sums.ensures, c.checks-checks.ensures) (take_padded 255 _ _ (length_sums _ _))

-- they tell a word
tested : (c : After-all_zero) → let a = c.args in c.all_zero.result ≡ is_word a.lane.rows.code.header a.lane.symbols.now
tested c = c.all_zero.ensures ∙ ap (all_below 1) (part (goal.at.After-all_zero c).After-sums-sums) ∙ word_sums _ _

pub returns-then-all_zero : goal.returns-then-all_zero
returns-then-all_zero c = word_lists _ _ (sym (tested (goal.at.returns-then-all_zero c).After-all_zero) ∙ c.if-all_zero.true) _ _

pub list-requires : goal.list-requires
list-requires c =
    let sound = c.args.lane.rows.code.sound in
    let lane : IsLane c.args.lane.rows.code.header c.args.lane.symbols.now = record { long = c.args.lane.long; symbols = c.args.lane.below } in
    let other = sym (tested (goal.at.list-requires c).After-all_zero) ∙ c.if-all_zero.false in
    (rw (part (goal.at.list-requires c).After-sums-sums) (has_sums _ _ sound lane other), c.requires.0, c.requires.1)

pub returns : goal.returns
returns c =
    let sound = c.args.lane.rows.code.sound in
    let lane : IsLane c.args.lane.rows.code.header c.args.lane.symbols.now = record { long = c.args.lane.long; symbols = c.args.lane.below } in
    let other = sym (tested (goal.at.returns c).After-all_zero) ∙ c.if-all_zero.false in
    rw (nodes_are _ _ sound lane other, symbols_are _ _ sound lane other) (rw (part (goal.at.returns c).After-sums-sums) at c.list.ensures)
