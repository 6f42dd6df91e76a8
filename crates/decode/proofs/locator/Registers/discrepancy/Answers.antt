-- `discrepancy` meets its contract: the sum of the products of parts of two arrays.
use mathlib.Core.Path.{◌≡◌, ◌∙◌}
use lib.ListN.{length}
use Rattle.field.proofs.KindLaws.{usable_field}
use Rattle.decode.proofs.Discrepancies.{parts_ready, parts_sum}
use Rattle.decode.proofs.locator.Registers.discrepancy.Goals as goal

pub weighted_sum-requires : goal.weighted_sum-requires
weighted_sum-requires c =
    let a = c.args.self in
    let long : length a.s.now ≡ 255 = search in
    parts_ready _ (usable_field _ a.field.usable) a.s.now a.sequence a.w.now a.at_hand c.args.e c.args.m c.requires long

pub returns-clause-is : goal.returns-clause-is
returns-clause-is c =
    let a = c.args.self in
    let long : length a.s.now ≡ 255 = search in
    c.weighted_sum.ensures.is ∙ parts_sum _ (usable_field _ a.field.usable) a.s.now a.sequence a.w.now a.at_hand c.args.e c.args.m c.requires long
