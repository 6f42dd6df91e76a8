-- `sums_from` meets its contract. Invariant: the first e sums are written.
use mathlib.Core.Path.{◌≡◌, ap, ◌∙◌}
use native.Mathlib.Omega.{arith}
use lib.ListN.{length, length-drop}
use Rattle.lists.proofs.Fill.{filled_put}
use Rattle.lists.proofs.Numbers.{below_drop}
use Rattle.field.specs.Inner.Sums.{dot}
use Rattle.decode.proofs.Arrays.{symbols_all}
use Rattle.decode_listed.proofs.NodeLists.{rest_is}
use Rattle.decode_listed.proofs.erased.sums_from.Goals as goal

pub weighted_sum-requires : goal.weighted_sum-requires
weighted_sum-requires c =
    let s = c.args.symbols.now in
    let e = c.loop-e.e in
    let long : length s ≡ 255 = search in
    rw (rest_is s e long) (c.requires.0, below_drop _ e s (symbols_all _ s c.requires.1), omega (arith, length-drop e s, long, c.requires.2, c.loop-e-test.true))

pub loop-e-preserved : goal.loop-e-preserved
loop-e-preserved c =
    let s = c.args.symbols.now in
    let long : length s ≡ 255 = search in
    filled_put c.loop-e.invariant c.loop-e-test.true (c.weighted_sum.ensures.is ∙ ap (dot _ c.args.weights.now) (rest_is s c.loop-e.e long))
