-- `all_ruled_out` meets its contract. The loop's invariant: the sum so far and that of the words from i on make the whole.
use mathlib.Core.Path.{ap}
use native.Mathlib.Omega.{arith}
use lib.ListN.{drop_of_length-le}
use Rattle.lists.proofs.Front.{drop_next}
use Rattle.carrying.specs.Masks.{all_ruled_out}
use Rattle.carry.proofs.masks.all_ruled_out.Goals as goal

pub loop-word-init : goal.loop-word-init
unfolding all_ruled_out
loop-word-init c = (omega arith, omega (arith, c.ruled_out-total.ensures.0))

pub loop-word-preserved : goal.loop-word-preserved
unfolding all_ruled_out
loop-word-preserved c =
    let words = c.args.words.now in
    let next = ap (all_ruled_out c.args.p c.args.k c.args.a) (drop_next words c.loop-word.word-index 0 c.loop-word-test.true) in
    (omega (arith, c.ruled_out-total-in-loop-word.ensures.1, c.loop-word.invariant.0), omega (arith, next, c.ruled_out-total-in-loop-word.ensures.0, c.loop-word.invariant.1))

pub returns : goal.returns
unfolding all_ruled_out
returns c =
    let none = ap (all_ruled_out c.args.p c.args.k c.args.a) (drop_of_length-le c.args.words.now {i = c.loop-word.word-index} c.loop-word-test.false) in
    omega (arith, none, c.loop-word.invariant.1)
