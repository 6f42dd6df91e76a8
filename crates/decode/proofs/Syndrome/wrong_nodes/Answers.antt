-- `wrong_nodes` meets its contract: the roots of the locator that was found.
use mathlib.Core.Path.{◌≡◌}
use mathlib.Core.Bool.{true}
use Prim.Native.Nat.{◌+◌, ◌/◌}
use native.Mathlib.Omega.{arith}
use lib.ListN.{length, take}
use lib.Seq.{length-take-le}
use Rattle.lists.specs.Numbers.{all_below}
use Rattle.lists.proofs.Numbers.{below_take}
use Rattle.generator.specs.Records.{size}
use Rattle.nearest_word.specs.Nearest.{radius}
use Rattle.decode.proofs.Arrays.{symbols_all}
use Rattle.decode.proofs.Syndrome.wrong_nodes.Goals as goal
use Rattle.decode.proofs.Syndrome.wrong_nodes.Goals.{After-locate-locator}

-- the locator's coefficients
front_long : (c : After-locate-locator) → length (take (c.checks-t.result / 2 + 1) c.locate-locator.result) ≡ c.checks-t.result / 2 + 1
front_long c = length-take-le _ c.locate-locator.result (omega (arith, c.locate-locator.ensures.long, c.checks-t.ensures, c.args.self.codec.code.sound.byte))

front_below : (c : After-locate-locator) → all_below (size c.args.self.codec.code.header) (take (c.checks-t.result / 2 + 1) c.locate-locator.result) ≡ true
front_below c =
    rw (← c.args.self.codec.same) (below_take _ _ c.locate-locator.result (symbols_all _ c.locate-locator.result c.locate-locator.ensures.below))

pub invariant_of-polynomial : goal.invariant_of-polynomial
invariant_of-polynomial c =
    let w = (goal.at.invariant_of-polynomial c).After-locate-locator in
    record { symbols = rw c.args.self.codec.same (record { below = front_below w; short = omega (arith, front_long w, c.checks-t.ensures, c.args.self.codec.code.sound.byte) }) }

pub returns : goal.returns
unfolding radius
returns c =
    record {
      few = omega (arith, c.args.self.codec.code.sound.byte);
      locator = c.locate-locator.result;
      locates = rw (c.args.self.codec.same, c.checks-t.ensures) at c.locate-locator.ensures;
      listed = rw c.checks-t.ensures at c.find_roots.ensures;
    }
