-- `suspects` meets its contract: the lost nodes and the roots of the locator that was found.
use mathlib.Core.Path.{◌≡◌}
use mathlib.Core.Bool.{true}
use Prim.Native.Nat.{◌+◌, ◌-◌, ◌/◌}
use native.Mathlib.Omega.{arith}
use lib.ListN.{length, take}
use lib.Seq.{length-take-le}
use Rattle.lists.specs.Numbers.{all_below}
use Rattle.lists.proofs.Numbers.{below_take}
use Rattle.generator.specs.Records.{size}
use Rattle.near_message.specs.Inner.Lost.{lost_radius}
use Rattle.decode.proofs.Arrays.{symbols_all}
use Rattle.decode_listed.specs.Inner.Suspects.{suspects_of}
use Rattle.decode_listed.proofs.Suspected.{cleared_below}
use Rattle.decode_listed.proofs.erased.Erased.suspects.Goals as goal
use Rattle.decode_listed.proofs.erased.Erased.suspects.Goals.{After-locate-locator}

-- the locator's coefficients
front_long : (c : After-locate-locator) → let t = (c.checks.result - length c.args.self.lost.now) / 2 in length (take (t + 1) c.locate-locator.result) ≡ t + 1
front_long c = length-take-le _ c.locate-locator.result (omega (arith, c.locate-locator.ensures.long, c.checks.ensures, c.args.self.syndrome.codec.code.sound.byte))

front_below : (c : After-locate-locator) → all_below (size c.args.self.syndrome.codec.code.header) (take ((c.checks.result - length c.args.self.lost.now) / 2 + 1) c.locate-locator.result) ≡ true
front_below c =
    rw (← c.args.self.syndrome.codec.same) (below_take _ _ c.locate-locator.result (symbols_all _ c.locate-locator.result c.locate-locator.ensures.below))

pub locate-locator-requires : goal.locate-locator-requires
locate-locator-requires c =
    let a = c.args.self in
    let codec = a.syndrome.codec in
    (omega (arith, c.checks.ensures, codec.code.sound.byte), rw (c.cleared-cleared.ensures, codec.same) (cleared_below codec.code.header codec.code.sound a.lost.now a.are a.syndrome.sums.now a.syndrome.symbols))

pub invariant_of-polynomial : goal.invariant_of-polynomial
invariant_of-polynomial c =
    let codec = c.args.self.syndrome.codec in
    let w = (goal.at.invariant_of-polynomial c).After-locate-locator in
    record { symbols = rw codec.same (record { below = front_below w; short = omega (arith, front_long w, c.checks.ensures, codec.code.sound.byte) }) }

pub returns : goal.returns
unfolding lost_radius suspects_of
returns c =
    let codec = c.args.self.syndrome.codec in
    record {
      few = omega (arith, codec.code.sound.byte);
      locator = c.locate-locator.result;
      locates = rw (codec.same, c.checks.ensures, c.cleared-cleared.ensures) at c.locate-locator.ensures;
      listed = rw (c.as_slice.ensures.value, c.find_roots-found.ensures, c.checks.ensures) at c.suspects.ensures;
    }
