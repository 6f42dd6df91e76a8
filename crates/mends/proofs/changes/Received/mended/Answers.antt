-- `mended` meets its contract: the power at place (n − j) modulo n is 1 over root^j.
use mathlib.Core.Path.{◌≡◌, ap, ◌∙◌}
use Prim.Native.Nat.{◌-◌, ◌%◌, ◌<◌}
use native.Mathlib.Omega.{arith}
use lib.ListN.{get_or}
use Rattle.lists.proofs.Numbers.{below_at}
use Rattle.field.specs.Fields.{sub, mul, power}
use Rattle.field.proofs.Bounds.{power_below}
use Rattle.generator.specs.Records.{modulus_of, size}
use Rattle.generator.specs.Shifts.{negative}
use Rattle.check_sums.proofs.Sums.{power_place, power_at}
use Rattle.mends.specs.Inner.BySums.{mended_at}
use Rattle.mends.proofs.changes.Received.mended.Goals as goal
use Rattle.mends.proofs.changes.Received.mended.Goals.{After-negative-back, Start}

-- what is read there
read : (c : After-negative-back)
    → let a = c.args in
    get_or a.self.powers.list.now c.negative-back.result 0 ≡ power (modulus_of a.self.powers.codec.code.header) a.self.powers.codec.code.header.root ((a.self.powers.codec.code.header.n - a.j) % a.self.powers.codec.code.header.n)
unfolding negative
read c =
    let (is, low) = c.negative-back.ensures in
    rw (c.args.self.powers.are, power_at c.args.self.powers.codec.code.header _ low, is)

-- and the first check sum are symbols
read_below : (c : After-negative-back) → let a = c.args in get_or a.self.powers.list.now c.negative-back.result 0 < size a.self.powers.codec.code.header
read_below c =
    let s = c.args.self.powers.codec.code.sound in
    rw (read c) (power_below _ s.field _ s.root_below)

sum_below : (c : Start) → let a = c.args in get_or a.self.sums.now 0 0 < size a.self.powers.codec.code.header
sum_below c =
    let has = c.args.self.summed.has in
    below_at _ _ has.symbols 0 has.some

held_below : (c : Start) → let a = c.args in get_or a.self.lane.now a.j 0 < size a.self.powers.codec.code.header
held_below c =
    let lane = c.args.self.summed.lane in
    below_at _ _ lane.symbols _ (omega (arith, lane.long))

pub offset_bounds-self-back : goal.offset_bounds-self-back
offset_bounds-self-back c = omega (arith, c.negative-back.ensures.1)

pub bounds-self-back : goal.bounds-self-back
bounds-self-back c =
    rw c.args.self.powers.are (power_place _ _ c.negative-back.ensures.1)

pub mul-amount-requires : goal.mul-amount-requires
mul-amount-requires c =
    let at = goal.at.mul-amount-requires c in
    rw c.args.self.powers.codec.same (sum_below at.Start, read_below at.After-negative-back)

pub sub-requires : goal.sub-requires
sub-requires c =
    (rw c.args.self.powers.codec.same (held_below (goal.at.sub-requires c).Start), c.mul-amount.ensures.symbol)

pub returns : goal.returns
unfolding mended_at
returns c =
    let a = c.args in
    c.sub.ensures.is
    ∙ rw c.args.self.powers.codec.same
    (ap (sub (modulus_of a.self.powers.codec.code.header) (get_or a.self.lane.now a.j 0)) (c.mul-amount.ensures.is ∙ rw c.args.self.powers.codec.same (ap (mul (modulus_of a.self.powers.codec.code.header) (get_or a.self.sums.now 0 0)) (read (goal.at.returns c).After-negative-back))))
