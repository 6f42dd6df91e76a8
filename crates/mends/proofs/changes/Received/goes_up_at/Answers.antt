-- `goes_up_at` meets its contract: the list's power at j is root^j.
use mathlib.Core.Path.{◌≡◌}
use lib.ListN.{get_or}
use Rattle.field.specs.Fields.{power}
use Rattle.field.proofs.Bounds.{power_below}
use Rattle.generator.specs.Records.{modulus_of}
use Rattle.check_sums.proofs.Sums.{power_place, power_at}
use Rattle.mends.proofs.changes.Received.goes_up_at.Goals as goal
use Rattle.mends.proofs.changes.Received.goes_up_at.Goals.{Start}

-- the power of node j
read : (c : Start) → let h = c.args.self.powers.codec.code.header in get_or c.args.self.powers.list.now c.args.j 0 ≡ power (modulus_of h) h.root c.args.j
read c = rw c.args.self.powers.are (power_at _ _ c.requires)

pub bounds-self-j : goal.bounds-self-j
bounds-self-j c = rw c.args.self.powers.are (power_place _ _ c.requires)

pub goes_up-requires : goal.goes_up-requires
goes_up-requires c =
    let s = c.args.self.powers.codec.code.sound in
    rw (read (goal.at.goes_up-requires c).Start) (power_below _ s.field _ s.root_below)

pub returns : goal.returns
returns c = rw (read (goal.at.returns c).Start) at c.goes_up.ensures
