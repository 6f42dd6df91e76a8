-- `amount` meets its contract: the base word begins with the entry at the row's first node.
use mathlib.Core.Path.{◌≡◌}
use Prim.Native.Nat.{◌<◌}
use native.Mathlib.Omega.{arith}
use lib.ListN.{length, get_or}
use Rattle.lists.proofs.Numbers.{below_at}
use Rattle.generator.specs.Records.{size}
use Rattle.generator.specs.Shifts.{firsts}
use Rattle.generator.specs.Generator.{entry}
use Rattle.generator.proofs.Bounds.{entry_below}
use Rattle.plan.proofs.Plans.{first_in, shift_in, entry_read}
use Rattle.find_update.specs.Inner.Starts.{amount_in}
use Rattle.find_update.proofs.Multiples.{first_node, first_place}
use Rattle.find_update.proofs.compare.LaneDifference.amount.Goals as goal
use Rattle.find_update.proofs.compare.LaneDifference.amount.Goals.{Start}

-- the row's first node
first : (c : Start) → get_or c.args.self.plan.now.firsts c.args.row 0 ≡ get_or (firsts c.args.self.codec.code.header) c.args.row 0
first c =
    let sound = c.args.self.codec.code.sound in
    rw c.args.self.planned (first_in _ sound _ c.requires)

inside : (c : Start) → (get_or c.args.self.plan.now.firsts c.args.row 0 < length c.args.self.symbols.now) × (length c.args.self.symbols.now ≡ c.args.self.codec.code.header.n)
inside c =
    let sound = c.args.self.codec.code.sound in
    (rw (first c, c.args.self.lane.long) (first_node _ sound _ c.requires), c.args.self.lane.long)

-- the entry there
over : (c : Start) → get_or c.args.self.plan.now.base 0 0 ≡ entry c.args.self.codec.code.header c.args.row (get_or (firsts c.args.self.codec.code.header) c.args.row 0)
over c =
    let sound = c.args.self.codec.code.sound in
    let h = c.args.self.codec.code.header in
    rw c.args.self.planned (rw (shift_in h sound c.args.row c.requires, first_place h sound c.args.row c.requires) at (entry_read h sound c.args.row (get_or (firsts h) c.args.row 0) c.requires (first_node h sound c.args.row c.requires)))

pub inverse-over-requires : goal.inverse-over-requires
inverse-over-requires c =
    rw (c.args.self.codec.same, over (goal.at.inverse-over-requires c).Start) (entry_below _ c.args.self.codec.code.sound _ _)

pub offset_bounds-self-first : goal.offset_bounds-self-first
offset_bounds-self-first c = omega (arith, inside (goal.at.offset_bounds-self-first c).Start)

pub bounds-self-first : goal.bounds-self-first
bounds-self-first c = (inside (goal.at.bounds-self-first c).Start).0

pub mul-requires : goal.mul-requires
mul-requires c =
    (rw c.args.self.codec.same (below_at (size c.args.self.codec.code.header) c.args.self.symbols.now c.args.self.lane.symbols _ (inside (goal.at.mul-requires c).Start).0), c.inverse-over.ensures.symbol)

pub returns : goal.returns
unfolding amount_in
returns c = rw (c.mul.ensures.is, c.inverse-over.ensures.is, c.args.self.codec.same, over (goal.at.returns c).Start, first (goal.at.returns c).Start)
