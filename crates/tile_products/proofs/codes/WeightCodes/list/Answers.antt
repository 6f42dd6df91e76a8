-- `list` meets its contract: each arm makes the lists of its kind.
use Rattle.std.proofs.Common.{length, arith}
use Rattle.field.specs.Kinds.{modulus}
use Rattle.field.proofs.KindLaws.{usable_prime}
use Rattle.tile_products.proofs.Fitting.{groups_few}
use Rattle.tile_products.proofs.Arms.{list_ready, byte_lists}
use Rattle.tile_products.proofs.codes.WeightCodes.list.Goals as goal

pub new-requires : goal.new-requires
new-requires c = let k = usable_prime _ (rw c.in-Prime.is at c.args.self.usable_field) in record { prime = k.1; fits = k.0 }

pub list_weights-requires : goal.list_weights-requires
unfolding modulus
list_weights-requires c =
    let e = c.in-Prime.is in
    let pre = c.requires in
    let k = usable_prime _ (rw e at c.args.self.usable_field) in
    rw c.new.ensures record { known = rw e at c.args.self.made; few = pre.few; below = rw k.2 at (rw e at pre.below); long = pre.long }

pub list_output-requires : goal.list_output-requires
list_output-requires c =
    let e = c.in-Binary.is in
    let pre = c.requires in
    let few = groups_few (length c.args.weights.now) 64 (omega (arith, pre.few)) in
    let r = list_ready _ c.args.weights.now (rw e at c.args.self.made) (rw e at pre.below) in
    (r.0, r.1, omega (arith, pre.long, few), omega (arith, pre.long), pre.counted)

pub returns-in-Prime : goal.returns-in-Prime
unfolding modulus
returns-in-Prime c = rw (c.in-Prime.is, ← c.new.ensures) (c.list_weights.ensures _ c.requires.counted)

pub returns-in-Binary : goal.returns-in-Binary
returns-in-Binary c =
    let e = c.in-Binary.is in
    let pre = c.requires in
    rw e (byte_lists _ _ (omega (arith, pre.long)) pre.few (rw e at pre.below) c.list_output.ensures)
