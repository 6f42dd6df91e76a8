-- `new` meets its contract: each arm fills the codes of its kind.
use Rattle.field.proofs.KindLaws.{usable_prime}
use Rattle.field.specs.Kinds.{modulus}
use Rattle.tile_products.proofs.Arms.{byte_codes}
use Rattle.tile_products.proofs.codes.WeightCodes.new.Goals as goal
use Rattle.tile_products.proofs.codes.WeightCodes.new.Goals.{in-Prime, in-Binary}

pub new-requires : goal.new-requires
new-requires c = let k = usable_prime _ (rw c.in-Prime.is at c.requires) in record { prime = k.1; fits = k.0 }

pub invariant_of-result : goal.invariant_of-result
unfolding modulus
invariant_of-result c =
    elim c.match-field.branch [
      | in-Prime w ↦ rw w.field-is record { usable_field = rw w.in-Prime.is at c.requires; made = rw (w.codes-is, ← w.new.ensures) w.fill_codes.ensures }
      | in-Binary w ↦ rw w.field-is record { usable_field = c.requires; made = rw (w.codes-is, w.in-Binary.is) (byte_codes _ w.fill_spread.ensures) }
    ]
