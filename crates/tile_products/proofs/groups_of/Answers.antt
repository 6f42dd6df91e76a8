use Rattle.std.proofs.Common.{arith}
use Rattle.tile_products.specs.Inner.Products.{groups_of}
use Rattle.tile_products.proofs.groups_of.Goals as goal

pub returns : goal.returns
unfolding groups_of
returns c = record { value = omega (arith, c.div_ceil.ensures); few = omega arith; room = omega arith }
