-- `removed` meets its contract. Invariant: with the errors at the nodes that are to come it is the lane without all of them.
use mathlib.Core.Path.{◌≡◌}
use mathlib.Core.Bool.{true}
use lib.ListN.{length, drop}
use Rattle.lists.specs.Numbers.{all_below}
use Rattle.lists.specs.Padded.{padded}
use Rattle.field.specs.Fields.{size_of}
use Rattle.field.specs.Kinds.{modulus}
use Rattle.decode.specs.Inner.Errors.{removed}
use Rattle.decode.proofs.lanes.removed.Given as goal

abbrev pub invariant-loop-node : goal.invariant-loop-node
invariant-loop-node l = (length l.out ≡ 255) × (all_below (size_of (modulus l.field.field)) l.out ≡ true) × (removed (modulus l.field.field) (drop (length l.yielded) l.nodes) (drop (length l.yielded) l.errors) l.out ≡ removed (modulus l.field.field) l.nodes l.errors (padded 255 l.lane))
