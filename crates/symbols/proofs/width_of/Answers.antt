-- `width_of` meets its contract.
use Rattle.field.proofs.Widths.{bytes_range}
use Rattle.generator.specs.Records.{modulus_of, width}
use Rattle.symbols.proofs.width_of.Goals as goal

pub invariant_of-result : goal.invariant_of-result
invariant_of-result c = let range = bytes_range (modulus_of c.args.h) in record { some = rw c.width.ensures range.0; most = rw c.width.ensures range.1 }

pub returns : goal.returns
unfolding width
returns c = c.width.ensures
