-- `product` meets its contract. Invariant: the product over the i points that are done.
use mathlib.Core.Path.{◌≡◌}
use lib.ListN.{length}
use Rattle.std.specs.Iterator.Adapters.{enumerate_count, enumerate_source, rev_source}
use Rattle.std.specs.Slice.Iter.{iter_rest}
use Rattle.lists.specs.Padded.{padded}
use Rattle.field.specs.Kinds.{modulus}
use Rattle.interpolation.specs.Inner.Polynomials.{product_of}
use Rattle.interpolation.proofs.FromEnd.{FromEnd}
use Rattle.interpolation.proofs.lagrange.Points.product.Given as goal

abbrev pub invariant-loop-i : goal.invariant-loop-i
invariant-loop-i l =
    FromEnd l.self.points.now (iter_rest (rev_source (enumerate_source l.i-iterator)))
    (λ xs. (enumerate_count l.i-iterator ≡ length xs) × (l.out ≡ padded 256 (product_of (modulus l.self.field.field) xs)))
