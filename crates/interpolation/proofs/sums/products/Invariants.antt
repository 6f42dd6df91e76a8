-- `products` meets its contract. Invariant: the first i products are written, and the pairs from i on are left.
use lib.ListN.{length, get_or}
use Rattle.std.specs.Iterator.Adapters.{enumerate_count, enumerate_source, zip_first, zip_second}
use Rattle.std.specs.Slice.Iter.{iter_rest}
use Rattle.lists.proofs.Fill.{Filled}
use Rattle.lists.proofs.Paired.{Paired}
use Rattle.field.specs.Fields.{mul}
use Rattle.field.specs.Kinds.{modulus}
use Rattle.interpolation.proofs.sums.products.Given as goal

abbrev pub invariant-loop-i : goal.invariant-loop-i
invariant-loop-i l =
    let i = enumerate_count l.i-iterator in
    let pairs = enumerate_source l.i-iterator in
    Paired l.xs l.ys i (iter_rest (zip_first pairs)) (iter_rest (zip_second pairs)) × Filled 255 (length l.xs) (λ j. mul (modulus l.field.field) (get_or l.xs j 0) (get_or l.ys j 0)) i l.out
