-- `difference` meets its contract: `Filled` is the invariant, and the pairs from j on are left.
use lib.ListN.{length, get_or}
use Rattle.std.specs.Iterator.Adapters.{enumerate_count, enumerate_source, zip_first, zip_second}
use Rattle.std.specs.Slice.Iter.{iter_rest}
use Rattle.lists.proofs.Fill.{Filled}
use Rattle.lists.proofs.Paired.{Paired}
use Rattle.field.specs.Fields.{sub}
use Rattle.field.specs.Kinds.{modulus}
use Rattle.find_update.proofs.compare.difference.Given as goal

abbrev pub invariant-loop-j : goal.invariant-loop-j
invariant-loop-j l =
    let j = enumerate_count l.j-iterator in
    let pairs = enumerate_source l.j-iterator in
    Paired l.after l.before j (iter_rest (zip_first pairs)) (iter_rest (zip_second pairs)) × Filled 255 (length l.after) (λ i. sub (modulus l.field) (get_or l.after i 0) (get_or l.before i 0)) j l.out
