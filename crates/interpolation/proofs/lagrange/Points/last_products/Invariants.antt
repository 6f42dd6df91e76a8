-- `last_products` meets its contract. Invariant: the product over the m points that are done, a symbol, and those over fewer are written.
use mathlib.Core.Path.{◌≡◌}
use Prim.Native.Nat.{◌-◌, ◌<◌}
use lib.ListN.{length, drop}
use Rattle.std.specs.Iterator.Adapters.{enumerate_count, enumerate_source, rev_source}
use Rattle.std.specs.Slice.Iter.{iter_rest}
use Rattle.lists.proofs.Fill.{Filled}
use Rattle.field.specs.Fields.{size_of}
use Rattle.field.specs.Kinds.{modulus}
use Rattle.interpolation.specs.Inner.Lagrange.{product_at}
use Rattle.interpolation.proofs.FromEnd.{FromEnd}
use Rattle.interpolation.proofs.lagrange.Points.last_products.Given as goal

abbrev pub invariant-loop-m : goal.invariant-loop-m
invariant-loop-m l =
    let p = modulus l.self.field.field in
    let xs = l.self.points.now in
    let m = enumerate_count l.m-iterator in
    (l.product < size_of p)
    × FromEnd xs (iter_rest (rev_source (enumerate_source l.m-iterator))) (λ done. (m ≡ length done) × (l.product ≡ product_at p done l.z))
    × Filled 255 (length xs) (λ j. product_at p (drop (length xs - j) xs) l.z) m l.out
