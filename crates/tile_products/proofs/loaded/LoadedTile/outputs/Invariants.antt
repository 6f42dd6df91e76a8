-- `outputs` meets its contract. The loop's invariant: the outputs below j are in their rows.
use Rattle.std.proofs.Common.{ℕ, List}
use Rattle.field.specs.Kinds.{modulus}
use Rattle.tile_products.specs.Inner.Matrices.{Begun, OutputsOf}
use Rattle.tile_products.proofs.loaded.LoadedTile.outputs.Given as goal

abbrev pub invariant-loop-j : goal.invariant-loop-j
invariant-loop-j l =
    let p = modulus l.m.shape.field in
    (w : ℕ → List ℕ) → Begun p l.m.shape.rows w l.m.shape.outputs l.m.lists.now l.m.counts.now → OutputsOf p l.m.shape.rows l.m.shape.outputs w l.self.tile.now l.j l.out
