-- `fill_tile` meets its contract: sums over the gathered lanes.
use mathlib.Core.Path.{ap, ◌∙◌}
use mathlib.Core.List.{List}
use Prim.Native.Nat.{ℕ}
use native.Mathlib.Omega.{arith}
use Rattle.layout.specs.Layout.{row_after_row}
use Rattle.layout.specs.Width.{bytes_of}
use Rattle.layout.specs.Inner.Tiles.{tile_symbols}
use Rattle.generator.specs.Records.{modulus_of}
use Rattle.blocks.proofs.Tiles.{lanes_tile, lanes_symbols}
use Rattle.row_sums.specs.Inner.Combined.{combined}
use Rattle.row_sums.proofs.Columns.{rows_ready, combined_symbols}
use Rattle.row_sums.proofs.FirstWeights.{weighted_front, bytes_front}
use Rattle.recover.proofs.shares.Weighted.fill_tile.Goals as goal

pub combine_symbols-requires : goal.combine_symbols-requires
combine_symbols-requires c =
    let v = c.args.self in
    let h = v.code.header in
    let (some, fits, tile, out) = c.requires in
    let rows = lanes_tile h v.width.bytes h.k v.lanes c.args.first c.args.count v.shares.now v.listed v.bytes fits some in
    let sound = v.code.sound in
    rw c.gather_lanes.ensures
    (weighted_front (rows_ready sound (omega (arith, sound.byte, sound.fits)) rows.symbol_rows.few_lanes v.long v.symbols (rw (← v.listed.wide) rows.bytes) (rw (← v.listed.wide) rows.symbol_rows.symbols) (rw (← v.listed.wide) out)))

pub returns : goal.returns
returns c =
    let v = c.args.self in
    let h = v.code.header in
    let count = c.args.count in
    let (some, fits, tile, out) = c.requires in
    c.combine_symbols.ensures
    ∙ bytes_front h.k count v.weights.now _ (omega (arith, v.long, v.code.sound.byte, v.code.sound.fits)) (modulus_of h)
    ∙ combined_symbols h v.width.bytes h.k count v.weights.now _ v.listed.wide
    ∙ ap (λ (u : List ℕ). bytes_of v.width.bytes (combined row_after_row (modulus_of h) h.k count v.weights.now u))
    (ap (tile_symbols v.width.bytes h.k count) c.gather_lanes.ensures ∙ lanes_symbols h v.width.bytes h.k v.lanes c.args.first count v.shares.now v.listed v.bytes fits)
