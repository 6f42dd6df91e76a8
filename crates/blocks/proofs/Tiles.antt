-- Some lanes of a block as a block of their own: shares, messages and wrong lanes of a tile are those of the lanes that it was taken from.
use mathlib.Core.Path.{◌≡◌, ap, ◌∙◌}
use mathlib.Core.Bool.{true}
use mathlib.Core.List.{List}
use Prim.Native.Nat.{ℕ, ◌+◌, ◌*◌, ◌≤◌, ◌<◌}
use native.Mathlib.Omega.{arith}
use Rattle.lists.specs.Numbers.{all_below}
use Rattle.layout.specs.Layout.{Arrangement, row_after_row, lane_after_lane, rearranged}
use Rattle.layout.specs.Inner.Parts.{some_lanes}
use Rattle.layout.specs.Width.{symbols_of}
use Rattle.layout.specs.Inner.Tiles.{tile_symbols}
use Rattle.layout.proofs.TileLanes.{tile_read, tile_lanes}
use Rattle.layout.proofs.Lawful.{Lawful, by_row, by_lane}
use Rattle.layout.proofs.Buffers.{held_buffer, buffer_ext}
use Rattle.layout.proofs.Runs.{length_some, some_below}
use Rattle.generator.specs.declared.Header.{Header}
use Rattle.generator.specs.Records.{size}
use Rattle.generator.proofs.Widths.{width_some}
use Rattle.refusals.specs.Accepted.{SymbolRows}
use Rattle.refusals.specs.Inner.Accepted.{SymbolBytes, SymbolTile}
use Rattle.blocks.specs.Blocks.{share_at, shares_of}

-- shares rearranged are the shares in the other arrangement
pub shares_rearranged : {y z : Arrangement} → Lawful y → Lawful z → (h : Header) (l : ℕ) (m : List ℕ) → rearranged y z h.n l (shares_of y h l m) ≡ shares_of z h l m
unfolding rearranged shares_of
shares_rearranged a b h l m = buffer_ext b h.n l _ (share_at h l m) (λ j t node lane. held_buffer a h.n l (share_at h l m) j t node lane)

module _ (h : Header) (l t c : ℕ) where
  -- symbols stay symbols
  pub rows_tile : {y z : Arrangement} → Lawful y → Lawful z → {rows : ℕ} {s : List ℕ} → t + c ≤ l → 0 < c → SymbolRows h rows l s → SymbolRows h rows c (some_lanes y z rows l t c s)
  rows_tile a b {rows} {s} fits some is =
      record {
        sound = is.sound;
        some_lane = some;
        few_lanes = omega (arith, is.few_lanes);
        long = length_some a b rows l t c s;
        symbols = some_below a b rows l t c s (size h) fits is.long is.symbols;
      }

-- lanes that stand side by side, gathered into a tile
module _ (h : Header) (w rows l t c : ℕ) (s : List ℕ) (is : SymbolBytes h w rows l s) (low : all_below 256 s ≡ true) (fits : t + c ≤ l) where
  some_width : 0 < w
  some_width = rw is.wide (width_some h)

  -- their symbols
  pub lanes_symbols : tile_symbols w rows c (some_lanes lane_after_lane row_after_row (w * rows) l t c s) ≡ some_lanes lane_after_lane row_after_row rows l t c (symbols_of w s)
  lanes_symbols =
      ap (tile_symbols w rows c) (tile_lanes w rows l s some_width is.bytes low t c fits)
      ∙ tile_read w rows c some_width (some_lanes lane_after_lane row_after_row rows l t c (symbols_of w s)) (length_some by_lane by_row rows l t c (symbols_of w s))

  pub lanes_tile : 0 < c → SymbolTile h w rows c (some_lanes lane_after_lane row_after_row (w * rows) l t c s)
  lanes_tile some =
      record {
        wide = is.wide;
        bytes = length_some by_lane by_row (w * rows) l t c s;
        symbol_rows = rw lanes_symbols (rows_tile h l t c by_lane by_row fits some is.symbol_rows);
      }
