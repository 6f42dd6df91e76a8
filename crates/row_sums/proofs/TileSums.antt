-- Sums of a tile's rows by the width of a symbol: one byte, where the rows are those of symbols, or two.
use mathlib.Core.Path.{◌≡◌, sym, ap, ap₂, ◌∙◌}
use mathlib.Core.List.{List}
use Prim.Native.Nat.{ℕ, ◌*◌}
use native.Mathlib.Nat.{one-mul}
use lib.ListN.{length}
use Rattle.lists.proofs.Rows.{length_from}
use Rattle.layout.specs.Layout.{row_after_row, lane_after_lane, lane_of, rearranged}
use Rattle.layout.specs.Width.{bytes_of}
use Rattle.layout.specs.Inner.Tiles.{tile_symbols, tile_bytes}
use Rattle.layout.proofs.Tiles.{tile_symbols_one, tile_bytes_one, row_bytes}
use Rattle.layout.proofs.Widths.{bytes_one}
use Rattle.field.specs.Fields.{size_of}
use Rattle.field.specs.Inner.Sums.{dot}
use Rattle.field.specs.Widths.{bytes_for}
use Rattle.row_sums.specs.Inner.Combined.{combined, combined_tile, combined_bytes, Weighted, TileRows}
use Rattle.row_sums.specs.Inner.WideSums.{WideRows}
use Rattle.row_sums.proofs.Combined.{other_row}

pub length_combined : (p rows l : ℕ) (ws s : List ℕ) → length (combined row_after_row p rows l ws s) ≡ l
unfolding combined
length_combined p rows l ws s = length_from (λ t. dot p (lane_of row_after_row rows l t s) ws) 0 l

module _ (p rows l : ℕ) (ws s : List ℕ) (out : ℕ) (a : TileRows p rows l ws s out) where
  -- one byte
  module _ (one : bytes_for p ≡ 1) where
    symbols_are : tile_symbols (bytes_for p) rows l s ≡ s
    symbols_are =
        let long : length s ≡ rows * l = a.bytes ∙ ap (λ (w : ℕ). w * rows * l) one ∙ ap (λ (x : ℕ). x * l) (one-mul rows) in
        ap (λ (w : ℕ). tile_symbols w rows l s) one ∙ tile_symbols_one rows l s long

    pub narrow_rows : Weighted (size_of p) rows l ws s out
    narrow_rows = other_row (rw symbols_are at a.weighted) out (a.out_is_bytes ∙ ap (λ (w : ℕ). w * l) one ∙ one-mul l)

    pub narrow_sums : combined row_after_row p rows l ws s ≡ combined_tile p rows l ws s
    unfolding combined_tile
    narrow_sums =
        sym
        (ap₂ (λ (w : ℕ) (u : List ℕ). tile_bytes w 1 l (combined row_after_row p rows l ws u)) one symbols_are
        ∙ tile_bytes_one 1 l (combined row_after_row p rows l ws s) (length_combined p rows l ws s ∙ sym (one-mul l)))

  -- two bytes
  module _ (two : bytes_for p ≡ 2) where
    pub wide_rows : WideRows rows l ws s
    wide_rows = record { few = a.weighted.few; weights = a.weighted.weights; long = a.bytes ∙ ap (λ (w : ℕ). w * rows * l) two }

    pub wide_sums : tile_bytes 2 1 l (combined row_after_row p rows l ws (tile_symbols 2 rows l s)) ≡ combined_tile p rows l ws s
    unfolding combined_tile
    wide_sums = ap (λ (w : ℕ). tile_bytes w 1 l (combined row_after_row p rows l ws (tile_symbols w rows l s))) (sym two)

-- sums as symbols one after the other
module _ (p rows l : ℕ) (ws s : List ℕ) where
  abbrev sums : List ℕ
  sums = combined row_after_row p rows l ws (tile_symbols (bytes_for p) rows l s)

  -- one byte: a row of a tile
  pub one_after : bytes_for p ≡ 1 → combined_tile p rows l ws s ≡ combined_bytes p rows l ws s
  unfolding combined_tile combined_bytes
  one_after one =
      ap (λ (w : ℕ). tile_bytes w 1 l sums) one
      ∙ tile_bytes_one 1 l sums (length_combined p rows l ws (tile_symbols (bytes_for p) rows l s) ∙ sym (one-mul l))
      ∙ sym (ap (λ (w : ℕ). bytes_of w sums) one ∙ bytes_one sums)

  -- any number: the rows turned
  pub turned_after : rearranged row_after_row lane_after_lane (bytes_for p) l (combined_tile p rows l ws s) ≡ combined_bytes p rows l ws s
  unfolding combined_tile combined_bytes
  turned_after = row_bytes (bytes_for p) l sums (length_combined p rows l ws (tile_symbols (bytes_for p) rows l s))
