-- What `row_sums` requires, over a sound header's field. Weights by the number of the row, padded with zeros: the sums with them are what a recursion over the rows gives.
use mathlib.Core.Path.{◌≡◌, refl, sym, ap, ◌∙◌}
use mathlib.Core.Bool.{true}
use mathlib.Core.List.{List, [], ◌∷◌, ◌++◌}
use Prim.Native.Nat.{ℕ, zero, suc, ◌+◌, ◌*◌, ◌≤◌}
use native.Mathlib.Omega.{arith}
use lib.ListN.{length}
use Rattle.lists.specs.Numbers.{all_below}
use Rattle.lists.specs.Rows.{from}
use Rattle.layout.specs.Layout.{row_after_row}
use Rattle.layout.specs.Width.{bytes_of}
use Rattle.layout.specs.Inner.Tiles.{tile_symbols, tile_bytes}
use Rattle.layout.proofs.Tiles.{length_tile_symbols}
use Rattle.field.specs.Fields.{add, mul}
use Rattle.field.specs.Inner.Sums.{dot}
use Rattle.generator.specs.declared.Header.{Header}
use Rattle.generator.specs.Records.{modulus_of, size, width, Sound}
use Rattle.row_sums.specs.Inner.Combined.{combined, combined_tile, combined_bytes, WeightedRows}

-- symbols of a sound header's field in a tile and in an array of weights can be combined
pub rows_ready : {h : Header} {rows l : ℕ} {ws s : List ℕ} {out : ℕ} → Sound h → rows ≤ 255 → l ≤ 4096 → length ws ≡ 255 → all_below (size h) ws ≡ true → length s ≡ width h * rows * l → all_below (size h) (tile_symbols (width h) rows l s) ≡ true → out ≡ width h * l → WeightedRows h.field rows l ws s out
unfolding width
rows_ready {h} {rows} {l} {ws} {s} sound few lanes weights below long symbols out_long =
    record {
      usable_field = sound.usable_field;
      tile = record {
        few_lanes = lanes;
        bytes = long;
        weighted = record { few = few; weights = omega arith; weights_below = below; long = length_tile_symbols (width h) rows l s; symbols = symbols; out_long = refl };
        out_is_bytes = out_long;
      };
    }

-- what a tile's sums are as symbols one after the other
pub combined_symbols : (h : Header) (w rows l : ℕ) (ws s : List ℕ) → w ≡ width h → combined_bytes (modulus_of h) rows l ws s ≡ bytes_of w (combined row_after_row (modulus_of h) rows l ws (tile_symbols w rows l s))
unfolding combined_bytes width
combined_symbols h w rows l ws s wide = rw wide

-- what a tile's sums are in bytes, over a header's field
pub combined_tile_lem : (h : Header) (rows l : ℕ) (ws s : List ℕ) → combined_tile (modulus_of h) rows l ws s ≡ tile_bytes (width h) 1 l (combined row_after_row (modulus_of h) rows l ws (tile_symbols (width h) rows l s))
unfolding combined_tile width
combined_tile_lem h rows l ws s = refl

-- g r is the sum over symbols, the first being that of row r, times the weights f
module _ (p : ℕ) (f : ℕ → ℕ) (g : ℕ → List ℕ → ℕ) (none : (r : ℕ) → g r [] ≡ 0) (more : (r m : ℕ) (ms : List ℕ) → g r (m ∷ ms) ≡ add p (mul p m (f r)) (g (r + 1) ms)) where
  -- whatever follows the weights
  pub dot_column : (r n : ℕ) (ms rest : List ℕ) → length ms ≤ n → dot p ms (from f r n ++ rest) ≡ g r ms
  unfolding dot from
  dot_column r n [] rest fits = sym (none r)
  dot_column r zero (m ∷ ms) rest fits = absurd (omega arith)
  dot_column r (suc n) (m ∷ ms) rest fits = ap (add p (mul p m (f r))) (dot_column (r + 1) n ms rest (omega arith)) ∙ sym (more r m ms)
