-- Of weights that are more than the rows the first ones alone count: the sums with them are the same.
use mathlib.Core.Path.{◌≡◌, refl, sym, ap, ◌∙◌}
use mathlib.Core.List.{List, [], ◌∷◌, ◌++◌}
use Prim.Native.Nat.{ℕ, ◌≤◌}
use native.Mathlib.Omega.{arith}
use lib.ListN.{length, take, drop, take-append-drop}
use lib.Seq.{length-take-le}
use Rattle.lists.proofs.Numbers.{below_take}
use Rattle.lists.proofs.Rows.{from_ext}
use Rattle.layout.specs.Layout.{Arrangement, row_after_row, lane_of}
use Rattle.layout.specs.Inner.Tiles.{tile_symbols}
use Rattle.layout.proofs.Buffers.{length_lane}
use Rattle.field.specs.declared.Field.{Field}
use Rattle.field.specs.Fields.{add, mul}
use Rattle.field.specs.Inner.Sums.{dot}
use Rattle.field.specs.Widths.{bytes_for}
use Rattle.row_sums.specs.Inner.Combined.{combined, combined_bytes, WeightedRows}

-- a sum reads as many of the second list as there are in the first
pub dot_front : (p : ℕ) (ws ys zs : List ℕ) → length ws ≤ length ys → dot p ws (ys ++ zs) ≡ dot p ws ys
unfolding dot
dot_front p [] ys zs h = refl
dot_front p (w ∷ ws) [] zs h = absurd (omega arith)
dot_front p (w ∷ ws) (y ∷ ys) zs h = ap (add p (mul p w y)) (dot_front p ws ys zs (omega arith))

module _ (rows l : ℕ) (ws s : List ℕ) (enough : rows ≤ length ws) where
  pub first_long : length (take rows ws) ≡ rows
  first_long = length-take-le rows ws enough

  pub combined_front : (y : Arrangement) (p : ℕ) (u : List ℕ) → combined y p rows l (take rows ws) u ≡ combined y p rows l ws u
  unfolding combined
  combined_front y p u =
      from_ext _ _ 0 l
      (λ t none lane.
      sym (dot_front p (lane_of y rows l t u) (take rows ws) (drop rows ws) (omega (arith, length_lane y rows l t u, first_long)))
      ∙ ap (dot p (lane_of y rows l t u)) (take-append-drop rows ws))

  pub bytes_front : (p : ℕ) → combined_bytes p (length (take rows ws)) l (take rows ws) s ≡ combined_bytes p rows l ws s
  unfolding combined_bytes
  bytes_front p = rw (first_long, combined_front row_after_row p (tile_symbols (bytes_for p) rows l s))

-- what is asked of all weights holds of the first ones
pub weighted_front : {field : Field} {rows l : ℕ} {ws s : List ℕ} {out : ℕ} → WeightedRows field rows l ws s out → WeightedRows field (length (take rows ws)) l (take rows ws) s out
weighted_front {rows = rows} {ws = ws} a =
    let w = a.tile.weighted in
    let long = length-take-le rows ws w.weights in
    rw long
    (record {
      usable_field = a.usable_field;
      tile = record {
        few_lanes = a.tile.few_lanes;
        bytes = a.tile.bytes;
        weighted = record { few = w.few; weights = omega (arith, long); weights_below = below_take _ rows ws w.weights_below; long = w.long; symbols = w.symbols; out_long = w.out_long };
        out_is_bytes = a.tile.out_is_bytes;
      };
    })
