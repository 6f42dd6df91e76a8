-- A column of a table of symbols: where its symbols stand, and its bytes one symbol at a time.
use mathlib.Core.Path.{◌≡◌, ap, ◌∙◌}
use mathlib.Core.List.{List, [], ◌++◌}
use Prim.Native.Nat.{ℕ, ◌+◌, ◌-◌, ◌*◌, ◌/◌, ◌≤◌, ◌<◌}
use native.Mathlib.Nat.{mul-div_cancel}
use native.Mathlib.Omega.{arith}
use lib.ListN.{length}
use Rattle.lists.specs.Rows.{from}
use Rattle.lists.proofs.Rows.{from_next, from_end, row_inside}
use Rattle.layout.specs.Layout.{row_after_row, held, lane_of}
use Rattle.layout.specs.Width.{symbol_at, symbols_of, symbol_bytes, bytes_of}
use Rattle.layout.proofs.Buffers.{length_lane}
use Rattle.layout.proofs.Places.{held_by_row}
use Rattle.layout.proofs.Widths.{get_or_symbols, length_bytes}

module _ (w rows width t : ℕ) (table : List ℕ) where
  -- the bytes of the column from row i on
  abbrev pub column_from : ℕ → List ℕ
  column_from i = bytes_of w (from (λ j. held row_after_row rows width (symbols_of w table) j t) i (rows - i))

  pub column_end : (i : ℕ) → rows ≤ i → column_from i ≡ []
  unfolding bytes_of
  column_end i h = ap (bytes_of w) (from_end _ rows i h)

  pub length_column : length (bytes_of w (lane_of row_after_row rows width t (symbols_of w table))) ≡ rows * w
  length_column = length_bytes w _ ∙ ap (λ (x : ℕ). x * w) (length_lane row_after_row rows width t (symbols_of w table))

  module _ (some : 0 < w) (long : length table ≡ rows * width * w) (inside : t < width) (i : ℕ) (row : i < rows) where
    -- the symbol of row i is one of the table
    pub symbol_in : i * width + t < length table / w
    symbol_in =
        let many : length table / w ≡ rows * width = ap (λ (x : ℕ). x / w) long ∙ mul-div_cancel (rows * width) some in
        omega (arith, many, row_inside rows i width row)

    pub column_next : column_from i ≡ symbol_bytes w (symbol_at w table (i * width + t)) ++ column_from (i + 1)
    unfolding bytes_of
    column_next =
        ap (bytes_of w) (from_next _ rows i row)
        ∙ ap (λ (x : ℕ). symbol_bytes w x ++ column_from (i + 1)) (held_by_row rows width (symbols_of w table) i t ∙ get_or_symbols w table (i * width + t) symbol_in)
