-- What each node adds, as code makes it.
use Rattle.std.specs.Prelude.{List, ℕ}
use Rattle.layout.specs.Inner.Tiles.{tile_symbols}
use Rattle.layout.specs.Width.{bytes_of}
use Rattle.generator.specs.Generator.{entry}
use Rattle.generator.specs.Records.{width}
use Rattle.differences.specs.declared.change.Change.{Change}
use Rattle.differences.specs.declared.rows.Rows.{Rows}
use Rattle.differences.specs.Inner.Rows.{row_times}

-- rows as they stand in the lanes of a change
abbrev pub change_rows : Change → Rows
change_rows c = let code = c.generator.now.codec.code in record { code = code; width = width code.header; lanes = c.lanes }

-- node j's row where the difference is that tile
abbrev pub told : Rows → ℕ → List ℕ → ℕ → List ℕ
told rows symbol tile j = bytes_of rows.width (row_times rows.code.header rows.lanes (tile_symbols rows.width 1 rows.lanes tile) (entry rows.code.header symbol j))
