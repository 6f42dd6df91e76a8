-- Buffers and tiles whose symbols' bytes are told.
use Rattle.std.specs.Prelude.{◌≡◌, List, ℕ, ◌*◌, length}
use Rattle.layout.specs.Width.{symbols_of}
use Rattle.layout.specs.Inner.Tiles.{tile_symbols}
use Rattle.generator.specs.declared.Header.{Header}
use Rattle.generator.specs.Records.{width}
use Rattle.refusals.specs.Accepted.{SymbolRows}

-- the same where a symbol's bytes are told, and a tile of such rows
pub record SymbolBytes (h : Header) (w rows l : ℕ) (s : List ℕ) : Type 0 where
  pub wide : w ≡ width h
  pub bytes : length s ≡ w * rows * l
  pub symbol_rows : SymbolRows h rows l (symbols_of w s)

pub record SymbolTile (h : Header) (w rows l : ℕ) (s : List ℕ) : Type 0 where
  pub wide : w ≡ width h
  pub bytes : length s ≡ w * rows * l
  pub symbol_rows : SymbolRows h rows l (tile_symbols w rows l s)
