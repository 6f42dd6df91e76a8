-- Shares as bytes, with the bytes of a symbol told.
use mathlib.Core.Path.{◌≡◌, refl, ◌∙◌}
use mathlib.Core.List.{List}
use Prim.Native.Nat.{ℕ}
use Rattle.layout.proofs.LaneParts.{lanes_long}
use Rattle.generator.specs.declared.Header.{Header}
use Rattle.generator.specs.Records.{width}
use Rattle.refusals.specs.Accepted.{SymbolBuffer}
use Rattle.refusals.specs.Inner.Accepted.{SymbolBytes}

pub buffer_bytes : {h : Header} {rows l : ℕ} {s : List ℕ} (w : ℕ) → w ≡ width h → SymbolBuffer h rows l s → SymbolBytes h w rows l s
buffer_bytes {h} {rows} {l} w wide is = rw wide record { wide = refl; bytes = is.bytes ∙ lanes_long (width h) rows l; symbol_rows = is.symbol_rows }
