-- The sums of terms as the code holds them.
use Rattle.std.specs.Prelude.{ℕ, List, length}
use Rattle.layout.specs.Layout.{row_after_row}
use Rattle.layout.specs.Inner.Tiles.{tile_symbols, tile_bytes}
use Rattle.row_sums.specs.declared.terms.Terms.{Terms}
use Rattle.row_sums.specs.Inner.Combined.{combined, combined_tile, combined_bytes}
use Rattle.row_sums.specs.declared.wide.WideTerms.{WideTerms}
use Rattle.row_sums.specs.Inner.WideSums.{wide_sum}

-- the sum in each lane
abbrev pub terms_combined : ℕ → Terms → List ℕ
terms_combined p terms = combined row_after_row p (length terms.weights.now) terms.lanes terms.weights.now terms.rows.now

-- the sums as rows of a tile
abbrev pub terms_tile : ℕ → Terms → List ℕ
terms_tile p terms = combined_tile p (length terms.weights.now) terms.lanes terms.weights.now terms.rows.now

-- the sums as symbols one after the other
abbrev pub terms_bytes : ℕ → Terms → List ℕ
terms_bytes p terms = combined_bytes p (length terms.weights.now) terms.lanes terms.weights.now terms.rows.now

-- the sum in lane t, of symbols of two bytes
abbrev pub wide_sum_at : WideTerms → ℕ → ℕ
wide_sum_at w t = wide_sum w.p (length w.terms.weights.now) w.terms.lanes w.terms.weights.now w.terms.rows.now t

-- these sums as a row of high and a row of low bytes
abbrev pub wide_sums : WideTerms → List ℕ
wide_sums w = tile_bytes 2 1 w.terms.lanes (combined row_after_row w.p (length w.terms.weights.now) w.terms.lanes w.terms.weights.now (tile_symbols 2 (length w.terms.weights.now) w.terms.lanes w.terms.rows.now))
