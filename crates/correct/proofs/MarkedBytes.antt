-- Shares as bytes, with the marks of all lanes.
use mathlib.Core.Path.{◌≡◌, ap, ◌∙◌}
use mathlib.Core.List.{List}
use Prim.Native.Nat.{ℕ}
use lib.ListN.{length, take}
use Rattle.lists.specs.Padded.{zeros}
use Rattle.layout.specs.Layout.{share_layout}
use Rattle.layout.specs.Width.{symbols_of}
use Rattle.layout.proofs.LaneParts.{lanes_long}
use Rattle.generator.specs.declared.Header.{Header}
use Rattle.generator.specs.Records.{width}
use Rattle.refusals.specs.Accepted.{SymbolBuffer}
use Rattle.wrong_lanes.specs.Inner.Marks.{word_marks}
use Rattle.wrong_lanes.proofs.Marking.{zeros_prefix, length_marks, unmarked_word}
use Rattle.correct.specs.Inner.Marked.{MarkedShares}

-- no lane has a mark before
pub no_marks : (h : Header) (l : ℕ) (shares : List ℕ) → SymbolBuffer h h.n l shares → take l (zeros 4096) ≡ zeros l
no_marks h l shares is = zeros_prefix 4096 l is.symbol_rows.few_lanes

pub marked_shares : (h : Header) (l : ℕ) (marks shares : List ℕ) → SymbolBuffer h h.n l shares → marks ≡ word_marks share_layout h l (symbols_of (width h) shares) → MarkedShares h l marks shares
marked_shares h l marks shares is m =
    record {
      sound = is.symbol_rows.sound;
      few_lanes = is.symbol_rows.few_lanes;
      bytes = is.bytes ∙ lanes_long (width h) h.n l;
      symbols = is.symbol_rows.symbols;
      marked = ap length m ∙ length_marks share_layout h l (symbols_of (width h) shares);
      words = λ t inside none. unmarked_word share_layout h l (symbols_of (width h) shares) t inside (rw m at none);
    }

-- .. as many as there are marks
pub marked_all : (h : Header) (l : ℕ) (marks shares : List ℕ) → SymbolBuffer h h.n l shares → marks ≡ word_marks share_layout h l (symbols_of (width h) shares) → MarkedShares h (length marks) marks shares
marked_all h l marks shares is m =
    let many : length marks ≡ l = ap length m ∙ length_marks share_layout h l (symbols_of (width h) shares) in
    rw many (marked_shares h l marks shares is m)
