-- An update that no number turns away: the row is added, and the count is of the symbols that differ.
use Rattle.std.specs.Prelude.{Ok}
use mathlib.Core.Path.{◌≡◌}
use mathlib.Core.List.{List}
use Prim.Native.Nat.{ℕ}
use Rattle.lists.specs.Counting.{differ}
use Rattle.layout.specs.Layout.{share_layout}
use Rattle.layout.specs.Width.{symbols_of, bytes_of}
use Rattle.generator.specs.declared.Header.{Header}
use Rattle.generator.specs.Records.{width}
use Rattle.blocks.specs.Blocks.{updated}
use Rattle.blocks.specs.Bytes.{updated_bytes, altered_count}
use Rattle.generator.specs.Answers.{answer_of}
use Rattle.update.specs.Promise.{UpdatePromise}

pub altered_says : (h : Header) (l r t old new : ℕ) (s s' : List ℕ) (f count : ℕ) → f ≡ 0 → s' ≡ bytes_of (width h) (updated share_layout h l r t old new (symbols_of (width h) s)) → count ≡ differ (symbols_of (width h) s) (updated share_layout h l r t old new (symbols_of (width h) s)) → UpdatePromise share_layout l r t old new s s' (Ok count) h f
unfolding answer_of updated_bytes altered_count
altered_says h l r t old new s s' f count none done counted = record { answered = rw (none, counted); written = rw (none, done) }
