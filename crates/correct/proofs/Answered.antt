-- What the answer and the shares afterwards say of a block that was set right.
use Rattle.std.specs.Prelude.{Ok}
use mathlib.Core.Path.{◌≡◌, sym, ap, ◌∙◌}
use mathlib.Core.List.{List}
use Prim.Native.Nat.{ℕ}
use Rattle.lists.specs.Counting.{differ}
use Rattle.layout.specs.Layout.{share_layout}
use Rattle.layout.specs.Width.{symbols_of}
use Rattle.layout.proofs.Widths.{symbols_bytes}
use Rattle.generator.specs.declared.Header.{Header}
use Rattle.generator.specs.Records.{header_of, width}
use Rattle.generator.proofs.Widths.{width_some}
use Rattle.generator.proofs.Answered.{done_is, value_is}
use Rattle.refusals.specs.Faults.{fault_of}
use Rattle.correct.specs.Blocks.{corrected_shares, corrected_bytes, corrected_count}
use Rattle.correct.specs.Promise.{correct_fault, CorrectSays}

-- a block that was set right: the symbols afterwards, and the count of those that differ
module _ (rec : List ℕ) (l : ℕ) (shares shares' : List ℕ) (count : ℕ) (says : CorrectSays rec l shares shares' (Ok count)) where
  abbrev h : Header
  h = header_of rec

  no_number : fault_of rec (λ h. correct_fault share_layout h l shares) ≡ 0
  no_number = done_is _ _ says.promise.answered

  pub symbols_written : symbols_of (width h) shares' ≡ corrected_shares share_layout h l (symbols_of (width h) shares)
  unfolding corrected_bytes
  symbols_written = ap (symbols_of (width h)) (rw no_number at says.promise.written) ∙ symbols_bytes (width h) _ (width_some h)

  pub counted : count ≡ differ (symbols_of (width h) shares) (symbols_of (width h) shares')
  unfolding corrected_count
  counted = value_is _ _ says.promise.answered ∙ ap (differ (symbols_of (width h) shares)) (sym symbols_written)
