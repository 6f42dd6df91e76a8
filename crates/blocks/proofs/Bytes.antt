-- The count of an update is that of the symbols that differ. Where a symbol has one byte, the symbols are the bytes: what the promises say of bytes is what the definitions of Blocks say, in every arrangement of shares.
use mathlib.Core.Path.{◌≡◌}
use mathlib.Core.List.{List}
use Prim.Native.Nat.{ℕ}
use Rattle.lists.specs.Counting.{differ}
use Rattle.layout.specs.Layout.{Arrangement, rearranged}
use Rattle.layout.specs.Width.{symbols_of}
use Rattle.layout.proofs.Widths.{symbols_bytes}
use Rattle.generator.specs.declared.Header.{Header}
use Rattle.generator.specs.Records.{width}
use Rattle.generator.proofs.Widths.{width_some}
use Rattle.refusals.proofs.OneByte.{symbols_are, bytes_are}
use Rattle.blocks.specs.Blocks.{share_of, shares_of, updated, first_wrong, recovered}
use Rattle.blocks.specs.Bytes.{encoded_bytes, updated_bytes, altered_count, recovered_bytes, rebuilt_bytes, wrong_lane, rearranged_bytes}

-- how many symbols differ in the buffers before and after an update
pub altered_symbols : (h : Header) (y : Arrangement) (l r t old new : ℕ) (shares shares' : List ℕ) → shares' ≡ updated_bytes y h l r t old new shares → altered_count y h l r t old new shares ≡ differ (symbols_of (width h) shares) (symbols_of (width h) shares')
unfolding altered_count updated_bytes
altered_symbols h y l r t old new shares shares' e = rw (e, symbols_bytes (width h) _ (width_some h))

module _ (h : Header) (one : width h ≡ 1) where
  pub encoded_bytes_lem : (y : Arrangement) (l : ℕ) (message : List ℕ) → encoded_bytes y h l message ≡ shares_of y h l message
  unfolding encoded_bytes
  encoded_bytes_lem y l message = rw (symbols_are h one message) (bytes_are h one _)

  pub updated_bytes_lem : (y : Arrangement) (l r t old new : ℕ) (shares : List ℕ) → updated_bytes y h l r t old new shares ≡ updated y h l r t old new shares
  unfolding updated_bytes
  updated_bytes_lem y l r t old new shares = rw (symbols_are h one shares) (bytes_are h one _)

  pub altered_count_lem : (y : Arrangement) (l r t old new : ℕ) (shares : List ℕ) → altered_count y h l r t old new shares ≡ differ shares (updated y h l r t old new shares)
  unfolding altered_count
  altered_count_lem y l r t old new shares = rw (symbols_are h one shares)

  pub recovered_bytes_lem : (y : Arrangement) (l : ℕ) (nodes shares : List ℕ) → recovered_bytes y h l nodes shares ≡ recovered y h l nodes shares
  unfolding recovered_bytes
  recovered_bytes_lem y l nodes shares = rw (symbols_are h one shares) (bytes_are h one _)

  pub rebuilt_bytes_lem : (y : Arrangement) (l : ℕ) (nodes shares : List ℕ) (target : ℕ) → rebuilt_bytes y h l nodes shares target ≡ share_of h l (recovered y h l nodes shares) target
  unfolding rebuilt_bytes
  rebuilt_bytes_lem y l nodes shares target = rw (symbols_are h one shares) (bytes_are h one _)

  pub wrong_lane_lem : (y : Arrangement) (l : ℕ) (shares : List ℕ) → wrong_lane y h l shares ≡ first_wrong y h l shares
  unfolding wrong_lane
  wrong_lane_lem y l shares = rw (symbols_are h one shares)

  pub rearranged_bytes_lem : (y z : Arrangement) (rows l : ℕ) (s : List ℕ) → rearranged_bytes y z h rows l s ≡ rearranged y z rows l s
  unfolding rearranged_bytes
  rearranged_bytes_lem y z rows l s = rw (symbols_are h one s) (bytes_are h one _)
