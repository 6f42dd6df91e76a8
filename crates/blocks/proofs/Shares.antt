-- The shares of a block hold, in each lane, the encoding of that lane's message.
use mathlib.Core.Path.{◌≡◌}
use mathlib.Core.List.{List}
use Prim.Native.Nat.{ℕ, ◌*◌, ◌<◌}
use lib.ListN.{length}
use Rattle.lists.specs.Rows.{rows_from}
use Rattle.lists.proofs.Rows.{length_from}
use Rattle.layout.specs.Layout.{Arrangement, row_after_row, lane_of}
use Rattle.layout.proofs.Lawful.{Lawful}
use Rattle.layout.proofs.Buffers.{length_buffer, lane_buffer}
use Rattle.layout.proofs.Places.{buffer_by_row}
use Rattle.generator.specs.declared.Header.{Header}
use Rattle.generator.specs.Codewords.{encoding}
use Rattle.blocks.specs.Blocks.{share_at, share_of, shares_of}

module _ (h : Header) (l : ℕ) (m : List ℕ) where
  -- a share has a symbol for each lane
  pub length_share : (j : ℕ) → length (share_of h l m j) ≡ l
  unfolding share_of
  length_share j = length_from (share_at h l m j) 0 l

  -- the shares fill a buffer of n·l symbols
  pub length_shares : (y : Arrangement) → length (shares_of y h l m) ≡ h.n * l
  unfolding shares_of
  length_shares y = length_buffer y h.n l (share_at h l m)

  -- in each lane the encoding of the message
  pub lane_encodes : {y : Arrangement} → Lawful y → (t : ℕ) → t < l → lane_of y h.n l t (shares_of y h l m) ≡ encoding h (lane_of row_after_row h.k l t m)
  unfolding shares_of encoding share_at
  lane_encodes a t inside = lane_buffer a h.n l (share_at h l m) t inside

  -- one share after the other
  pub shares_by_row : shares_of row_after_row h l m ≡ rows_from (share_of h l m) 0 h.n
  unfolding shares_of share_of
  shares_by_row = buffer_by_row h.n l (share_at h l m)
