-- The shares as bytes, lane after lane.
use mathlib.Core.Path.{◌≡◌}
use mathlib.Core.List.{List}
use Prim.Native.Nat.{ℕ}
use Rattle.layout.specs.Layout.{lane_after_lane, share_layout}
use Rattle.layout.specs.Width.{symbols_of, bytes_of}
use Rattle.layout.proofs.Places.{share_by_lane}
use Rattle.generator.specs.declared.Header.{Header}
use Rattle.generator.specs.Records.{width}
use Rattle.blocks.specs.Blocks.{shares_of}
use Rattle.blocks.specs.Bytes.{encoded_bytes}

pub encoded_lanes : (h : Header) (l : ℕ) (m shared : List ℕ) → m ≡ symbols_of (width h) shared → encoded_bytes share_layout h l shared ≡ bytes_of (width h) (shares_of lane_after_lane h l m)
unfolding encoded_bytes
encoded_lanes h l m shared is = rw (share_by_lane, is)
