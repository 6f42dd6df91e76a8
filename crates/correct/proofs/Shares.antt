-- A block set right, in every lawful arrangement: its lanes are the words nearest to the lanes, and symbols.
use mathlib.Core.Path.{◌≡◌, ◌∙◌}
use mathlib.Core.Bool.{true}
use mathlib.Core.List.{List}
use Prim.Native.Nat.{ℕ, ◌*◌, ◌<◌}
use native.Mathlib.Omega.{arith}
use lib.ListN.{length, get_or}
use Rattle.lists.specs.Numbers.{all_below}
use Rattle.lists.proofs.Images.{from_self}
use Rattle.lists.proofs.Numbers.{below_at}
use Rattle.layout.specs.Layout.{Arrangement, lane_of}
use Rattle.layout.proofs.Lawful.{Lawful}
use Rattle.layout.proofs.Buffers.{length_lane, length_buffer, lane_buffer, lane_symbols, buffer_below}
use Rattle.generator.specs.declared.Header.{Header}
use Rattle.generator.specs.Records.{size, Sound}
use Rattle.nearest_word.specs.Nearest.{corrected}
use Rattle.nearest_word.proofs.Corrected.{corrected_long, corrected_below}
use Rattle.decode.specs.Inner.Candidates.{SoundLane}
use Rattle.correct.specs.Blocks.{corrected_shares}

module _ {y : Arrangement} (a : Lawful y) (h : Header) (sound : Sound h) (l : ℕ) (s : List ℕ) (long : length s ≡ h.n * l) (below : all_below (size h) s ≡ true) where
  -- a lane is n symbols
  pub is_lane : (t : ℕ) → t < l → SoundLane h (lane_of y h.n l t s)
  is_lane t inside = record { sound = sound; long = length_lane y h.n l t s; below = lane_symbols a h.n l (size h) t s inside long below }

  -- lane t set right
  pub lane_corrected : (t : ℕ) → t < l → lane_of y h.n l t (corrected_shares y h l s) ≡ corrected h (lane_of y h.n l t s)
  unfolding corrected_shares
  lane_corrected t inside =
      let ws = lane_of y h.n l t s in
      let is = is_lane t inside in
      lane_buffer a h.n l (λ j t. get_or (corrected h (lane_of y h.n l t s)) j 0) t inside ∙ from_self (corrected h ws) h.n (corrected_long h sound ws is.long is.below)

  pub length_corrected : length (corrected_shares y h l s) ≡ h.n * l
  unfolding corrected_shares
  length_corrected = length_buffer y h.n l (λ j t. get_or (corrected h (lane_of y h.n l t s)) j 0)

  pub corrected_symbols : all_below (size h) (corrected_shares y h l s) ≡ true
  unfolding corrected_shares
  corrected_symbols =
      buffer_below a h.n l (size h) (λ j t. get_or (corrected h (lane_of y h.n l t s)) j 0)
      (λ j t node inside.
      let ws = lane_of y h.n l t s in
      let is = is_lane t inside in
      below_at (size h) (corrected h ws) (corrected_below h sound ws is.long is.below) j (omega (arith, corrected_long h sound ws is.long is.below)))
