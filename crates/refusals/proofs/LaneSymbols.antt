-- The symbols of one lane as they are read into an array of 255.
use mathlib.Core.Path.{◌≡◌, ap, ◌∙◌}
use mathlib.Core.List.{List}
use Prim.Native.Nat.{ℕ, ◌*◌, ◌≤◌}
use native.Mathlib.Nat.{mul-le-mul_right}
use lib.ListN.{take}
use Rattle.lists.specs.Padded.{padded}
use Rattle.lists.proofs.Padding.{take_padded}
use Rattle.layout.specs.Width.{symbols_of}
use Rattle.generator.specs.declared.Header.{Header}
use Rattle.generator.specs.Records.{width}
use Rattle.refusals.specs.Accepted.{IsLane}

-- the bytes of at most 255 symbols
pub few_bytes : (n w l : ℕ) → n ≤ 255 → l ≡ n * w → l ≤ 255 * w
few_bytes n w l few e = rw e (mul-le-mul_right w few)

-- the part of n symbols
pub lane_part : (h : Header) (us : List ℕ) → IsLane h us → take h.n (padded 255 us) ≡ us
lane_part h us lane = take_padded 255 h.n us lane.long

pub lane_read : (h : Header) (s array : List ℕ) (w : ℕ) → IsLane h (symbols_of (width h) s) → w ≡ width h → array ≡ padded 255 (symbols_of w s) → take h.n array ≡ symbols_of (width h) s
lane_read h s array w lane is read =
    ap (take h.n) (read ∙ ap (λ (v : ℕ). padded 255 (symbols_of v s)) is) ∙ lane_part h (symbols_of (width h) s) lane
