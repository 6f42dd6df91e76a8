-- Shares of symbols as bytes, and marks of their lanes.
use Rattle.std.specs.Prelude.{◌≡◌, true, List, ℕ, ◌*◌, ◌≤◌, ◌<◌, length, get_or}
use Rattle.lists.specs.Numbers.{all_below}
use Rattle.layout.specs.Layout.{lane_of, share_layout}
use Rattle.layout.specs.Width.{symbols_of}
use Rattle.generator.specs.declared.Header.{Header}
use Rattle.generator.specs.Records.{size, width, Sound}
use Rattle.generator.specs.Codewords.{is_word}
use Rattle.decode.specs.Inner.Candidates.{SoundLane}

-- the bytes of one lane, and its mark: 0 is put only to a word
pub record MarkedLane (h : Header) (mark : ℕ) (lane : List ℕ) : Type 0 where
  pub bytes : length lane ≡ width h * h.n
  pub symbols : SoundLane h (symbols_of (width h) lane)
  pub word : mark ≡ 0 → is_word h (symbols_of (width h) lane) ≡ true

-- the bytes of n shares, and the marks of their l lanes
pub record MarkedShares (h : Header) (l : ℕ) (marks shares : List ℕ) : Type 0 where
  pub sound : Sound h
  pub few_lanes : l ≤ 4096
  pub bytes : length shares ≡ width h * h.n * l
  pub symbols : all_below (size h) (symbols_of (width h) shares) ≡ true
  pub marked : length marks ≡ l
  pub words : (t : ℕ) → t < l → get_or marks t 0 ≡ 0 → is_word h (lane_of share_layout h.n l t (symbols_of (width h) shares)) ≡ true
