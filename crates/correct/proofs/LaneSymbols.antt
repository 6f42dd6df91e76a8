-- One lane of bytes as symbols: how many bytes it has, and its symbols in an array.
use mathlib.Core.Path.{◌≡◌, sym, ap, ◌∙◌}
use Rattle.std.specs.Prelude.{Option, Some, None, MatchOption, is_some}
use mathlib.Core.Bool.{true, false}
use mathlib.Core.List.{List}
use Prim.Native.Nat.{ℕ, ◌*◌, ◌^◌, ◌≤◌}
use native.Mathlib.Nat.{mul_comm, mul-le-mul, le_refl}
use lib.ListN.{length, take}
use Rattle.lists.specs.Counting.{differ}
use Rattle.lists.specs.Numbers.{all_below}
use Rattle.lists.specs.Padded.{padded}
use Rattle.lists.proofs.Differ.{differ_same}
use Rattle.lists.proofs.Padding.{take_padded}
use Rattle.layout.specs.Width.{symbols_of, bytes_of}
use Rattle.layout.proofs.Readings.{bytes_symbols}
use Rattle.generator.specs.declared.Header.{Header}
use Rattle.generator.specs.Records.{width}
use Rattle.generator.proofs.Widths.{width_some}
use Rattle.symbols.proofs.Fits.{symbols_fit}
use Rattle.nearest_word.specs.Nearest.{has_near, corrected}
use Rattle.nearest_word.proofs.Corrected.{word_near, word_stays, corrected_far, corrected_long, corrected_below}
use Rattle.decode.specs.declared.Corrected.{Corrected}
use Rattle.decode.specs.Inner.Candidates.{SoundLane}
use Rattle.correct.specs.Inner.Marked.{MarkedLane}

-- a lane has at most 255 symbols, which are the first of an array that holds them
pub lane_short : (h : Header) (lane : List ℕ) → length lane ≡ width h * h.n → h.n ≤ 255 → length lane ≤ 255 * width h
lane_short h lane bytes few = rw (bytes, mul_comm (width h) h.n) (mul-le-mul few (le_refl (width h)))

held_front : (h : Header) (ws held : List ℕ) → SoundLane h ws → held ≡ padded 255 ws → take h.n held ≡ ws
held_front h ws held sound is = rw is (take_padded 255 h.n ws sound.long)

pub held_sound : (h : Header) (ws held : List ℕ) → SoundLane h ws → held ≡ padded 255 ws → SoundLane h (take h.n held)
held_sound h ws held sound is = rw (held_front h ws held sound is) sound

pub held_says : (h : Header) (ws held : List ℕ) (found : Option Corrected) → SoundLane h ws → held ≡ padded 255 ws → let s = take h.n held in MatchOption found (has_near h s ≡ false) (λ x. (has_near h s ≡ true) × (x.lane ≡ padded 255 (corrected h s)) × (x.altered ≡ differ s (corrected h s))) → MatchOption found (has_near h ws ≡ false) (λ x. (has_near h ws ≡ true) × (x.lane ≡ padded 255 (corrected h ws)) × (x.altered ≡ differ ws (corrected h ws)))
held_says h ws held found sound is says = rw (held_front h ws held sound is) at says

module _ {h : Header} {mark : ℕ} {lane : List ℕ} (m : MarkedLane h mark lane) where
  abbrev w : ℕ
  w = width h

  abbrev ws : List ℕ
  ws = symbols_of w lane

  -- the nearest word, from an array that holds it
  pub word_front : (word : List ℕ) → word ≡ padded 255 (corrected h ws) → take h.n word ≡ corrected h ws
  word_front word is = rw is (take_padded 255 h.n (corrected h ws) (corrected_long h m.symbols.sound ws m.symbols.long m.symbols.below))

  pub word_fits : all_below (256 ^ w) (corrected h ws) ≡ true
  word_fits = symbols_fit h m.symbols.sound (corrected h ws) (corrected_below h m.symbols.sound ws m.symbols.long m.symbols.below)

  pub word_bytes : length lane ≡ length (corrected h ws) * w
  word_bytes = m.bytes ∙ mul_comm w h.n ∙ ap (λ (x : ℕ). x * w) (sym (corrected_long h m.symbols.sound ws m.symbols.long m.symbols.below))

  -- a lane that is marked 0 is a word: it has one near enough, and stays as it is
  pub marked_near : mark ≡ 0 → has_near h ws ≡ true
  marked_near e = word_near h m.symbols.sound ws m.symbols.long m.symbols.below (m.word e)

  pub marked_stays : mark ≡ 0 → corrected h ws ≡ ws
  marked_stays e = word_stays h m.symbols.sound ws m.symbols.long m.symbols.below (m.word e)

  -- so does a lane that has none
  pub far_stays : has_near h ws ≡ false → corrected h ws ≡ ws
  far_stays far = corrected_far h ws far

  -- where the symbols stay, the bytes do
  module _ (stays : corrected h ws ≡ ws) where
    pub stays_count : differ ws (corrected h ws) ≡ 0
    stays_count = ap (differ ws) stays ∙ differ_same ws

    pub stays_bytes : all_below 256 lane ≡ true → bytes_of w (corrected h ws) ≡ lane
    stays_bytes low = ap (bytes_of w) stays ∙ bytes_symbols w h.n lane (width_some h) (m.bytes ∙ mul_comm w h.n) low

-- whether a decoded lane has a word near enough
pub found_near : (h : Header) (s : List ℕ) (found : Option Corrected) → MatchOption found (has_near h s ≡ false) (λ x. (has_near h s ≡ true) × (x.lane ≡ padded 255 (corrected h s)) × (x.altered ≡ differ s (corrected h s))) → is_some found ≡ has_near h s
found_near h s None far = sym far
found_near h s (Some x) is = sym is.0
