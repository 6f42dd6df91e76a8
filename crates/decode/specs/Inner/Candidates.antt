-- Lanes, the nodes at which a locator vanishes, and the only symbols that may be a word near to a lane.
use Rattle.std.specs.Prelude.{◌≡◌, true, List, ℕ, ◌+◌, ◌≤◌, length, take}
use Rattle.lists.specs.Numbers.{all_below}
use Rattle.lists.specs.Padded.{padded}
use Rattle.generator.specs.declared.Header.{Header}
use Rattle.generator.specs.Records.{modulus_of, size, Sound}
use Rattle.nearest_word.specs.Nearest.{radius, is_near}
use Rattle.decode.specs.Inner.Locating.{Locates}
use Rattle.decode.specs.Inner.Errors.{roots_of}

-- n symbols of the field of a sound header
pub record SoundLane (h : Header) (ws : List ℕ) : Type 0 where
  pub sound : Sound h
  pub long : length ws ≡ h.n
  pub below : all_below (size h) ws ≡ true

-- of at most 255 nodes those at which a locator of the check sums vanishes
pub record WrongNodes (h : Header) (sums nodes : List ℕ) : Type 0 where
  pub few : h.n ≤ 255
  pub locator : List ℕ
  pub locates : Locates (modulus_of h) (radius h) sums locator
  pub listed : nodes ≡ roots_of (modulus_of h) h.root h.n (take (radius h + 1) locator)

-- n symbols, and zeros after them, that every word near to ws must be
pub record Candidate (h : Header) (ws array : List ℕ) : Type 0 where
  pub word : List ℕ
  pub array_is : array ≡ padded 255 word
  pub long : length word ≡ h.n
  pub below : all_below (size h) word ≡ true
  pub only : (us : List ℕ) → length us ≡ h.n → all_below (size h) us ≡ true → is_near h ws us ≡ true → us ≡ word
