-- The only symbols that may be a word near to a lane but for the lost nodes, or near to listed symbols.
use Rattle.std.specs.Prelude.{◌≡◌, true, List, ℕ, length}
use Rattle.lists.specs.Numbers.{all_below}
use Rattle.lists.specs.Padded.{padded}
use Rattle.generator.specs.declared.Header.{Header}
use Rattle.generator.specs.Records.{size}
use Rattle.generator.specs.Codewords.{encoding}
use Rattle.generator.specs.Claims.{is_message}
use Rattle.near_message.specs.Nearest.{is_near_message}
use Rattle.near_message.specs.Inner.Lost.{is_near_but}

-- n symbols, and zeros after them, that every word near to ws but for the lost nodes must be
pub record LaneCandidate (h : Header) (lost ws array : List ℕ) : Type 0 where
  pub word : List ℕ
  pub array_is : array ≡ padded 255 word
  pub long : length word ≡ h.n
  pub below : all_below (size h) word ≡ true
  pub only : (us : List ℕ) → length us ≡ h.n → all_below (size h) us ≡ true → is_near_but h lost ws us ≡ true → us ≡ word

-- n symbols, and zeros after them, that the encoding of every message near to the listed symbols must be
pub record ListedCandidate (h : Header) (nodes ys array : List ℕ) : Type 0 where
  pub word : List ℕ
  pub array_is : array ≡ padded 255 word
  pub long : length word ≡ h.n
  pub below : all_below (size h) word ≡ true
  pub only : (ms : List ℕ) → is_message h ms ≡ true → is_near_message h nodes ys ms ≡ true → encoding h ms ≡ word
