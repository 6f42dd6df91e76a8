-- A text put into a buffer.
use Rattle.std.specs.Prelude.{◌≡◌, List, ◌++◌, ℕ, ◌+◌, length, take, drop}

-- a buffer with a text from a place on
unfoldable pub written : List ℕ → ℕ → List ℕ → List ℕ
written s at text = take at s ++ (text ++ drop (length text) (drop at s))

-- a text was put at a place: the buffer before and after, the place and the next one
pub record Puts (before after : List ℕ) (at next : ℕ) (text : List ℕ) : Type 0 where
  pub place : next ≡ at + length text
  pub bytes : after ≡ written before at text
