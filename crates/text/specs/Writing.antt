-- Texts that are put into a buffer.
use Rattle.std.specs.Prelude.{◌≡◌, List, ◌++◌, ℕ, ◌≤◌, length, take, drop}

-- a text stands at the front of a page, and after it what stood there: the page before and after, and the text's length. The last two follow from the others, and are what a caller needs to lend the part of the page that holds the text
abbrev pub OnPage : List ℕ → List ℕ → ℕ → List ℕ → Type 0
OnPage before after size text = (after ≡ text ++ drop size before) × (size ≡ length text) × (size ≤ length after) × (size ≡ length (take size after))
