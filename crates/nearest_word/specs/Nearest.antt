-- The word of the code nearest to a lane: the one that differs from it at no more than the whole part of (n − k)/2 nodes.
use Rattle.std.specs.Prelude.{Bool, ◌&&◌, List, ℕ, ◌-◌, ◌/◌, leb}
use Rattle.lists.specs.Choice.{pick}
use Rattle.lists.specs.Counting.{differ}
use Rattle.lists.specs.AllLists.{any_list, first_list}
use Rattle.generator.specs.declared.Header.{Header}
use Rattle.generator.specs.Records.{size}
use Rattle.generator.specs.Codewords.{is_word}

-- the decoding radius: the number of wrong symbols in a lane that are set right
unfoldable pub radius : Header → ℕ
radius h = (h.n - h.k) / 2

-- us is a word of the code that near to ws
unfoldable pub is_near : Header → List ℕ → List ℕ → Bool
is_near h ws us = is_word h us && leb (differ ws us) (radius h)

-- some n symbols are a word that near
unfoldable pub has_near : Header → List ℕ → Bool
has_near h ws = any_list (size h) h.n (is_near h ws)

-- the word that near, where there is one
unfoldable pub nearest : Header → List ℕ → List ℕ
nearest h ws = first_list (size h) h.n (is_near h ws)

-- a lane set right: the word that near, or the lane as it was where there is none
unfoldable pub corrected : Header → List ℕ → List ℕ
corrected h ws = pick (has_near h ws) (nearest h ws) ws
