-- A block with every lane set right, over symbols and in every arrangement y of shares; and in the bytes of lent buffers.
use Rattle.std.specs.Prelude.{Bool, not, List, ℕ, eqb, get_or}
use Rattle.lists.specs.Counting.{differ}
use Rattle.lists.specs.Search.{first_false}
use Rattle.layout.specs.Layout.{Arrangement, lane_of, buffer}
use Rattle.layout.specs.Width.{symbols_of, bytes_of}
use Rattle.generator.specs.declared.Header.{Header}
use Rattle.generator.specs.Records.{width}
use Rattle.nearest_word.specs.Nearest.{has_near, corrected}

-- each lane as the word nearest to it
unfoldable pub corrected_shares : Arrangement → Header → ℕ → List ℕ → List ℕ
corrected_shares y h l s = buffer y h.n l (λ j t. get_or (corrected h (lane_of y h.n l t s)) j 0)

-- the smallest lane that no word is near enough to, or l where each has one
unfoldable pub first_far : Arrangement → Header → ℕ → List ℕ → ℕ
first_far y h l s = first_false l 0 (λ t. has_near h (lane_of y h.n l t s))

-- the shares set right, and how many symbols differ then
unfoldable pub corrected_bytes : Arrangement → Header → ℕ → List ℕ → List ℕ
corrected_bytes y h l shares = bytes_of (width h) (corrected_shares y h l (symbols_of (width h) shares))

unfoldable pub corrected_count : Arrangement → Header → ℕ → List ℕ → ℕ
corrected_count y h l shares = let s = symbols_of (width h) shares in differ s (corrected_shares y h l s)

-- number 14: some lane has no word that near
unfoldable pub far_bad : Arrangement → Header → ℕ → List ℕ → Bool
far_bad y h l shares = not (eqb (first_far y h l (symbols_of (width h) shares)) l)
