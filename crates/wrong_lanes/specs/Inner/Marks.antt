-- Marks of lanes.
use Rattle.std.specs.Prelude.{List, ℕ}
use Rattle.lists.specs.Choice.{pick}
use Rattle.lists.specs.Rows.{from}
use Rattle.layout.specs.Layout.{Arrangement, lane_of}
use Rattle.generator.specs.declared.Header.{Header}
use Rattle.generator.specs.Codewords.{is_word}

-- 0 for a lane that is a word of the code, 1 for any other
unfoldable pub word_marks : Arrangement → Header → ℕ → List ℕ → List ℕ
word_marks y h l s = from (λ t. pick (is_word h (lane_of y h.n l t s)) 0 1) 0 l
