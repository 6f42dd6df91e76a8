-- The text of a weight distribution: a line for each weight, `w count`.
use Rattle.std.specs.Prelude.{Ok, Err}
use Rattle.generator.specs.Answers.{Answer}
use Rattle.generator.specs.declared.Header.{Header}
use Rattle.std.specs.Prelude.{List, [], ◌∷◌, ℕ, length, get_or}
use Rattle.lists.specs.Choice.{pick}
use Rattle.lists.specs.Rows.{rows_from}
use Rattle.text.specs.Text.{ascii, decimal, line}
use Rattle.weight_counts.specs.Weights.{weight_counts, messages_bad}

-- the line of a weight: itself, and how many messages have it
unfoldable pub count_line : ℕ → ℕ → List ℕ
count_line weight count = line (decimal weight) (count ∷ [])

-- the lines of a list of counts
unfoldable pub count_lines : List ℕ → List ℕ
count_lines counts = rows_from (λ weight. count_line weight (get_or counts weight 0)) 0 (length counts)

-- the lines of a record: its counts, or the number that turns the call away
unfoldable pub weights_for : Answer Header → List ℕ
weights_for (Err f) = line (ascii "refused") (f ∷ [])
weights_for (Ok h) = pick (messages_bad h) (line (ascii "refused") (16 ∷ [])) (count_lines (weight_counts h))
