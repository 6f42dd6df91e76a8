-- The text of the plain layout of a record's code: the first k nodes hold the message, and all n nodes together hold a word of the same code.
use Rattle.std.specs.Prelude.{Ok, Err}
use Rattle.generator.specs.Answers.{Answer}
use Rattle.std.specs.Prelude.{List, [], ◌∷◌, ◌++◌, ℕ, eqb, get_or}
use Rattle.lists.specs.Choice.{pick}
use Rattle.lists.specs.Rows.{from, range, rows_from}
use Rattle.generator.specs.declared.Header.{Header}
use Rattle.generator.specs.Codewords.{encoding}
use Rattle.blocks.specs.Blocks.{recovered_lane}
use Rattle.text.specs.Text.{ascii, line}

-- k symbols: 1 at r, 0 elsewhere
unfoldable pub unit_message : ℕ → ℕ → List ℕ
unit_message k r = from (λ i. pick (eqb i r) 1 0) 0 k

-- row r of the plain generator: the word of the code that has these symbols at the nodes 0 to k − 1
unfoldable pub plain_row : Header → ℕ → List ℕ
plain_row h r = encoding h (recovered_lane h (range 0 h.k) (unit_message h.k r))

-- its entry at node j: what the node multiplies symbol r by
unfoldable pub plain_entry : Header → ℕ → ℕ → ℕ
plain_entry h r j = get_or (plain_row h r) j 0

-- a line of node j: its number and entries
unfoldable pub entries_line : ℕ → List ℕ → List ℕ
entries_line j entries = line (ascii "node") (j ∷ entries)

-- the line of node j, with its entry for each symbol of the message
unfoldable pub node_line : Header → ℕ → List ℕ
node_line h j = entries_line j (from (λ r. plain_entry h r j) 0 h.k)

-- the plain layout of a record: n and k, then a line for each node; or the number that turned the record away
unfoldable pub plain_for : Answer Header → List ℕ
plain_for (Err f) = line (ascii "refused") (f ∷ [])
plain_for (Ok h) = line (ascii "plain") (h.n ∷ h.k ∷ []) ++ rows_from (node_line h) 0 h.n
