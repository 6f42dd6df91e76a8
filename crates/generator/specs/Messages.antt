-- The message of a word of the code.
use Rattle.std.specs.Prelude.{List, ℕ, eqb}
use Rattle.lists.specs.AllLists.{first_list}
use Rattle.lists.specs.Counting.{differ}
use Rattle.generator.specs.declared.Header.{Header}
use Rattle.generator.specs.Records.{size}
use Rattle.generator.specs.Codewords.{encoding}

-- the message whose encoding ws is: of all lists of k symbols the first whose encoding differs from ws nowhere
unfoldable pub message_of : Header → List ℕ → List ℕ
message_of h ws = first_list (size h) h.k (λ ms. eqb (differ ws (encoding h ms)) 0)
