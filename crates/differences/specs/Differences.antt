-- What each node has to add where one row of a message changes, over symbols and as bytes.
use Rattle.std.specs.Prelude.{List, ℕ, get_or}
use Rattle.lists.specs.Rows.{from}
use Rattle.layout.specs.Layout.{row_after_row, buffer}
use Rattle.layout.specs.Width.{symbols_of, bytes_of}
use Rattle.field.specs.Fields.{add, sub, mul}
use Rattle.generator.specs.declared.Header.{Header}
use Rattle.generator.specs.Records.{modulus_of, width}
use Rattle.generator.specs.Generator.{entry}

-- node j in lane t, where row r changes from `old` to `new`: (new − old) times entry (r, j)
unfoldable pub difference_at : Header → ℕ → List ℕ → List ℕ → ℕ → ℕ → ℕ
difference_at h r old new j t = mul (modulus_of h) (sub (modulus_of h) (get_or new t 0) (get_or old t 0)) (entry h r j)

-- all nodes, node after node
unfoldable pub difference_bytes : Header → ℕ → ℕ → List ℕ → List ℕ → List ℕ
difference_bytes h l r old new = let w = width h in bytes_of w (buffer row_after_row h.n l (difference_at h r (symbols_of w old) (symbols_of w new)))

-- a node's share with its difference added, symbol by symbol
unfoldable pub added_symbols : Header → ℕ → List ℕ → List ℕ → List ℕ
added_symbols h l difference share = from (λ t. add (modulus_of h) (get_or share t 0) (get_or difference t 0)) 0 l

unfoldable pub added_bytes : Header → ℕ → List ℕ → List ℕ → List ℕ
added_bytes h l difference share = let w = width h in bytes_of w (added_symbols h l (symbols_of w difference) (symbols_of w share))
