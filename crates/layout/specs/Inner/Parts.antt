-- Rows and lanes of a buffer as buffers of their own.
use Rattle.std.specs.Prelude.{List, ℕ, ◌+◌}
use Rattle.lists.specs.Rows.{from}
use Rattle.layout.specs.Layout.{Arrangement, buffer, held}

-- row i of a buffer
unfoldable pub row_of : Arrangement → ℕ → ℕ → ℕ → List ℕ → List ℕ
row_of y rows l i s = from (held y rows l s i) 0 l

-- the c lanes from lane t on of a buffer arranged as y, as a buffer of c lanes arranged as z
unfoldable pub some_lanes : Arrangement → Arrangement → ℕ → ℕ → ℕ → ℕ → List ℕ → List ℕ
some_lanes y z rows l t c s = buffer z rows c (λ i q. held y rows l s i (t + q))
