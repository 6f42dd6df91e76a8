-- The check sums of one lane, and the powers of the root that they use.
use Rattle.std.specs.Prelude.{List, ℕ, ◌-◌, ◌*◌, ◌%◌, get_or}
use Rattle.lists.specs.Rows.{from, rows_from}
use Rattle.layout.specs.Width.{symbol_bytes}
use Rattle.layout.specs.Inner.Tiles.{tile_bytes}
use Rattle.field.specs.Fields.{power}
use Rattle.generator.specs.declared.Header.{Header}
use Rattle.generator.specs.Records.{modulus_of, width}
use Rattle.generator.specs.Codewords.{check_from}

-- the n − k check sums of a lane, from number 1 on
unfoldable pub check_sums : Header → List ℕ → List ℕ
check_sums h ws = from (λ e. check_from h e 0 ws) 1 (h.n - h.k)

-- the factors of node j's symbol in check sums 1, 2, ..
unfoldable pub power_row : Header → ℕ → ℕ → List ℕ
power_row h checks j = from (λ e. power (modulus_of h) h.root (j * e % h.n)) 1 checks

-- byte v of each of these, as symbols of w bytes
unfoldable pub power_bytes : Header → ℕ → ℕ → ℕ → ℕ → List ℕ
power_bytes h checks w v j = from (λ e. get_or (symbol_bytes w (power (modulus_of h) h.root (j * e % h.n))) v 0) 1 checks

-- the factors of all nodes in the n − k check sums, as a tile
unfoldable pub power_rows : Header → List ℕ
power_rows h = tile_bytes (width h) h.n (h.n - h.k) (rows_from (power_row h (h.n - h.k)) 0 h.n)
