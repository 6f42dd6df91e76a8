-- The bytes that a symbol of a field takes in a lent buffer.
use Rattle.std.specs.Prelude.{ℕ, leb}
use Rattle.lists.specs.Choice.{pick}
use Rattle.field.specs.Fields.{size_of}

-- one where the field has at most 256 symbols, else two
unfoldable pub bytes_for : ℕ → ℕ
bytes_for p = pick (leb (size_of p) 256) 1 2
