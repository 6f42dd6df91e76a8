-- Buffers that are written in part.
use Rattle.std.specs.Prelude.{◌≡◌, List, ℕ, ◌*◌, ◌<◌, length}
use Rattle.layout.specs.Layout.{row_after_row, held}

-- of a buffer that stands row after row, row i holds f i in its first far i lanes
pub record RowsFilled (rows l : ℕ) (f : ℕ → ℕ → ℕ) (far : ℕ → ℕ) (now : List ℕ) : Type 0 where
  pub long : length now ≡ rows * l
  pub done : (i t : ℕ) → i < rows → t < l → t < far i → held row_after_row rows l now i t ≡ f i t
