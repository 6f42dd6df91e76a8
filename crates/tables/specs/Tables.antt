-- The text of the tables of the field of 256 elements: the powers of 2 from exponent 0 to 254, then the logarithms of 1 to 255, a number a line.
use Rattle.std.specs.Prelude.{not, List, [], ◌∷◌, ◌++◌, ℕ, eqb}
use Rattle.lists.specs.Rows.{rows_from}
use Rattle.lists.specs.Search.{first_false}
use Rattle.field.specs.Fields.{power}
use Rattle.text.specs.Text.{decimal}

-- the logarithm of a: the first exponent below 255 at which the power of 2 is a, or 255
unfoldable pub logarithm_of : ℕ → ℕ
logarithm_of a = first_false 255 0 (λ e. not (eqb (power 0 2 e) a))

-- a number and a line feed
unfoldable pub number_line : ℕ → List ℕ
number_line x = decimal x ++ (10 ∷ [])

unfoldable pub power_lines : List ℕ
power_lines = rows_from (λ e. number_line (power 0 2 e)) 0 255

unfoldable pub logarithm_lines : List ℕ
logarithm_lines = rows_from (λ a. number_line (logarithm_of a)) 1 255

abbrev pub tables_text : List ℕ
tables_text = power_lines ++ logarithm_lines
