-- Tables of the field of 256 elements: the powers of 2 and the logarithms; products and inverses taken from them.
use Rattle.std.specs.Prelude.{List, ℕ, zero, suc, ◌+◌, ◌-◌, ◌%◌, get_or}
use Rattle.field.specs.declared.tables.Tables.{Tables}
use Rattle.field.specs.Logarithms.{ArePowersAndLogarithms}

-- the two tables as code lends them
abbrev pub powers_in : Tables → List ℕ
powers_in ts = ts.powers

abbrev pub logarithms_in : Tables → List ℕ
logarithms_in ts = ts.logarithms

-- they are powers and logarithms, which the ghost field of the type says of all
abbrev pub AreTables : Tables → Type 0
AreTables ts = ArePowersAndLogarithms (powers_in ts) (logarithms_in ts)

-- the table product: the exponents add, modulo 255; 0 times a byte is 0
unfoldable pub table_product : Tables → ℕ → ℕ → ℕ
table_product ts zero b = 0
table_product ts (suc a) zero = 0
table_product ts (suc a) (suc b) = get_or (powers_in ts) ((get_or (logarithms_in ts) a 0 + get_or (logarithms_in ts) b 0) % 255) 0

-- the table inverse of a byte but 0: the negative of its exponent, modulo 255
unfoldable pub table_inverse : Tables → ℕ → ℕ
table_inverse ts a = get_or (powers_in ts) ((255 - get_or (logarithms_in ts) (a - 1) 0) % 255) 0
