-- The tables of the field of 256 elements: what tables by their rule hold, and what is taken from them. `constant_tables` ensures the rule.
use Rattle.std.specs.Prelude.{◌≡◌, ℕ, ◌-◌, ◌<◌, get_or}
use Rattle.field.specs.declared.tables.Tables as table_type
use Rattle.field.specs.Bytes.{product}
use Rattle.field.specs.Fields.{power, inverse}
use Rattle.field.specs.Tables.{powers_in, logarithms_in, AreTables, table_product, table_inverse}

pub record Tables : Type 0 where
  -- the power of 2 at each exponent, and the exponent of each byte but 0: no other numbers are tables
  pub powers : (ts : table_type.Tables) → AreTables ts → (e : ℕ) → e < 255 → get_or (powers_in ts) e 0 ≡ power 0 2 e
  pub logarithms : (ts : table_type.Tables) → AreTables ts → (a e : ℕ) → e < 255 → power 0 2 e ≡ a → get_or (logarithms_in ts) (a - 1) 0 ≡ e
  -- the table product of every two bytes is the product of polynomials
  pub products : (ts : table_type.Tables) → AreTables ts → (a b : ℕ) → a < 256 → b < 256 → table_product ts a b ≡ product a b
  -- each byte but 0 times its table inverse is 1, and the table inverse is the field's
  pub inverses : (ts : table_type.Tables) → AreTables ts → (a : ℕ) → 0 < a → a < 256 → product a (table_inverse ts a) ≡ 1
  pub inverse_is : (ts : table_type.Tables) → AreTables ts → (a : ℕ) → 0 < a → a < 256 → table_inverse ts a ≡ inverse 0 a
