-- The tables of the field of 256 elements: the sentences, proved.
use mathlib.Core.Path.{◌≡◌, sym, ap, ◌∙◌}
use Prim.Native.Nat.{ℕ, ◌-◌, ◌<◌}
use native.Mathlib.Omega.{arith}
use lib.ListN.{get_or}
use Rattle.field.specs.declared.tables.Tables as table_type
use Rattle.field.specs.Fields.{power, inverse}
use Rattle.field.specs.Tables.{logarithms_in, AreTables, table_inverse}
use Rattle.field.proofs.TableLaws.{power_at, reduced_at, log_inverse, table_product_lem, table_inverse_lem}
use Rattle.demands.specs.Tables.{Tables}

logarithms : (ts : table_type.Tables) → AreTables ts → (a e : ℕ) → e < 255 → power 0 2 e ≡ a → get_or (logarithms_in ts) (a - 1) 0 ≡ e
logarithms ts t a e low is = ap (λ (x : ℕ). get_or (logarithms_in ts) (x - 1) 0) (sym is ∙ sym (power_at ts e low)) ∙ t.logarithm e low

inverse_is : (ts : table_type.Tables) → AreTables ts → (a : ℕ) → 0 < a → a < 256 → table_inverse ts a ≡ inverse 0 a
unfolding table_inverse
inverse_is ts t a some low = reduced_at ts _ (omega arith) ∙ log_inverse ts a some low

pub tables : Tables
tables =
    record {
      powers = λ ts t. power_at ts;
      logarithms = logarithms;
      products = λ ts t. table_product_lem ts;
      inverses = λ ts t. table_inverse_lem ts;
      inverse_is = inverse_is;
    }
