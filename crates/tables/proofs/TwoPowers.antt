-- The powers of 2 in the field of 256 elements are bytes, and each next one is x times the one before.
use mathlib.Core.Path.{◌≡◌, sym, ap, ◌∙◌}
use mathlib.Core.List.{List}
use Prim.Native.Nat.{ℕ, ◌+◌, ◌<◌}
use native.Mathlib.Numerals.{add-one}
use native.Mathlib.Omega.{arith}
use Rattle.field.specs.Bytes.{times_x}
use Rattle.field.specs.Fields.{size_of, mul, power}
use Rattle.tables.specs.Tables.{number_line}
use Rattle.field.proofs.BothKinds.{arithmetic}
use Rattle.field.proofs.Bounds.{power_below}
use Rattle.field.proofs.Meanings.{byte_field}
use Rattle.field.proofs.Product.{product_two}

pub power_byte : (e : ℕ) → power 0 2 e < 256
unfolding size_of
power_byte e = power_below 0 byte_field e (omega arith)

pub next_power : (e : ℕ) → times_x (power 0 2 e) ≡ power 0 2 (e + 1)
unfolding size_of mul power
next_power e =
    sym (ap (power 0 2) (add-one e) ∙ (arithmetic 0 byte_field).mul_comm 2 (power 0 2 e) (omega arith) (power_byte e) ∙ product_two (power 0 2 e) (power_byte e))

-- the line of a power
abbrev pub power_line : ℕ → List ℕ
power_line e = number_line (power 0 2 e)
