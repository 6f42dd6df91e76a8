-- Every kind of field meets the laws.
use mathlib.Core.Path.{◌≡◌}
use mathlib.Core.Bool.{true}
use Prim.Native.Nat.{ℕ}
use Rattle.field.specs.Fields.{is_field}
use Rattle.field.proofs.BothKinds.{arithmetic}
use Rattle.field.proofs.Inverse.{mul_inverse, inverse_below}
use Rattle.demands.specs.FieldLaws.{FieldLaws}

pub field_laws : (p : ℕ) → is_field p ≡ true → FieldLaws p
field_laws p v =
    let laws = arithmetic p v in
    record {
      one_below = laws.one_below;
      add_below = laws.add_below;
      sub_below = laws.sub_below;
      mul_below = laws.mul_below;
      inverse_below = λ a low. inverse_below p v low;
      add_assoc = laws.add_assoc;
      add_comm = laws.add_comm;
      add_zero = laws.add-zero;
      sub_add = laws.sub_add;
      mul_assoc = laws.mul_assoc;
      mul_comm = laws.mul_comm;
      mul_one = laws.mul-one;
      mul_add = laws.mul-add;
      mul_inverse = mul_inverse p v;
    }
