-- A field: the laws that everything above the two kinds of field rests on, with decidable equality.
use Rattle.std.specs.Prelude.{◌≡◌}

pub record Field : Type 1 where
  pub Carrier : Type 0
  pub 0f : Carrier
  pub 1f : Carrier
  pub add : Carrier → Carrier → Carrier
  pub neg : Carrier → Carrier
  pub mul : Carrier → Carrier → Carrier
  pub inv : Carrier → Carrier
  pub decide : (a b : Carrier) → Dec (a ≡ b)
  pub add_assoc : (a b c : Carrier) → add (add a b) c ≡ add a (add b c)
  pub add_comm : (a b : Carrier) → add a b ≡ add b a
  pub add-zero : (a : Carrier) → add a 0f ≡ a
  pub add_neg : (a : Carrier) → add a (neg a) ≡ 0f
  pub mul_assoc : (a b c : Carrier) → mul (mul a b) c ≡ mul a (mul b c)
  pub mul_comm : (a b : Carrier) → mul a b ≡ mul b a
  pub mul-one : (a : Carrier) → mul a 1f ≡ a
  pub mul-add : (a b c : Carrier) → mul a (add b c) ≡ add (mul a b) (mul a c)
  pub mul_inv : (a : Carrier) → (a ≡ 0f → ⊥) → mul a (inv a) ≡ 1f
  pub one_not_zero : 1f ≡ 0f → ⊥
