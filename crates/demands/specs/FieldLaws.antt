-- The laws of a field, of its symbols as numbers: the same for every kind, and what everything above the fields rests on.
use Rattle.std.specs.Prelude.{◌≡◌, ℕ, ◌<◌}
use Rattle.field.specs.Fields.{size_of, add, sub, mul, inverse}

-- of the field that p names
pub record FieldLaws (p : ℕ) : Type 0 where
  -- 0 and 1 are two symbols, and what comes of symbols is one
  pub one_below : 1 < size_of p
  pub add_below : (a b : ℕ) → a < size_of p → b < size_of p → add p a b < size_of p
  pub sub_below : (a b : ℕ) → a < size_of p → b < size_of p → sub p a b < size_of p
  pub mul_below : (a b : ℕ) → a < size_of p → b < size_of p → mul p a b < size_of p
  pub inverse_below : (a : ℕ) → a < size_of p → inverse p a < size_of p
  -- sums
  pub add_assoc : (a b c : ℕ) → a < size_of p → b < size_of p → c < size_of p → add p (add p a b) c ≡ add p a (add p b c)
  pub add_comm : (a b : ℕ) → a < size_of p → b < size_of p → add p a b ≡ add p b a
  pub add_zero : (a : ℕ) → a < size_of p → add p a 0 ≡ a
  pub sub_add : (a b : ℕ) → a < size_of p → b < size_of p → add p (sub p a b) b ≡ a
  -- products
  pub mul_assoc : (a b c : ℕ) → a < size_of p → b < size_of p → c < size_of p → mul p (mul p a b) c ≡ mul p a (mul p b c)
  pub mul_comm : (a b : ℕ) → a < size_of p → b < size_of p → mul p a b ≡ mul p b a
  pub mul_one : (a : ℕ) → a < size_of p → mul p a 1 ≡ a
  pub mul_add : (a b c : ℕ) → a < size_of p → b < size_of p → c < size_of p → mul p a (add p b c) ≡ add p (mul p a b) (mul p a c)
  pub mul_inverse : (a : ℕ) → 0 < a → a < size_of p → mul p a (inverse p a) ≡ 1
