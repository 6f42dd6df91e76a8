-- The field that p names, with the symbols below its size: the one bridge from numbers to the laws of a field.
use mathlib.Core.Path.{◌≡◌, refl, sym, ap}
use mathlib.Core.Bool.{true}
use Prim.Native.Nat.{ℕ, zero, suc, ◌<◌}
use native.Mathlib.Nat.{pos_of_ne-zero, suc-ne-zero}
use Rattle.algebra.specs.Field.{Field}
use Rattle.algebra.specs.Powers.{pow}
use Rattle.field.specs.Fields.{is_field, size_of, add, sub, mul, power, inverse}
use Rattle.field.proofs.Arithmetic.{zero_below, add_neg, sub_is}
use Rattle.field.proofs.BothKinds.{arithmetic}
use Rattle.field.proofs.Inverse.{mul_inverse, inverse_below}
use Rattle.field.specs.Symbols.{Symbol}
use Rattle.field.proofs.Symbols.{symbol, symbol_below, symbol_path, symbol_decide}

module _ (p : ℕ) (v : is_field p ≡ true) where
  abbrev below : (a : Symbol (size_of p)) → a.0 < size_of p
  below a = symbol_below (size_of p) a

  pub size_pos : 0 < size_of p
  size_pos = zero_below (arithmetic p v)

  abbrev pub field_of : Field
  field_of = record {
    Carrier = Symbol (size_of p);
    0f = symbol (size_of p) 0 size_pos;
    1f = symbol (size_of p) 1 (arithmetic p v).one_below;
    add = λ a b. symbol (size_of p) (add p a.0 b.0) ((arithmetic p v).add_below a.0 b.0 (below a) (below b));
    neg = λ a. symbol (size_of p) (sub p 0 a.0) ((arithmetic p v).sub_below 0 a.0 size_pos (below a));
    mul = λ a b. symbol (size_of p) (mul p a.0 b.0) ((arithmetic p v).mul_below a.0 b.0 (below a) (below b));
    inv = λ a. symbol (size_of p) (inverse p a.0) (inverse_below p v (below a));
    decide = symbol_decide (size_of p);
    add_assoc = λ a b c. symbol_path (size_of p) ((arithmetic p v).add_assoc a.0 b.0 c.0 (below a) (below b) (below c));
    add_comm = λ a b. symbol_path (size_of p) ((arithmetic p v).add_comm a.0 b.0 (below a) (below b));
    add-zero = λ a. symbol_path (size_of p) ((arithmetic p v).add-zero a.0 (below a));
    add_neg = λ a. symbol_path (size_of p) (add_neg (arithmetic p v) a.0 (below a));
    mul_assoc = λ a b c. symbol_path (size_of p) ((arithmetic p v).mul_assoc a.0 b.0 c.0 (below a) (below b) (below c));
    mul_comm = λ a b. symbol_path (size_of p) ((arithmetic p v).mul_comm a.0 b.0 (below a) (below b));
    mul-one = λ a. symbol_path (size_of p) ((arithmetic p v).mul-one a.0 (below a));
    mul-add = λ a b c. symbol_path (size_of p) ((arithmetic p v).mul-add a.0 b.0 c.0 (below a) (below b) (below c));
    mul_inv = λ a h. symbol_path (size_of p) (mul_inverse p v a.0 (pos_of_ne-zero (λ e. h (symbol_path (size_of p) e))) (below a));
    one_not_zero = λ e. suc-ne-zero 0 (ap (λ (s : Symbol (size_of p)). s.0) e);
  }

  -- a difference of symbols
  pub number_sub : (a b : Symbol (size_of p)) → (field_of.add a (field_of.neg b)).0 ≡ sub p a.0 b.0
  number_sub a b = sym (sub_is (arithmetic p v) a.0 b.0 (below a) (below b))

  -- a power of a symbol
  pub number_pow : (a : Symbol (size_of p)) (e : ℕ) → (pow field_of a e).0 ≡ power p a.0 e
  unfolding power
  number_pow a zero = refl
  number_pow a (suc e) = ap (mul p a.0) (number_pow a e)
