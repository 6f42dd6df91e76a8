-- Both kinds of field meet the laws.
use mathlib.Core.Path.{◌≡◌, ap, ◌∙◌}
use mathlib.Core.Bool.{Bool, true, false, ◌||◌}
use Prim.Native.Nat.{ℕ, ◌+◌, ◌-◌, ◌*◌, ◌%◌, ◌<◌}
use native.Mathlib.Omega.{arith}
use native.Mathlib.Nat as N
use lib.Dec.{eqb}
use lib.Bits.{bit_xor, xor_lt, xor_comm, xor_zero_r, xor_assoc}
use Rattle.lists.specs.Choice.{pick}
use Rattle.field.specs.Primes.{is_prime}
use Rattle.field.specs.Bytes.{product}
use Rattle.field.specs.Fields.{is_field, size_of, add, sub, mul}
use Rattle.field.proofs.Modular.{mul_mod_mod, mod_mul_mod, mul_one_mod}
use Rattle.field.proofs.Primes.{two≤prime}
use Rattle.field.proofs.PrimeInverse.{prime_invertible}
use Rattle.field.proofs.Xor.{xor_cancel}
use Rattle.field.proofs.Product.{product_byte, product_right, product_one, product_comm, product_assoc}
use Rattle.field.proofs.ByteInverse.{squares, squares_byte, product_squares}
use Rattle.field.proofs.Arithmetic.{Arithmetic}

-- arithmetic modulo a prime
pub prime_arithmetic : (p : ℕ) → is_prime p ≡ true → Arithmetic p (λ a b. (a + b) % p) (λ a b. (a + (p - b)) % p) (λ a b. a * b % p)
prime_arithmetic p prime =
    let two : 1 < p = two≤prime p prime in
    let pos : 0 < p = omega arith in
    record {
      one_below = two;
      add_below = λ a b ha hb. N.mod-lt (a + b) pos;
      sub_below = λ a b ha hb. N.mod-lt (a + (p - b)) pos;
      mul_below = λ a b ha hb. N.mod-lt (a * b) pos;
      add_assoc = λ a b c ha hb hc. simp (N.mod-add-mod, N.add-mod-mod, N.add_assoc);
      add_comm = λ a b ha hb. ap (λ (x : ℕ). x % p) (N.add_comm a b);
      add-zero = λ a ha. rw (N.add-zero a) (N.mod-eq_of_lt ha);
      sub_add = λ a b ha hb. let e : a + (p - b) + b ≡ a + p = omega arith in N.mod-add-mod (a + (p - b)) p b ∙ ap (λ (x : ℕ). x % p) e ∙ N.add-mod_right a p ∙ N.mod-eq_of_lt ha;
      mul_assoc = λ a b c ha hb hc. simp (mod_mul_mod, mul_mod_mod, N.mul_assoc);
      mul_comm = λ a b ha hb. ap (λ (x : ℕ). x % p) (N.mul_comm a b);
      mul-one = λ a ha. mul_one_mod ha;
      mul-add = λ a b c ha hb hc. simp (mul_mod_mod, N.mul-add, N.mod-add-mod, N.add-mod-mod);
      invertible = prime_invertible p prime;
    }

-- bytes
pub byte_arithmetic : Arithmetic 256 bit_xor bit_xor product
byte_arithmetic =
    record {
      one_below = omega arith;
      add_below = xor_lt 8;
      sub_below = xor_lt 8;
      mul_below = λ a b ha hb. product_byte a b ha;
      add_assoc = λ a b c ha hb hc. xor_assoc a b c;
      add_comm = λ a b ha hb. xor_comm a b;
      add-zero = λ a ha. xor_zero_r a;
      sub_add = λ a b ha hb. xor_cancel a b;
      mul_assoc = λ a b c ha hb hc. product_assoc a b c ha hb;
      mul_comm = product_comm;
      mul-one = product_one;
      mul-add = λ a b c ha hb hc. product_right a b c hb hc;
      invertible = λ a pos ha. (squares 7 a, squares_byte 7 a ha, product_squares a pos ha);
    }

-- the field that p names
pub arithmetic : (p : ℕ) → is_field p ≡ true → Arithmetic (size_of p) (add p) (sub p) (mul p)
unfolding is_field size_of add sub mul
arithmetic p v = kind (eqb p 0) v
  where
    kind : (b : Bool) → (b || is_prime p) ≡ true → Arithmetic (pick b 256 p) (λ x y. pick b (bit_xor x y) ((x + y) % p)) (λ x y. pick b (bit_xor x y) ((x + (p - y)) % p)) (λ x y. pick b (product x y) (x * y % p))
    kind true h = byte_arithmetic
    kind false h = prime_arithmetic p h
