-- Arithmetic of both kinds of field on the numbers of their symbols. A field is its prime p, or 0 for the field of 256 elements.
use Rattle.std.specs.Prelude.{Bool, ◌||◌, ℕ, zero, suc, ◌+◌, ◌-◌, ◌*◌, ◌%◌, eqb}
use Rattle.std.specs.Int.Bits.{bit_xor}
use Rattle.lists.specs.Choice.{pick}
use Rattle.field.specs.Primes.{is_prime}
use Rattle.field.specs.Bytes.{product}

-- p names a field
unfoldable pub is_field : ℕ → Bool
is_field p = eqb p 0 || is_prime p

-- the number of symbols
unfoldable pub size_of : ℕ → ℕ
size_of p = pick (eqb p 0) 256 p

unfoldable pub add : ℕ → ℕ → ℕ → ℕ
add p a b = pick (eqb p 0) (bit_xor a b) ((a + b) % p)

unfoldable pub sub : ℕ → ℕ → ℕ → ℕ
sub p a b = pick (eqb p 0) (bit_xor a b) ((a + (p - b)) % p)

unfoldable pub mul : ℕ → ℕ → ℕ → ℕ
mul p a b = pick (eqb p 0) (product a b) (a * b % p)

unfoldable pub power : ℕ → ℕ → ℕ → ℕ
power p a zero = 1
power p a (suc e) = mul p a (power p a e)

-- of the `left` numbers from x on, the first whose product with a is 1; 0 where there is none
unfoldable pub inverse_from : ℕ → ℕ → ℕ → ℕ → ℕ
inverse_from zero x p a = 0
inverse_from (suc left) x p a = pick (eqb (mul p a x) 1) x (inverse_from left (x + 1) p a)

-- the symbol whose product with a is 1; 0 for 0
unfoldable pub inverse : ℕ → ℕ → ℕ
inverse p a = inverse_from (size_of p) 0 p a

-- of the `left` exponents from e on, the first whose power of a is 1, x being the power at e; 0 where there is none
unfoldable pub order_from : ℕ → ℕ → ℕ → ℕ → ℕ → ℕ
order_from zero e p a x = 0
order_from (suc left) e p a x = pick (eqb x 1) e (order_from left (e + 1) p a (mul p a x))

-- the order of a, where it is at most 256
unfoldable pub order_of : ℕ → ℕ → ℕ
order_of p a = order_from 256 1 p a a
