-- The spectrum of a lane: its sums with the powers of the root. It is computed by way of powers whose exponents are T(x) = 0 + 1 + .. + (x − 1), since T(j + e) = T(j) + T(e) + j·e (Bluestein).
use Rattle.std.specs.Prelude.{List, ℕ, zero, suc, ◌+◌, ◌%◌, length, get_or}
use Rattle.lists.specs.Rows.{from}
use Rattle.field.specs.Fields.{mul, power}
use Rattle.generator.specs.declared.Header.{Header}
use Rattle.generator.specs.Records.{modulus_of}
use Rattle.generator.specs.Shifts.{negative}
use Rattle.generator.specs.Codewords.{check_from}

-- the sums of the symbols times root^(j·e), for e below n: check sums 1 to n − k, and n times the coefficients of a word's polynomial
unfoldable pub spectrum_of : Header → List ℕ → List ℕ
spectrum_of h ws = from (λ e. check_from h e 0 ws) 0 h.n

-- T(x)
unfoldable pub triangle : ℕ → ℕ
triangle zero = 0
triangle (suc x) = triangle x + x

-- root^T(x), the exponent modulo n
unfoldable pub chirp_at : Header → ℕ → ℕ
chirp_at h x = power (modulus_of h) h.root (triangle x % h.n)

-- symbol j over root^T(j)
unfoldable pub unchirped_at : Header → List ℕ → ℕ → ℕ
unchirped_at h ws j = mul (modulus_of h) (get_or ws j 0) (power (modulus_of h) h.root (negative h.n (triangle j % h.n)))

unfoldable pub unchirped : Header → List ℕ → List ℕ
unchirped h ws = from (unchirped_at h ws) 0 (length ws)
