-- A symbol of a word's message, from the word's sums.
use Rattle.std.specs.Prelude.{List, ℕ, zero, suc, ◌-◌, get_or}
use Rattle.lists.specs.Rows.{from}
use Rattle.field.specs.Fields.{add, mul, inverse}
use Rattle.field.specs.Inner.Sums.{dot}
use Rattle.generator.specs.declared.Header.{Header}
use Rattle.generator.specs.Records.{modulus_of}
use Rattle.generator.specs.Shifts.{negative}
use Rattle.generator.specs.Codewords.{check_from}
use Rattle.interpolation.specs.Inner.Lagrange.{scale_at}
use Rattle.node_weights.specs.Inner.Rows.{row_points, row_terms}

-- n as a symbol: n ones added up
unfoldable pub ones_of : ℕ → ℕ → ℕ
ones_of p zero = 0
ones_of p (suc n) = add p 1 (ones_of p n)

-- check sums n, n − 1, .., n − k + 1: each is n times a coefficient of the word's polynomial
unfoldable pub coefficient_sums : Header → List ℕ → List ℕ
coefficient_sums h ws = from (λ c. check_from h (h.n - c) 0 ws) 0 h.k

-- the same, read from the spectrum
unfoldable pub coefficients_of : Header → List ℕ → List ℕ
coefficients_of h spectrum = from (λ c. get_or spectrum (negative h.n c) 0) 0 h.k

-- symbol r: the sum of these times the row's terms, over n, times the row's scale
unfoldable pub symbol_from : Header → ℕ → List ℕ → ℕ
symbol_from h r sums =
    let p = modulus_of h in
    mul p (scale_at p (row_points h) r) (mul p (inverse p (ones_of p h.n)) (dot p (row_terms h r) sums))
