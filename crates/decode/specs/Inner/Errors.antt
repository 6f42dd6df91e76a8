-- The nodes at which a locator vanishes, the errors there, and a lane without them, on numbers.
use Rattle.std.specs.Prelude.{List, [], ◌∷◌, ℕ, eqb, length, get_or, set, take, drop}
use Rattle.lists.specs.Counting.{passing_from}
use Rattle.lists.specs.Rows.{from}
use Rattle.field.specs.Fields.{sub, mul, power, inverse}
use Rattle.field.specs.Inner.Sums.{dot}
use Rattle.generator.specs.declared.Header.{Header}
use Rattle.generator.specs.Records.{modulus_of}
use Rattle.generator.specs.Codewords.{poly_at}
use Rattle.interpolation.specs.Inner.Points.{points_of}
use Rattle.interpolation.specs.Inner.Lagrange.{scales_of}
use Rattle.interpolation.specs.Inner.Polynomials.{product_of, quotient_of}

-- of n nodes those at whose points the polynomial with the coefficients cs vanishes
unfoldable pub roots_of : ℕ → ℕ → ℕ → List ℕ → List ℕ
roots_of p root n cs = passing_from n 0 (λ j. eqb (poly_at p cs (power p root j)) 0)

-- the error at the point x: cs are the coefficients, but the constant, of the product over all points, and ts as many check sums
unfoldable pub error_of : ℕ → List ℕ → List ℕ → ℕ → ℕ → ℕ
error_of p cs ts x scale = mul p (mul p (dot p ts (quotient_of p x cs)) scale) (inverse p x)

-- the errors at the points xs with their scales ds
unfoldable pub errors_from : ℕ → List ℕ → List ℕ → List ℕ → List ℕ → List ℕ
errors_from p cs ts xs ds = from (λ i. error_of p cs ts (get_or xs i 0) (get_or ds i 0)) 0 (length xs)

unfoldable pub errors_of : ℕ → List ℕ → List ℕ → List ℕ
errors_of p xs ts = errors_from p (drop 1 (product_of p xs)) ts xs (scales_of p xs)

-- the errors at the listed nodes, from as many check sums
abbrev pub errors_at : Header → List ℕ → List ℕ → List ℕ
errors_at h nodes sums = errors_of (modulus_of h) (points_of (modulus_of h) h.root 0 nodes) (take (length nodes) sums)

-- a lane less the errors es at the nodes js
unfoldable pub removed : ℕ → List ℕ → List ℕ → List ℕ → List ℕ
removed p [] es ws = ws
removed p (j ∷ js) [] ws = ws
removed p (j ∷ js) (e ∷ es) ws = removed p js es (set ws j (sub p (get_or ws j 0) e))
