-- The rows of the inverse of the encoding: what is computed once for a list of nodes, and row r from that.
use Rattle.std.specs.Prelude.{List, ℕ, ◌-◌, length, get_or, drop}
use Rattle.lists.specs.Rows.{from}
use Rattle.lists.specs.Padded.{padded}
use Rattle.field.specs.Fields.{mul}
use Rattle.generator.specs.declared.Header.{Header}
use Rattle.generator.specs.Records.{modulus_of}
use Rattle.generator.specs.Shifts.{shifts}
use Rattle.node_weights.specs.declared.Basis.{Basis}
use Rattle.node_weights.specs.declared.Setup.{Setup}
use Rattle.field.specs.Inner.Sums.{dot}
use Rattle.interpolation.specs.Inner.Points.{points_of}
use Rattle.interpolation.specs.Inner.Lagrange.{scales_of}
use Rattle.interpolation.specs.Inner.Polynomials.{product_of, base_of, quotient_of, termwise, inverses_of}

-- the points, the scales of their basis polynomials, and the product polynomial
unfoldable pub basis_of : ℕ → List ℕ → Basis
basis_of p xs = record { points = padded 255 xs; scales = padded 255 (scales_of p xs); product = padded 256 (product_of p xs) }

-- the points root^(shift + k − 1) of the rows
unfoldable pub row_points : Header → List ℕ
row_points h = points_of (modulus_of h) h.root (h.k - 1) (shifts h)

-- 1 over the coefficients of the base polynomial
unfoldable pub base_inverses : Header → List ℕ
base_inverses h = inverses_of (modulus_of h) (base_of (modulus_of h) h.root (h.k - 1))

-- what is computed once for a list of nodes
unfoldable pub setup_of : Header → List ℕ → Setup
setup_of h js =
    record {
      nodes = basis_of (modulus_of h) (points_of (modulus_of h) h.root 0 js);
      shifts = basis_of (modulus_of h) (row_points h);
      base = padded 255 (base_inverses h);
    }

-- the terms of the row with the point x: the coefficients of the product over the points of the other rows, each over that of the base polynomial
abbrev pub terms_at : Header → ℕ → List ℕ
terms_at h x = termwise (modulus_of h) (quotient_of (modulus_of h) x (drop 1 (product_of (modulus_of h) (row_points h)))) (base_inverses h)

-- those of row r
unfoldable pub row_terms : Header → ℕ → List ℕ
row_terms h r = terms_at h (get_or (row_points h) r 0)

-- the weight of a node in a row: the scales of the row and of the node times the sum of the row's terms times the coefficients of the product over the other nodes' points
unfoldable pub weight_of : ℕ → ℕ → List ℕ → List ℕ → ℕ → ℕ → ℕ
weight_of p scale terms cs x own = mul p (mul p scale own) (dot p terms (quotient_of p x cs))

-- the weights of all nodes, by their points and scales
unfoldable pub weights_of : ℕ → ℕ → List ℕ → List ℕ → List ℕ → List ℕ → List ℕ
weights_of p scale terms cs xs ds = from (λ i. weight_of p scale terms cs (get_or xs i 0) (get_or ds i 0)) 0 (length xs)
