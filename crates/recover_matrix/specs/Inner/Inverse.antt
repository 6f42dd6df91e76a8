-- The rows of the inverse of the encoding at listed nodes, and how they come from sums of two matrices.
use Rattle.std.specs.Prelude.{List, ℕ, ◌*◌, ◌≤◌, get_or, drop}
use Rattle.lists.specs.Padded.{padded}
use Rattle.lists.specs.Rows.{rows_from}
use Rattle.layout.specs.Layout.{row_after_row, lane_after_lane, lane_of, buffer}
use Rattle.layout.specs.Width.{symbols_of, bytes_of}
use Rattle.field.specs.Inner.Sums.{dot}
use Rattle.generator.specs.declared.Header.{Header}
use Rattle.generator.specs.Records.{modulus_of, width}
use Rattle.interpolation.specs.Inner.Points.{points_of}
use Rattle.interpolation.specs.Inner.Lagrange.{scales_of}
use Rattle.interpolation.specs.Inner.Polynomials.{product_of, quotient_of}
use Rattle.tile_products.specs.Inner.Products.{groups_of}
use Rattle.block_products.specs.declared.Product.{Product}
use Rattle.block_products.specs.declared.Way.TheVariants.{LanesToRows}
use Rattle.node_weights.specs.Inner.Rows.{row_points, row_terms, weights_of}

-- the nodes' points
abbrev pub node_points : Header → List ℕ → List ℕ
node_points h js = points_of (modulus_of h) h.root 0 js

-- the weights with which the listed nodes give symbol r of the message
unfoldable pub inverse_row : Header → List ℕ → ℕ → List ℕ
inverse_row h js r = weights_of (modulus_of h) (get_or (scales_of (modulus_of h) (row_points h)) r 0) (row_terms h r) (drop 1 (product_of (modulus_of h) (node_points h js))) (node_points h js) (scales_of (modulus_of h) (node_points h js))

-- the same with zeros after them up to so many
unfoldable pub padded_row : Header → List ℕ → ℕ → ℕ → List ℕ
padded_row h js rows r = padded rows (inverse_row h js r)

-- the quotient of the product over all nodes' points by the factor of node i
abbrev pub node_quotient : Header → List ℕ → ℕ → List ℕ
node_quotient h js i = quotient_of (modulus_of h) (get_or (node_points h js) i 0) (drop 1 (product_of (modulus_of h) (node_points h js)))

-- the sums of all rows' terms with all quotients, those of a quotient after the other's
unfoldable pub inverse_sums : Header → List ℕ → List ℕ
inverse_sums h js = buffer row_after_row h.k h.k (λ i r. dot (modulus_of h) (lane_of lane_after_lane h.k h.k r (rows_from (row_terms h) 0 h.k)) (node_quotient h js i))

-- the message of the listed nodes' shares: the product of the inverse and the lanes
abbrev pub inverse_product : Header → List ℕ → ℕ → List ℕ → List ℕ
inverse_product h js l shares = bytes_of (width h) (buffer row_after_row h.k l (λ r t. dot (modulus_of h) (lane_of lane_after_lane h.k l t (symbols_of (width h) shares)) (inverse_row h js r)))

-- room for the lists of a square matrix of that many rows
pub record ListRoom (rows lists counts : ℕ) : Type 0 where
  pub entries : rows * (8 * groups_of rows) ≤ lists
  pub sizes : rows * 8 ≤ counts

-- the bytes of a square matrix of k rows
abbrev pub square_bytes : Header → ℕ
square_bytes h = width h * h.k * h.k

-- k sums of the k symbols of each lane, row after row
abbrev pub row_product : Header → ℕ → Product
row_product h l = record { way = LanesToRows; field = h.field; outputs = h.k; rows = h.k; lanes = l }
