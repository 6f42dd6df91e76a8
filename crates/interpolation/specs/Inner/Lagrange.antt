-- Lagrange's basis polynomials of listed points: the one of a point is 1 there and 0 at the others.
use Rattle.std.specs.Prelude.{List, [], ◌∷◌, ℕ, ◌+◌, length, get_or, take, drop}
use Rattle.lists.specs.Rows.{from}
use Rattle.field.specs.Fields.{sub, mul, inverse}

-- the product of (z − x) over the points x
unfoldable pub product_at : ℕ → List ℕ → ℕ → ℕ
product_at p [] z = 1
product_at p (x ∷ xs) z = mul p (sub p z x) (product_at p xs z)

-- the product over the points but number i
unfoldable pub others_at : ℕ → List ℕ → ℕ → ℕ → ℕ
others_at p xs i z = mul p (product_at p (take i xs) z) (product_at p (drop (i + 1) xs) z)

-- 1 over that product at the point number i itself
unfoldable pub scale_at : ℕ → List ℕ → ℕ → ℕ
scale_at p xs i = inverse p (others_at p xs i (get_or xs i 0))

-- the value at z of the basis polynomial of point number i
unfoldable pub basis_at : ℕ → List ℕ → ℕ → ℕ → ℕ
basis_at p xs i z = mul p (scale_at p xs i) (others_at p xs i z)

-- the values at z of all of them
unfoldable pub basis_values : ℕ → List ℕ → ℕ → List ℕ
basis_values p xs z = from (λ i. basis_at p xs i z) 0 (length xs)

-- the scales of all of them
unfoldable pub scales_of : ℕ → List ℕ → List ℕ
scales_of p xs = from (scale_at p xs) 0 (length xs)
