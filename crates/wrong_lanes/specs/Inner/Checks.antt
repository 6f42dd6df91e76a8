-- The checks of a lane as a matrix of weights, and as lists for products with it.
use Rattle.std.specs.Prelude.{◌≡◌, true, List, ℕ, ◌+◌, ◌-◌, ◌*◌, ◌≤◌, length, get_or, take, set}
use Rattle.lists.specs.Numbers.{all_below}
use Rattle.lists.specs.Padded.{padded}
use Rattle.field.specs.Fields.{sub}
use Rattle.field.specs.Inner.Sums.{dot}
use Rattle.generator.specs.declared.Header.{Header}
use Rattle.generator.specs.Records.{modulus_of, size}
use Rattle.generator.specs.Codewords.{is_word}
use Rattle.interpolation.specs.Inner.Lagrange.{basis_values}
use Rattle.tile_products.specs.Inner.Products.{groups_of}
use Rattle.tile_products.specs.Inner.Matrices.{Begun}
use Rattle.block_products.specs.declared.Product.{Product}
use Rattle.block_products.specs.declared.Way.TheVariants.{LanesToMarks}
use Rattle.block_products.specs.Inner.Marks.{all_zero}

-- the weights by which the first k of nodes with the points xs give what node number k + i of them holds
abbrev pub other_values : ℕ → ℕ → List ℕ → ℕ → List ℕ
other_values p k xs i = basis_values p (take k xs) (get_or xs (k + i) 0)

-- the weights of check i: those, −1 at node number k + i, and 0 at the others
unfoldable pub check_row : ℕ → ℕ → List ℕ → ℕ → List ℕ
check_row p k xs i = take (length xs) (set (padded 255 (other_values p k xs i)) (k + i) (sub p 0 1))

-- n − k checks have their lists, whose sums are all 0 where the lane is a word
pub record CheckLists (h : Header) (lists counts : List ℕ) : Type 0 where
  pub weights : ℕ → List ℕ
  pub tell : (ws : List ℕ) → length ws ≡ h.n → all_below (size h) ws ≡ true → all_zero (h.n - h.k) (λ i. dot (modulus_of h) ws (weights i)) ≡ is_word h ws
  pub begun : Begun (modulus_of h) h.n weights (h.n - h.k) lists counts

-- room for the lists of the checks of so many rows by the first k
pub record OtherRoom (rows k lists counts : ℕ) : Type 0 where
  pub entries : (rows - k) * (8 * groups_of rows) ≤ lists
  pub sizes : (rows - k) * 8 ≤ counts

abbrev pub CheckRoom : Header → ℕ → ℕ → Type 0
CheckRoom h = OtherRoom h.n h.k

-- the checks of so many lanes, as marks
abbrev pub check_product : Header → ℕ → Product
check_product h l = record { way = LanesToMarks; field = h.field; outputs = h.n - h.k; rows = h.n; lanes = l }
