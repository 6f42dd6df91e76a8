-- What the functions behind the call rely on and give.
use Rattle.std.specs.Prelude.{List, ℕ, ◌*◌, ◌≤◌}
use Rattle.lists.specs.Rows.{from}
use Rattle.generator.specs.declared.Header.{Header}
use Rattle.generator.specs.Generator.{entry}
use Rattle.tile_products.specs.Inner.Products.{groups_of}
use Rattle.block_products.specs.declared.Product.{Product}
use Rattle.block_products.specs.declared.Way.TheVariants.{RowsToLanes}
use Rattle.refusals.specs.Inner.Accepted.{SymbolBytes}

-- node j's column of the generator: its entry of each row
unfoldable pub column_of : Header → ℕ → List ℕ
column_of h j = from (λ r. entry h r j) 0 h.k

-- a message of symbols of w bytes
abbrev pub MessageBytes : Header → ℕ → ℕ → List ℕ → Type 0
MessageBytes h w l m = SymbolBytes h w h.k l m

-- room for the lists of all nodes' columns
pub record ColumnRoom (h : Header) (lists counts : ℕ) : Type 0 where
  pub entries : h.n * (8 * groups_of h.k) ≤ lists
  pub sizes : h.n * 8 ≤ counts

-- the product of all nodes' columns and l lanes, lane after lane
abbrev pub column_product : Header → ℕ → Product
column_product h l = record { way = RowsToLanes; field = h.field; outputs = h.n; rows = h.k; lanes = l }
