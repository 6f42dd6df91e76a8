-- A node's share as sums of listed shares times weights: the product of one row and the lanes of a block.
use Rattle.std.specs.Prelude.{List, ℕ}
use Rattle.layout.specs.Layout.{lane_after_lane}
use Rattle.layout.specs.Width.{symbols_of, bytes_of}
use Rattle.generator.specs.declared.Header.{Header}
use Rattle.generator.specs.Records.{modulus_of}
use Rattle.row_sums.specs.Inner.Combined.{combined}
use Rattle.block_products.specs.declared.Product.{Product}
use Rattle.block_products.specs.declared.Way.TheVariants.{LanesToRows}

-- one sum of the k symbols of each lane
abbrev pub share_product : Header → ℕ → Product
share_product h l = record { way = LanesToRows; field = h.field; outputs = 1; rows = h.k; lanes = l }

-- the sums of all lanes, as bytes
abbrev pub sum_bytes : Header → ℕ → ℕ → List ℕ → List ℕ → List ℕ
sum_bytes h w l ws s = bytes_of w (combined lane_after_lane (modulus_of h) h.k l ws (symbols_of w s))
