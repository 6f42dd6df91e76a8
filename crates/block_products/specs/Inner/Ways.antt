-- The products of a matrix and the lanes of a block: where the lanes stand, where the sums are written, and the scratch that it takes.
use Rattle.std.specs.Prelude.{◌≡◌, true, List, ℕ, ◌+◌, ◌*◌, ◌/◌, ◌≤◌, ◌<◌, length, get_or}
use Rattle.lists.specs.Choice.{pick}
use Rattle.lists.specs.Rows.{from}
use Rattle.layout.specs.Layout.{Arrangement, row_after_row, lane_after_lane, lane_of, buffer}
use Rattle.layout.specs.Inner.Filling.{RowsFilled}
use Rattle.layout.specs.Width.{symbols_of, bytes_of}
use Rattle.field.specs.Kinds.{modulus, usable}
use Rattle.field.specs.Inner.Sums.{dot}
use Rattle.field.specs.Widths.{bytes_for}
use Rattle.tile_products.specs.Inner.Products.{groups_of}
use Rattle.tile_products.specs.Inner.Matrices.{Made}
use Rattle.block_products.specs.declared.Way.{Way}
use Rattle.block_products.specs.declared.Way.TheVariants.{RowsToLanes, LanesToRows, LanesToMarks}
use Rattle.block_products.specs.declared.Product.{Product}
use Rattle.block_products.specs.Inner.Marks.{all_zero, zero_marks}

-- how the lanes stand
unfoldable pub side_of : Way → Arrangement
side_of RowsToLanes = row_after_row
side_of LanesToRows = lane_after_lane
side_of LanesToMarks = lane_after_lane

-- the bytes that are written for l lanes of so many sums of w bytes
unfoldable pub out_bytes : Way → ℕ → ℕ → ℕ → ℕ
out_bytes RowsToLanes w outputs l = w * outputs * l
out_bytes LanesToRows w outputs l = w * outputs * l
out_bytes LanesToMarks w outputs l = l

-- what is written, f i t being sum i of lane t: the sums lane after lane, or row after row, or a mark for each lane with a sum that is not 0
unfoldable pub result_bytes : Way → ℕ → ℕ → ℕ → (ℕ → ℕ → ℕ) → List ℕ
result_bytes RowsToLanes w outputs l f = bytes_of w (buffer lane_after_lane outputs l f)
result_bytes LanesToRows w outputs l f = bytes_of w (buffer row_after_row outputs l f)
result_bytes LanesToMarks w outputs l f = zero_marks outputs l f

-- sum i of lane t
abbrev pub lane_sum : Product → ℕ → (ℕ → List ℕ) → List ℕ → ℕ → ℕ → ℕ
lane_sum m w ws source i t = dot (modulus m.field) (lane_of (side_of m.way) m.rows m.lanes t (symbols_of w source)) (ws i)

-- lane q of a tile's rows holds the bytes of the sums of lane first + q
abbrev pub Sums : ℕ → ℕ → ℕ → ℕ → (ℕ → ℕ → ℕ) → List ℕ → Type 0
Sums w outputs first count f words = (q : ℕ) → q < count → lane_of row_after_row (w * outputs) 64 q words ≡ bytes_of w (from (λ i. f i (first + q)) 0 outputs)

-- the first lanes are written
pub record LanesDone (w outputs l : ℕ) (f : ℕ → ℕ → ℕ) (first : ℕ) (out : List ℕ) : Type 0 where
  pub long : length out ≡ w * outputs * l
  pub holds : (t : ℕ) → t < first → lane_of lane_after_lane (w * outputs) l t out ≡ bytes_of w (from (λ i. f i t) 0 outputs)

abbrev pub RowsDone : ℕ → ℕ → ℕ → (ℕ → ℕ → ℕ) → ℕ → List ℕ → Type 0
RowsDone w outputs l f first out = RowsFilled outputs (l * w) (λ i x. get_or (bytes_of w (from (f i) 0 l)) x 0) (λ i. first * w) out

pub record MarksDone (outputs l : ℕ) (f : ℕ → ℕ → ℕ) (first : ℕ) (out : List ℕ) : Type 0 where
  pub long : length out ≡ l
  pub holds : (t : ℕ) → t < first → get_or out t 0 ≡ pick (all_zero outputs (λ i. f i t)) 0 1

unfoldable pub Done : Way → ℕ → ℕ → ℕ → (ℕ → ℕ → ℕ) → ℕ → List ℕ → Type 0
Done RowsToLanes w outputs l f first out = LanesDone w outputs l f first out
Done LanesToRows w outputs l f first out = RowsDone w outputs l f first out
Done LanesToMarks w outputs l f first out = MarksDone outputs l f first out

-- a symbol has w bytes, all outputs have their lists, and the buffers are as long as the lanes
pub record Ready (m : Product) (w : ℕ) (lists counts source : List ℕ) (out : ℕ) : Type 0 where
  pub usable_field : usable m.field ≡ true
  pub wide : w ≡ bytes_for (modulus m.field)
  pub few : m.rows ≤ 255
  pub few_lanes : m.lanes ≤ 4096
  pub made : Made (modulus m.field) m.rows m.outputs lists counts
  pub source_long : length source ≡ w * m.rows * m.lanes
  pub out_long : out ≡ out_bytes m.way w m.outputs m.lanes

-- scratch for the rows of a tile, for its table or its blocks, and for the rows of the product
pub record Room (w outputs rows tile table words : ℕ) : Type 0 where
  pub lanes : (w * rows + 15) / 16 * 1024 ≤ tile
  pub sums : groups_of rows * 1024 ≤ table
  pub blocks : (w * outputs + 15) / 16 * 1024 ≤ table
  pub products : (w * outputs + 15) / 16 * 1024 ≤ words
