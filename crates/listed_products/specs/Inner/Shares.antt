-- Shares of listed nodes, the message of the first k symbols of a lane, and the products that tell it.
use Rattle.std.specs.Prelude.{◌≡◌, true, List, ℕ, ◌-◌, ◌*◌, ◌≤◌, ◌<◌, length, get_or, take}
use Rattle.lists.specs.Numbers.{all_below, distinct}
use Rattle.layout.specs.Layout.{row_after_row, lane_after_lane, lane_of, buffer}
use Rattle.layout.specs.Width.{symbols_of, bytes_of}
use Rattle.generator.specs.declared.Header.{Header}
use Rattle.generator.specs.Records.{modulus_of, size, width, Sound}
use Rattle.generator.specs.Claims.{at_nodes}
use Rattle.blocks.specs.Blocks.{recovered_lane}
use Rattle.interpolation.specs.Inner.Points.{points_of}
use Rattle.tile_products.specs.Inner.Matrices.{Begun}
use Rattle.block_products.specs.declared.Product.{Product}
use Rattle.block_products.specs.declared.Way.TheVariants.{LanesToRows, LanesToMarks}
use Rattle.recover_matrix.specs.Inner.Inverse.{ListRoom, padded_row}

-- k different nodes or more
pub record ListedNodes (h : Header) (nodes : List ℕ) : Type 0 where
  pub low : all_below h.n nodes ≡ true
  pub different : distinct nodes ≡ true
  pub enough : h.k ≤ length nodes

-- the bytes of their shares
pub record ListedBytes (h : Header) (l : ℕ) (nodes shares : List ℕ) : Type 0 where
  pub few_lanes : l ≤ 4096
  pub bytes : length shares ≡ width h * length nodes * l
  pub symbols : all_below (size h) (symbols_of (width h) shares) ≡ true

-- the message of the first k symbols of a lane
unfoldable pub first_message : Header → List ℕ → List ℕ → List ℕ
first_message h nodes ys = recovered_lane h (take h.k nodes) (take h.k ys)

-- that of each lane of l, as a message buffer
unfoldable pub first_messages : Header → List ℕ → ℕ → List ℕ → List ℕ
first_messages h nodes l s = buffer row_after_row h.k l (λ r t. get_or (first_message h nodes (lane_of lane_after_lane (length nodes) l t s)) r 0)

-- all symbols of a lane are those of that message
abbrev pub Agrees : Header → List ℕ → List ℕ → Type 0
Agrees h nodes ys = ys ≡ at_nodes h (first_message h nodes ys) nodes

-- 0 is put only to lanes that agree
pub record AgreeMarks (h : Header) (l : ℕ) (nodes shares marks : List ℕ) : Type 0 where
  pub long : length marks ≡ l
  pub agrees : (t : ℕ) → t < l → get_or marks t 0 ≡ 0 → Agrees h nodes (lane_of lane_after_lane (length nodes) l t (symbols_of (width h) shares))

-- the points of the listed nodes
abbrev pub listed_points : Header → List ℕ → List ℕ
listed_points h nodes = points_of (modulus_of h) h.root 0 nodes

-- the weights by which all listed nodes give symbol r of that message: 0 past the first k
abbrev pub message_row : Header → List ℕ → ℕ → List ℕ
message_row h nodes = padded_row h (take h.k nodes) (length nodes)

-- these weights have their lists
pub record MessageRows (h : Header) (nodes lists counts : List ℕ) : Type 0 where
  pub begun : Begun (modulus_of h) (length nodes) (message_row h nodes) h.k lists counts
  pub room : ListRoom (length nodes) (length lists) (length counts)

-- the checks of so many lanes of so many nodes, as marks, and their messages, row after row
abbrev pub agree_product : Header → ℕ → ℕ → Product
agree_product h rows l = record { way = LanesToMarks; field = h.field; outputs = rows - h.k; rows = rows; lanes = l }

abbrev pub message_product : Header → ℕ → ℕ → Product
message_product h rows l = record { way = LanesToRows; field = h.field; outputs = h.k; rows = rows; lanes = l }
