-- The products of the nodes' columns and the lanes are the shares.
use mathlib.Core.Path.{◌≡◌, refl, sym, ap, ◌∙◌}
use mathlib.Core.Bool.{true}
use mathlib.Core.List.{List, [], append-nil}
use Prim.Native.Nat.{ℕ, ◌+◌, ◌*◌, ◌≤◌}
use native.Mathlib.Omega.{arith}
use lib.ListN.{length}
use Rattle.lists.specs.Rows.{from}
use Rattle.lists.specs.Numbers.{all_below}
use Rattle.lists.proofs.Numbers.{at_below}
use Rattle.lists.proofs.Rows.{length_from, get_or_from}
use Rattle.layout.specs.Layout.{row_after_row, lane_after_lane, lane_of}
use Rattle.layout.specs.Width.{symbols_of, bytes_of}
use Rattle.layout.proofs.Buffers.{length_lane, buffer_ext}
use Rattle.layout.proofs.Lawful.{by_lane}
use Rattle.field.specs.Inner.Sums.{dot}
use Rattle.generator.specs.declared.Header.{Header}
use Rattle.generator.specs.Records.{modulus_of, size, width, Sound}
use Rattle.generator.specs.Generator.{entry}
use Rattle.generator.specs.Codewords.{node_from, node_of}
use Rattle.generator.proofs.Bounds.{entry_below}
use Rattle.blocks.specs.Blocks.{share_at, shares_of}
use Rattle.row_sums.proofs.Columns.{dot_column}
use Rattle.tile_products.specs.Inner.Products.{groups_of}
use Rattle.tile_products.specs.Inner.Matrices.{Begun}
use Rattle.tile_products.proofs.Beginning.{begun_made}
use Rattle.tile_products.proofs.Fitting.{lists_fit}
use Rattle.block_products.specs.declared.Product.{Product}
use Rattle.block_products.specs.declared.Way.TheVariants.{RowsToLanes}
use Rattle.block_products.specs.Inner.Ways.{side_of, out_bytes, result_bytes, lane_sum, Ready}
use Rattle.encode.specs.Inner.Columns.{MessageBytes, ColumnRoom, column_of, column_product}

pub length_column : (h : Header) (j : ℕ) → length (column_of h j) ≡ h.k
unfolding column_of
length_column h j = length_from (λ r. entry h r j) 0 h.k

-- the sum with a node's column is what the node holds
column_sum : (h : Header) (j : ℕ) (ms : List ℕ) → length ms ≤ h.k → dot (modulus_of h) ms (column_of h j) ≡ node_of h ms j
unfolding column_of node_of node_from
column_sum h j ms few =
    ap (dot (modulus_of h) ms) (sym (append-nil (from (λ r. entry h r j) 0 h.k)))
    ∙ dot_column (modulus_of h) (λ r. entry h r j) (λ r ms. node_from r h ms j) (λ r. refl) (λ r m ms. refl) 0 h.k ms [] few

-- so the products of the columns and the lanes are the shares
pub product_shares : (h : Header) (w l : ℕ) (m : List ℕ) (p : Product) → p ≡ column_product h l → result_bytes RowsToLanes w h.n l (lane_sum p w (column_of h) m) ≡ bytes_of w (shares_of lane_after_lane h l (symbols_of w m))
unfolding result_bytes shares_of share_at side_of
product_shares h w l m p e =
    rw e
    (ap (bytes_of w)
    (buffer_ext by_lane h.n l _ _
    (λ j t row lane. column_sum h j (lane_of row_after_row h.k l t (symbols_of w m)) (omega (arith, length_lane row_after_row h.k l t (symbols_of w m))))))

pub column_below : (h : Header) (j : ℕ) → Sound h → all_below (size h) (column_of h j) ≡ true
unfolding column_of
column_below h j sound =
    at_below (size h) (column_of h j)
    (λ r low. rw (get_or_from (λ r. entry h r j) 0 h.k r 0 (omega (arith, length_column h j))) (entry_below h sound (0 + r) j))

-- the lists of all columns fit scratch for so many nodes, and groups of four for as many rows
pub list_room : (h : Header) (groups most : ℕ) → Sound h → h.n ≤ most → most ≤ 4 * groups → ColumnRoom h (most * (8 * groups)) (most * 8)
list_room h groups most sound few all = record { entries = lists_fit h.n h.k groups most few (omega (arith, sound.fits)); sizes = omega arith }

-- with their lists made, the product is ready
pub columns_ready : {h : Header} {w l out : ℕ} {message lists counts : List ℕ} → Sound h → MessageBytes h w l message → out ≡ w * h.n * l → h.n * (8 * groups_of h.k) ≤ length lists → h.n * 8 ≤ length counts → Begun (modulus_of h) h.k (column_of h) h.n lists counts → Ready (column_product h l) w lists counts message out
unfolding width out_bytes
columns_ready sound message long entries sizes begun =
    record {
      usable_field = sound.usable_field;
      wide = message.wide;
      few = omega (arith, sound.fits, sound.byte);
      few_lanes = message.symbol_rows.few_lanes;
      made = begun_made sound.byte entries sizes begun;
      source_long = message.bytes;
      out_long = long;
    }
