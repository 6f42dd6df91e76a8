-- The scratch in which the message is made, and products whose lists are made.
use mathlib.Core.Path.{◌≡◌, ap, ap₂, ◌∙◌}
use mathlib.Core.List.{List}
use Prim.Native.Nat.{ℕ, ◌*◌, ◌≤◌}
use native.Mathlib.Nat.{mul-le-mul, le_refl}
use native.Mathlib.Omega.{arith}
use lib.ListN.{length}
use Rattle.lists.specs.Rows.{rows_from}
use Rattle.layout.specs.Layout.{row_after_row, lane_after_lane, lane_of, buffer}
use Rattle.layout.specs.Width.{symbols_of, bytes_of}
use Rattle.layout.proofs.Widths.{symbols_bytes}
use Rattle.field.specs.Inner.Sums.{dot}
use Rattle.generator.specs.declared.Header.{Header}
use Rattle.generator.specs.Records.{modulus_of, width, Sound}
use Rattle.generator.proofs.Widths.{width_range}
use Rattle.tile_products.specs.Inner.Products.{groups_of}
use Rattle.tile_products.specs.Inner.Matrices.{Begun}
use Rattle.tile_products.proofs.Beginning.{begun_made}
use Rattle.tile_products.proofs.Fitting.{lists_fit}
use Rattle.block_products.specs.Inner.Ways.{side_of, out_bytes, result_bytes, lane_sum, Ready}
use Rattle.block_products.specs.declared.Way.TheVariants.{LanesToRows}
use Rattle.node_weights.specs.Inner.Rows.{row_terms}
use Rattle.recover_matrix.specs.Inner.Inverse.{node_quotient, inverse_row, inverse_sums, inverse_product, ListRoom, row_product, square_bytes}
use Rattle.recover_matrix.proofs.Prepared.{few}

-- room for the lists and the squares of at most so many rows, in groups of four
pub square_room : (h : Header) (groups most : ℕ) → h.k ≤ most → most ≤ 4 * groups → ListRoom h.k (most * (8 * groups)) (most * 8) × (square_bytes h ≤ 2 * most * most)
square_room h groups most small all =
    (record { entries = lists_fit h.k h.k groups most small (omega arith); sizes = omega arith }, mul-le-mul (mul-le-mul (width_range h).1 small) small)

groups_all : {k rows : ℕ} → k ≤ rows → k ≤ 4 * groups_of rows
unfolding groups_of
groups_all few = omega arith

-- room for more rows is room for fewer
pub less_room : {k rows lists counts : ℕ} → k ≤ rows → ListRoom rows lists counts → (k * (8 * groups_of rows) ≤ lists) × (k * 8 ≤ counts) × ListRoom k lists counts
less_room {k} {rows} few room =
    let some : k * (8 * groups_of rows) ≤ rows * (8 * groups_of rows) = mul-le-mul few (le_refl (8 * groups_of rows)) in
    let fewer : k * (8 * groups_of k) ≤ rows * (8 * groups_of rows) = lists_fit k k (groups_of rows) rows few (groups_all few) in
    (omega (arith, some, room.entries), omega (arith, room.sizes), record { entries = omega (arith, fewer, room.entries); sizes = omega (arith, room.sizes) })

-- with the lists of k rows made, a product is ready
pub rows_ready : {h : Header} {w l out : ℕ} {ws : ℕ → List ℕ} {source lists counts : List ℕ} → Sound h → w ≡ width h → l ≤ 4096 → length source ≡ width h * h.k * l → out ≡ width h * h.k * l → ListRoom h.k (length lists) (length counts) → Begun (modulus_of h) h.k ws h.k lists counts → Ready (row_product h l) w lists counts source out
unfolding width out_bytes
rows_ready s wide lanes source out room begun =
    record {
      usable_field = s.usable_field;
      wide = wide;
      few = few s;
      few_lanes = lanes;
      made = begun_made (few s) room.entries room.sizes begun;
      source_long = rw wide source;
      out_long = rw wide out;
    }

-- the product of the terms and the quotients
pub sums_written : (h : Header) (js : List ℕ) {w : ℕ} {terms out : List ℕ} → w ≡ width h → terms ≡ bytes_of (width h) (rows_from (row_terms h) 0 h.k) → out ≡ result_bytes LanesToRows w h.k h.k (lane_sum (row_product h h.k) w (node_quotient h js) terms) → out ≡ bytes_of (width h) (inverse_sums h js)
unfolding result_bytes side_of inverse_sums
sums_written h js {w} {terms} wide are is =
    let read : symbols_of w terms ≡ rows_from (row_terms h) 0 h.k = rw (wide, are) (symbols_bytes (width h) (rows_from (row_terms h) 0 h.k) (width_range h).0) in
    is
    ∙ ap₂ (λ (v : ℕ) (xs : List ℕ). bytes_of v (buffer row_after_row h.k h.k (λ i r. dot (modulus_of h) (lane_of lane_after_lane h.k h.k r xs) (node_quotient h js i)))) wide read

-- and that of the inverse and the lanes
pub message_written : (h : Header) (js : List ℕ) (l : ℕ) (shares : List ℕ) {w : ℕ} {out : List ℕ} → w ≡ width h → out ≡ result_bytes LanesToRows w h.k l (lane_sum (row_product h l) w (inverse_row h js) shares) → out ≡ inverse_product h js l shares
unfolding result_bytes side_of
message_written h js l shares wide is =
    is
    ∙ ap (λ (v : ℕ). bytes_of v (buffer row_after_row h.k l (λ r t. dot (modulus_of h) (lane_of lane_after_lane h.k l t (symbols_of v shares)) (inverse_row h js r)))) wide
