-- The products of the lanes with the checks and with the rows of the message.
use mathlib.Core.Path.{◌≡◌, refl, sym, ap, ◌∙◌}
use mathlib.Core.Bool.{Bool, true, false}
use mathlib.Core.List.{List}
use Prim.Native.Nat.{ℕ, ◌-◌, ◌*◌, ◌≤◌, ◌<◌}
use native.Mathlib.Nat.{zero-add}
use native.Mathlib.Omega.{arith}
use lib.ListN.{length, get_or}
use Rattle.lists.specs.Choice.{pick}
use Rattle.lists.specs.Numbers.{all_below}
use Rattle.lists.proofs.Rows.{length_from, get_or_from}
use Rattle.layout.specs.Layout.{row_after_row, lane_after_lane, lane_of, buffer}
use Rattle.layout.specs.Width.{symbols_of, bytes_of}
use Rattle.layout.proofs.Lawful.{by_row, by_lane}
use Rattle.layout.proofs.Buffers.{length_lane, lane_symbols, buffer_ext}
use Rattle.layout.proofs.LaneParts.{lanes_long}
use Rattle.layout.proofs.Readings.{count_symbols}
use Rattle.field.specs.Inner.Sums.{dot}
use Rattle.generator.specs.declared.Header.{Header}
use Rattle.generator.specs.Records.{modulus_of, size, width, Sound}
use Rattle.generator.proofs.Widths.{width_some}
use Rattle.tile_products.specs.Inner.Matrices.{Begun}
use Rattle.tile_products.proofs.Beginning.{begun_made}
use Rattle.tile_products.proofs.Fitting.{lists_fit}
use Rattle.block_products.specs.declared.Product.{Product}
use Rattle.block_products.specs.Inner.Marks.{all_zero, zero_marks}
use Rattle.block_products.specs.Inner.Ways.{side_of, out_bytes, result_bytes, lane_sum, Ready}
use Rattle.recover_matrix.proofs.Room.{less_room}
use Rattle.wrong_lanes.specs.Inner.Checks.{check_row, OtherRoom}
use Rattle.listed_products.specs.Inner.Shares.{ListedNodes, ListedBytes, first_message, first_messages, AgreeMarks, MessageRows, message_row, listed_points, agree_product, message_product}
use Rattle.listed_products.proofs.First.{few, nodes_few, nodes_byte, row_sum, agrees_all}

module _ {h : Header} (sound : Sound h) {nodes : List ℕ} (m : ListedNodes h nodes) where
  abbrev r : ℕ
  r = length nodes

  -- the lists of the checks fit scratch for so many nodes, in groups of four
  pub others_room : (groups most : ℕ) → r ≤ most → most ≤ 4 * groups → OtherRoom r h.k (most * (8 * groups)) (most * 8)
  others_room groups most small all = record { entries = lists_fit (r - h.k) r groups most (omega arith) (omega arith); sizes = omega arith }

  module _ {l : ℕ} {shares : List ℕ} (b : ListedBytes h l nodes shares) where
    abbrev s : List ℕ
    s = symbols_of (width h) shares

    -- a lane is a symbol for each listed node
    pub symbols_long : length s ≡ r * l
    symbols_long = count_symbols (width h) (r * l) shares (width_some h) (b.bytes ∙ sym (lanes_long (width h) r l))

    pub lane_long : (t : ℕ) → length (lane_of lane_after_lane r l t s) ≡ r
    lane_long t = length_lane lane_after_lane r l t s

    pub lane_below : (t : ℕ) → t < l → all_below (size h) (lane_of lane_after_lane r l t s) ≡ true
    lane_below t inside = lane_symbols by_lane r l (size h) t s inside symbols_long b.symbols

    -- the checks of all lanes: 0 is put to those that agree
    pub agree_marks : {p : Product} {marks : List ℕ} {w : ℕ} → w ≡ width h → p ≡ agree_product h r l → marks ≡ result_bytes p.way w p.outputs p.lanes (lane_sum p w (check_row (modulus_of h) h.k (listed_points h nodes)) shares) → AgreeMarks h l nodes shares marks
    unfolding result_bytes side_of zero_marks
    agree_marks {p} {marks} wide e is =
        let f : ℕ → ℕ = λ t. pick (all_zero (r - h.k) (λ i. dot (modulus_of h) (lane_of lane_after_lane r l t s) (check_row (modulus_of h) h.k (listed_points h nodes) i))) 0 1 in
        let are = rw (e, wide) at is in
        record {
          long = ap length are ∙ length_from f 0 l;
          agrees = λ t inside none. agrees_all sound m (lane_of lane_after_lane r l t s) (lane_long t) (lane_below t inside) (unmarked _ (sym (ap (λ (x : List ℕ). get_or x t 0) are ∙ get_or_from f 0 l t 0 inside ∙ ap f (zero-add t)) ∙ none));
        }
      where
        unmarked : (b : Bool) → ◌≡◌ {A = ℕ} (pick b 0 1) 0 → b ≡ true
        unmarked true e = refl
        unmarked false e = absurd (omega arith)

    -- the messages of all lanes
    pub messages_are : {p : Product} {out : List ℕ} {w : ℕ} → w ≡ width h → p ≡ message_product h r l → out ≡ result_bytes p.way w p.outputs p.lanes (lane_sum p w (message_row h nodes) shares) → out ≡ bytes_of (width h) (first_messages h nodes l s)
    unfolding result_bytes side_of first_messages
    messages_are wide e is =
        rw (e, wide) at is
        ∙ ap (bytes_of (width h))
        (buffer_ext by_row h.k l _ _ (λ i t row inside. row_sum sound m (lane_of lane_after_lane r l t s) (lane_long t) (lane_below t inside) i row))

    -- the products are ready
    pub agree_ready : {w out : ℕ} {lists counts : List ℕ} {ws : ℕ → List ℕ} → w ≡ width h → out ≡ l → OtherRoom r h.k (length lists) (length counts) → Begun (modulus_of h) r ws (r - h.k) lists counts → Ready (agree_product h r l) w lists counts shares out
    unfolding width out_bytes
    agree_ready wide long room begun =
        record {
          usable_field = sound.usable_field;
          wide = wide;
          few = nodes_byte sound m;
          few_lanes = b.few_lanes;
          made = begun_made (omega (arith, nodes_byte sound m)) room.entries room.sizes begun;
          source_long = rw wide b.bytes;
          out_long = long;
        }

    pub message_ready : {w out : ℕ} {lists counts : List ℕ} → w ≡ width h → out ≡ width h * h.k * l → MessageRows h nodes lists counts → Ready (message_product h r l) w lists counts shares out
    unfolding width out_bytes
    message_ready wide long rows =
        let room = less_room m.enough rows.room in
        record {
          usable_field = sound.usable_field;
          wide = wide;
          few = nodes_byte sound m;
          few_lanes = b.few_lanes;
          made = begun_made (few sound m) room.0 room.1 rows.begun;
          source_long = rw wide b.bytes;
          out_long = rw wide long;
        }
