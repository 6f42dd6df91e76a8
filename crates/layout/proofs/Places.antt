-- The two layouts for code that counts places: where a row and a lane stand, and a buffer as its parts one after the other.
use mathlib.Core.Path.{◌≡◌, refl, sym, ◌∙◌}
use mathlib.Core.List.{List}
use Prim.Native.Nat.{ℕ, ◌+◌, ◌*◌, ◌<◌}
use native.Mathlib.Nat.{zero-add, mul_comm}
use lib.ListN.{length, get_or}
use Rattle.lists.specs.Rows.{from, rows_from}
use Rattle.lists.proofs.Rows.{length_from, get_or_from}
use Rattle.lists.proofs.Lanes.{length_rows, get_d_rows}
use Rattle.layout.specs.Layout.{row_after_row, lane_after_lane, held, lane_of, buffer, share_layout}
use Rattle.layout.proofs.Lawful.{Lawful, by_row, by_lane}
use Rattle.layout.proofs.Buffers.{length_buffer, held_buffer, held_equal, buffer_held}

pub place_by_row : (rows l i t : ℕ) → (row_after_row rows l).place i t ≡ i * l + t
unfolding row_after_row
place_by_row rows l i t = refl

pub place_by_lane : (rows l i t : ℕ) → (lane_after_lane rows l).place i t ≡ t * rows + i
unfolding lane_after_lane
place_by_lane rows l i t = refl

pub held_by_row : (rows l : ℕ) (s : List ℕ) (i t : ℕ) → held row_after_row rows l s i t ≡ get_or s (i * l + t) 0
unfolding held row_after_row
held_by_row rows l s i t = refl

pub held_by_lane : (rows l : ℕ) (s : List ℕ) (i t : ℕ) → held lane_after_lane rows l s i t ≡ get_or s (t * rows + i) 0
unfolding held lane_after_lane
held_by_lane rows l s i t = refl

-- place t of part i of parts by two indices
parts_at : (f : ℕ → ℕ → ℕ) (n l i t : ℕ) → i < n → t < l → get_or (rows_from (λ i. from (f i) 0 l) 0 n) (i * l + t) 0 ≡ f i t
parts_at f n l i t hi ht =
    get_d_rows (λ i. from (f i) 0 l) l (λ i. length_from (f i) 0 l) 0 n i t hi ht
    ∙ rw (zero-add i) (rw zero-add at (get_or_from (f i) 0 l t 0 ht))

-- a buffer is its rows one after the other
pub buffer_by_row : (rows l : ℕ) (f : ℕ → ℕ → ℕ) → buffer row_after_row rows l f ≡ rows_from (λ i. from (f i) 0 l) 0 rows
buffer_by_row rows l f =
    held_equal by_row rows l _ _ (length_buffer row_after_row rows l f) (length_rows (λ i. from (f i) 0 l) l (λ i. length_from (f i) 0 l) 0 rows)
    (λ i t hi ht. held_buffer by_row rows l f i t hi ht ∙ sym (held_by_row rows l _ i t ∙ parts_at f rows l i t hi ht))

-- or its lanes
pub buffer_by_lane : (rows l : ℕ) (f : ℕ → ℕ → ℕ) → buffer lane_after_lane rows l f ≡ rows_from (λ t. from (λ i. f i t) 0 rows) 0 l
buffer_by_lane rows l f =
    held_equal by_lane rows l _ _ (length_buffer lane_after_lane rows l f)
    (length_rows (λ t. from (λ i. f i t) 0 rows) rows (λ t. length_from (λ i. f i t) 0 rows) 0 l ∙ mul_comm l rows)
    (λ i t hi ht. held_buffer by_lane rows l f i t hi ht ∙ sym (held_by_lane rows l _ i t ∙ parts_at (λ t i. f i t) l rows t i ht hi))

pub lanes_whole : (rows l : ℕ) (s : List ℕ) → length s ≡ rows * l → rows_from (λ t. lane_of lane_after_lane rows l t s) 0 l ≡ s
unfolding lane_of
lanes_whole rows l s long = sym (buffer_by_lane rows l (held lane_after_lane rows l s)) ∙ buffer_held by_lane rows l s long

-- the layout of shares
pub share_lawful : Lawful share_layout
unfolding share_layout
share_lawful = by_lane

pub place_share : (rows l i t : ℕ) → (share_layout rows l).place i t ≡ t * rows + i
unfolding share_layout
place_share = place_by_lane

pub held_share : (rows l : ℕ) (s : List ℕ) (i t : ℕ) → held share_layout rows l s i t ≡ get_or s (t * rows + i) 0
unfolding share_layout
held_share = held_by_lane

pub buffer_share : (rows l : ℕ) (f : ℕ → ℕ → ℕ) → buffer share_layout rows l f ≡ rows_from (λ t. from (λ i. f i t) 0 rows) 0 l
unfolding share_layout
buffer_share = buffer_by_lane

pub share_by_lane : share_layout ≡ lane_after_lane
unfolding share_layout
share_by_lane = refl
