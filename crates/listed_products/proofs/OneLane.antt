-- One lane of listed symbols by itself: its bytes, and the message of its first k symbols.
use mathlib.Core.Path.{◌≡◌, refl, sym, ap, ◌∙◌}
use mathlib.Core.Bool.{true}
use mathlib.Core.List.{List}
use Prim.Native.Nat.{ℕ, ◌+◌, ◌*◌, ◌≤◌, ◌<◌}
use native.Mathlib.Nat.{mul_comm, mul-one, zero-mul, zero-add, mul-le-mul}
use native.Mathlib.Omega.{arith}
use lib.ListN.{length, get_or, take, replicate, length-replicate}
use lib.Seq.{ext_get_or, length-take-le}
use Rattle.lists.specs.Numbers.{all_below}
use Rattle.layout.specs.Layout.{row_after_row, lane_after_lane, lane_of, buffer}
use Rattle.layout.specs.Width.{symbols_of, bytes_of}
use Rattle.layout.proofs.Buffers.{length_buffer, held_buffer, buffer_ext}
use Rattle.layout.proofs.Lawful.{by_row}
use Rattle.layout.proofs.Places.{held_by_row}
use Rattle.layout.proofs.Widths.{length_bytes, symbols_bytes}
use Rattle.generator.specs.declared.Header.{Header}
use Rattle.generator.specs.Records.{size, width, Sound}
use Rattle.generator.proofs.Recovery.{message_size}
use Rattle.generator.proofs.Widths.{width_some, width_range}
use Rattle.block_products.proofs.Lanes.{lane_is}
use Rattle.listed_products.specs.Inner.Shares.{ListedNodes, ListedBytes, first_message, first_messages}
use Rattle.listed_products.proofs.First.{few, nodes_byte, first_is}

-- a buffer of one lane is a list
one_lane : (k : ℕ) (xs : List ℕ) → length xs ≡ k → buffer row_after_row k 1 (λ i t. get_or xs i 0) ≡ xs
one_lane k xs long =
    let u = buffer row_after_row k 1 (λ i t. get_or xs i 0) in
    let size_is : length u ≡ k = length_buffer row_after_row k 1 (λ i t. get_or xs i 0) ∙ mul-one k in
    ext_get_or 0 u xs (size_is ∙ sym long)
    (λ i inside.
    let low : i < k = omega arith in
    let place : i * 1 + 0 ≡ i = omega arith in
    ap (λ (x : ℕ). get_or u x 0) (sym place) ∙ sym (held_by_row k 1 u i 0) ∙ held_buffer by_row k 1 (λ i t. get_or xs i 0) i 0 low (omega arith))

-- the first lane stands for all of one
only_lane : (k : ℕ) (f : ℕ → List ℕ) → buffer row_after_row k 1 (λ i t. get_or (f t) i 0) ≡ buffer row_after_row k 1 (λ i t. get_or (f 0) i 0)
only_lane k f = buffer_ext by_row k 1 _ _ (λ i t row inside. let first : t ≡ 0 = omega arith in ap (λ (q : ℕ). get_or (f q) i 0) first)

-- a part of scratch
pub scratch_part : (n : ℕ) → n ≤ 510 → length (take n (replicate {A = ℕ} 510 0)) ≡ n
scratch_part n fits = length-take-le n _ (omega (arith, length-replicate {A = ℕ} 510 0))

module _ {h : Header} (s : Sound h) {nodes : List ℕ} (m : ListedNodes h nodes) where
  -- a lane and its message fit 510 bytes
  pub lane_small : width h * length nodes ≤ 510
  lane_small = mul-le-mul (width_range h).1 (nodes_byte s m)

  pub message_small : width h * h.k ≤ 510
  message_small = mul-le-mul (width_range h).1 (few s m)

  module _ (ys : List ℕ) (long : length ys ≡ length nodes) (below : all_below (size h) ys ≡ true) where
    -- its bytes as a block of one lane
    pub one_listed : ListedBytes h 1 nodes (bytes_of (width h) ys)
    one_listed =
        record {
          few_lanes = omega arith;
          bytes = length_bytes (width h) ys ∙ ap (λ (x : ℕ). x * width h) long ∙ mul_comm (length nodes) (width h) ∙ sym (mul-one (width h * length nodes));
          symbols = rw (symbols_bytes (width h) ys (width_some h)) below;
        }

    -- the message of that block
    pub one_message : symbols_of (width h) (bytes_of (width h) (first_messages h nodes 1 (symbols_of (width h) (bytes_of (width h) ys)))) ≡ first_message h nodes ys
    unfolding first_messages
    one_message =
        let held = symbols_of (width h) (bytes_of (width h) ys) in
        let same : lane_of lane_after_lane (length nodes) 1 0 held ≡ ys =
        ap (lane_of lane_after_lane (length nodes) 1 0) (symbols_bytes (width h) ys (width_some h))
        ∙ lane_is (length nodes) 1 0 ys ys long (λ i low. ap (λ (x : ℕ). get_or ys x 0) (ap (λ (z : ℕ). z + i) (zero-mul (length nodes)) ∙ zero-add i)) in
        symbols_bytes (width h) _ (width_some h)
        ∙ only_lane h.k (λ t. first_message h nodes (lane_of lane_after_lane (length nodes) 1 t held))
        ∙ one_lane h.k (first_message h nodes (lane_of lane_after_lane (length nodes) 1 0 held)) (rw same (message_size h (first_message h nodes ys) (first_is s m ys long below).0))
        ∙ ap (first_message h nodes) same
