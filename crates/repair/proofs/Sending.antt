-- What the other nodes send for a message gives the target's share of it.
use mathlib.Core.Path.{◌≡◌, sym, ap, fun_ext, ◌∙◌}
use mathlib.Core.Bool.{true}
use mathlib.Core.List.{List}
use Prim.Native.Nat.{ℕ, ◌+◌, ◌*◌, ◌/◌, ◌%◌, ◌^◌, ◌<◌}
use native.Mathlib.Nat as Nat
use native.Mathlib.Omega.{arith}
use lib.ListN.{length, get_or, drop}
use lib.Pow as Pow
use lib.Seq.{get_or-drop}
use Rattle.lists.specs.Numbers.{all_below}
use Rattle.lists.specs.Rows.{rows_from}
use Rattle.lists.proofs.Rows.{get_or_from, from_ext, row_inside}
use Rattle.lists.proofs.Lanes.{get_d_rows}
use Rattle.layout.specs.Layout.{row_after_row, lane_of}
use Rattle.layout.specs.Width.{bytes_of}
use Rattle.field.specs.Fields.{size_of}
use Rattle.field.specs.Widths.{bytes_for}
use Rattle.field.proofs.Xor.{digit as low_digit}
use Rattle.generator.specs.declared.Header.{Header}
use Rattle.generator.specs.Records.{modulus_of, size, width, Sound}
use Rattle.generator.specs.Codewords.{node_of}
use Rattle.refusals.proofs.OneByte.{bytes_are}
use Rattle.blocks.specs.Blocks.{share_at, share_of}
use Rattle.blocks.proofs.Shares.{length_share}
use Rattle.blocks.proofs.Messages.{lane_message}
use Rattle.traces.specs.Repairs.{bits, senders, sent_digit, part, repaired}
use Rattle.traces.specs.Claims.{Repairing}
use Rattle.traces.proofs.Claims.{xor_below_agree, repair_node}
use Rattle.repair.specs.Packing.{plane_size, packed_size, byte_from, plane, bit_at, planes}
use Rattle.repair.specs.Sent.{sent, repaired_share}
use Rattle.repair.specs.Inner.Rows.{sent_all}
use Rattle.repair.proofs.Digits.{byte_ext, number_bits, byte_inside, length_plane, length_planes, bit_plane}

-- a digit has b bits
digit_below : (h : Header) (t : ℕ) (missing : List ℕ) (j x : ℕ) → sent_digit h t missing j x < 2 ^ bits h (length missing)
unfolding sent_digit
digit_below h t missing j x = Nat.mod-lt _ (Pow.pow_pos (bits h (length missing)))

-- a symbol has one byte
pub one_byte : (h : Header) → modulus_of h ≡ 0 → width h ≡ 1
unfolding width bytes_for size_of
one_byte h kind = rw kind

-- what a node sends: how long it is, and each of its bits
pub length_sent : (h : Header) (t : ℕ) (missing : List ℕ) (j : ℕ) (share : List ℕ) → length (sent h t missing j share) ≡ packed_size (bits h (length missing)) (length share)
unfolding sent
length_sent h t missing j share = length_planes (bits h (length missing)) (length share) _

pub sent_bit : (h : Header) (t : ℕ) (missing : List ℕ) (j : ℕ) (share : List ℕ) (i e : ℕ) → i < length share → e < bits h (length missing) → get_or (sent h t missing j share) (e * plane_size (length share) + i / 8) 0 / 2 ^ (i % 8) % 2 ≡ sent_digit h t missing j (get_or share i 0) / 2 ^ e % 2
unfolding sent planes bit_at
sent_bit h t missing j share i e inside low =
    let d : ℕ → ℕ = λ i. sent_digit h t missing j (get_or share i 0) in
    let row : ℕ → List ℕ = λ e. plane (length share) (λ i. d i / 2 ^ e % 2) in
    ap (λ (x : ℕ). x / 2 ^ (i % 8) % 2)
    (get_d_rows row (plane_size (length share)) (λ e. length_plane (length share) (λ i. d i / 2 ^ e % 2)) 0 (bits h (length missing)) e (i / 8) low (byte_inside (length share) i inside) ∙ ap (λ (x : ℕ). get_or (row x) (i / 8) 0) (Nat.zero-add e))
    ∙ bit_plane (length share) (λ i. d i / 2 ^ e % 2) (λ i. low_digit (d i / 2 ^ e)) i inside

-- byte c of plane e of row r, in rows of b planes of p bytes
place_is : (r b e p c : ℕ) → (r * b + e) * p + c ≡ r * (b * p) + (e * p + c)
place_is r b e p c = omega (arith, Nat.add-mul (r * b) e p, Nat.mul_assoc r b p)

module _ (h : Header) (kind : modulus_of h ≡ 0) (l t : ℕ) (missing m : List ℕ) where
  abbrev b : ℕ
  b = bits h (length missing)

  abbrev js : List ℕ
  js = senders h t missing

  -- the r-th sender, and what it sends of a share of bytes
  abbrev node : ℕ → ℕ
  node r = get_or js r 0

  row : ℕ → List ℕ
  row r = sent h t missing (node r) (share_of h l m (node r))

  all_rows : sent_all h l t missing m ≡ rows_from row 0 (length js)
  unfolding sent_all row
  all_rows = ap (λ (g : ℕ → List ℕ). rows_from g 0 (length js)) (fun_ext (λ r. ap (sent h t missing (node r)) (bytes_are h (one_byte h kind) (share_of h l m (node r)))))

  -- its plane e
  row_plane : ℕ → ℕ → List ℕ
  row_plane r e = plane (length (share_of h l m (node r))) (λ i. sent_digit h t missing (node r) (get_or (share_of h l m (node r)) i 0) / 2 ^ e % 2)

  length_row : (r : ℕ) → length (row r) ≡ b * plane_size l
  unfolding row sent packed_size
  length_row r = length_planes b _ _ ∙ ap (λ (n : ℕ). b * plane_size n) (length_share h l m (node r))

  length_row_plane : (r e : ℕ) → length (row_plane r e) ≡ plane_size l
  unfolding row_plane
  length_row_plane r e = length_plane _ _ ∙ ap plane_size (length_share h l m (node r))

  -- what node j holds in lane i
  abbrev holds : ℕ → ℕ → ℕ
  holds j i = node_of h (lane_of row_after_row h.k l i m) j

  held : (j i : ℕ) → i < l → get_or (share_of h l m j) i 0 ≡ holds j i
  unfolding share_of share_at
  held j i low = get_or_from (share_at h l m j) 0 l i 0 low ∙ ap (holds j) (Nat.zero-add i)

  -- its bit in lane i
  plane_bit : (r e i : ℕ) → i < l → bit_at (row_plane r e) i ≡ sent_digit h t missing (node r) (holds (node r) i) / 2 ^ e % 2
  unfolding row_plane
  plane_bit r e i low =
      let j : ℕ = node r in
      bit_plane (length (share_of h l m j)) (λ i. sent_digit h t missing j (get_or (share_of h l m j) i 0) / 2 ^ e % 2) (λ i. low_digit (sent_digit h t missing j (get_or (share_of h l m j) i 0) / 2 ^ e)) i (omega (arith, length_share h l m j))
      ∙ ap (λ (x : ℕ). sent_digit h t missing j x / 2 ^ e % 2) (held j i low)

  -- a byte of a plane among all rows
  plane_byte : (r e c : ℕ) → r < length js → e < b → c < plane_size l → get_or (rows_from row 0 (length js)) ((r * b + e) * plane_size l + c) 0 ≡ get_or (row_plane r e) c 0
  unfolding row sent planes row_plane
  plane_byte r e c hr he hc =
      ap (λ (x : ℕ). get_or (rows_from row 0 (length js)) x 0) (place_is r b e (plane_size l) c)
      ∙ get_d_rows row (b * plane_size l) length_row 0 (length js) r (e * plane_size l + c) hr (omega (arith, row_inside b e (plane_size l) he))
      ∙ ap (λ (x : ℕ). get_or (row x) (e * plane_size l + c) 0) (Nat.zero-add r)
      ∙ get_d_rows (row_plane r) (plane_size l) (length_row_plane r) 0 b e c he hc
      ∙ ap (λ (x : ℕ). get_or (row_plane r x) c 0) (Nat.zero-add e)

  -- the digit of row r in lane i
  row_digit : (r i : ℕ) → r < length js → i < l → byte_from b (λ e. bit_at (drop ((r * b + e) * plane_size l) (rows_from row 0 (length js))) i) 0 ≡ sent_digit h t missing (node r) (holds (node r) i)
  unfolding bit_at
  row_digit r i hr hi =
      let d : ℕ = sent_digit h t missing (node r) (holds (node r) i) in
      byte_ext b 0 _ (λ e. d / 2 ^ e % 2)
      (λ e he.
      let inside : 0 + e < b = omega arith in
      ap (λ (x : ℕ). x / 2 ^ (i % 8) % 2) (get_or-drop ((r * b + (0 + e)) * plane_size l) (rows_from row 0 (length js)) (i / 8) 0 ∙ plane_byte r (0 + e) (i / 8) hr inside (byte_inside l i hi))
      ∙ plane_bit r (0 + e) i hi)
      ∙ number_bits b d (digit_below h t missing (node r) _)

  -- so the target's share is repaired
  pub repaired_sent : Sound h → Repairing h t missing → length m ≡ h.k * l → all_below (size h) m ≡ true → repaired_share h l t missing (sent_all h l t missing m) ≡ bytes_of (width h) (share_of h l m t)
  unfolding repaired_share share_of share_at repaired
  repaired_sent s r long low =
      ap (repaired_share h l t missing) all_rows
      ∙ from_ext _ (holds t) 0 l
      (λ i _ high.
      let inside : i < l = omega arith in
      xor_below_agree (length js) _ _ (λ z hz. ap (part h b t (node z)) (row_digit z i hz inside))
      ∙ repair_node h s (lane_of row_after_row h.k l i m) t missing (lane_message h l m i inside long low) r)
      ∙ sym (bytes_are h (one_byte h kind) (share_of h l m t))
