-- Sums of planes that are chosen by the bits of the weights are the target's share; the bytes of a table's digits are what a node sends.
use mathlib.Core.Path.{◌≡◌, refl, sym, ap, ap₂, fun_ext, ◌∙◌}
use mathlib.Core.List.{List, []}
use Prim.Native.Nat.{ℕ, ◌+◌, ◌-◌, ◌*◌, ◌/◌, ◌%◌, ◌^◌, ◌<◌}
use native.Mathlib.Nat as Nat
use native.Mathlib.Numerals.{add-one}
use native.Mathlib.Omega.{arith}
use lib.Bits.{bit_xor, xor_zero_r}
use lib.ListN.{length, get_or, take, drop}
use lib.Seq.{get_or-drop}
use Rattle.lists.specs.Rows.{from}
use Rattle.lists.specs.Padded.{zeros, padded}
use Rattle.lists.proofs.Rows.{length_from, get_or_from, from_ext, get_d_part}
use Rattle.lists.proofs.Fill.{from_zeros}
use Rattle.lists.proofs.Padding.{get_or_padded}
use Rattle.field.proofs.Xor.{digit as low_digit}
use Rattle.generator.specs.declared.Header.{Header}
use Rattle.generator.specs.Records.{modulus_of, Sound}
use Rattle.kernel.specs.Inner.Lanes.{lanewise}
use Rattle.kernel.proofs.Lanes.{lanewise_same, lanewise_from}
use Rattle.traces.specs.Traces.{xor_below}
use Rattle.traces.specs.Repairs.{bits, senders, sent_digit, part, repaired}
use Rattle.repair_tables.specs.declared.nodes.Target.{Target}
use Rattle.repair_tables.specs.Inner.Bits.{bit_count}
use Rattle.repair_tables.specs.Inner.Weights.{bit_weight}
use Rattle.traces.proofs.Bounds.{offset_below}
use Rattle.traces.proofs.Claims.{repairable, xor_below_agree}
use Rattle.repair_tables.proofs.Steps.{mul_kind, kind_symbol}
use Rattle.repair.specs.Packing.{plane_size, byte_from, plane, bit_at, planes}
use Rattle.repair.specs.Sent.{sent, repaired_share}
use Rattle.repair.specs.Inner.Sums.{plane_sum, plane_sums, lane_byte}
use Rattle.repair.specs.Inner.Lanes.{lane_bit}
use Rattle.repair.proofs.Digits.{byte_ext, byte_inside}
use Rattle.repair.specs.Asked.{asked}
use Rattle.repair.proofs.Judging.{asked_bits}
use Rattle.repair.proofs.Bits.{bit_sum, byte_sum, repaired_bits}

pub chosen_none : (bit : ℕ) (row acc : List ℕ) → bit < 2 → (bit ≡ 1 → ⊥) → acc ≡ lanewise (λ c y. bit_xor y (bit * get_or row c 0)) acc
chosen_none bit row acc l n =
    let e : bit ≡ 0 = omega arith in
    sym (lanewise_same _ acc (λ c l. ap (bit_xor (get_or acc c 0)) (ap (λ (b : ℕ). b * get_or row c 0) e ∙ Nat.zero-mul (get_or row c 0)) ∙ xor_zero_r (get_or acc c 0)))

module _ (ws : List ℕ) (size : ℕ) (rows : List ℕ) (p : ℕ) where
  -- the sum of the first q planes: nothing, and one plane more
  pub sum_none : (l : ℕ) → l ≡ size → zeros l ≡ plane_sum ws 0 size rows p
  unfolding plane_sum xor_below
  sum_none l e = ap zeros e ∙ sym (from_zeros (λ i. 0) 0 size (λ k a b. refl))

  pub sum_more : (q bit : ℕ) (acc : List ℕ) → bit ≡ get_or ws q 0 / 2 ^ p % 2 → acc ≡ plane_sum ws q size rows p → lanewise (λ c y. bit_xor y (bit * get_or (take (q * size + size - q * size) (drop (q * size) rows)) c 0)) acc ≡ plane_sum ws (q + 1) size rows p
  unfolding plane_sum xor_below
  sum_more q bit acc b e =
      ap (lanewise (λ c y. bit_xor y (bit * get_or (take (q * size + size - q * size) (drop (q * size) rows)) c 0))) e
      ∙ lanewise_from _ _ _ size
      (λ c l.
      let F : ℕ → ℕ = λ q. get_or ws q 0 / 2 ^ p % 2 * get_or rows (q * size + c) 0 in
      ap (bit_xor (xor_below q F)) (ap₂ ◌*◌ b (get_d_part (q * size) size rows c l))
      ∙ ap (λ (m : ℕ). xor_below m F) (sym (add-one q)))

pub length_sum : (ws : List ℕ) (n size : ℕ) (rows : List ℕ) (p : ℕ) → length (plane_sum ws n size rows p) ≡ size
unfolding plane_sum
length_sum ws n size rows p = length_from _ 0 size

-- a plane of a node's digits
pub plane_table : (e : ℕ) (table share out : List ℕ) → length out ≡ plane_size (length share) → lanewise (λ c y. byte_from 8 (lane_bit e table share) (c * 8)) out ≡ plane (length share) (λ i. get_or table (get_or share i 0) 0 / 2 ^ e % 2)
unfolding lanewise plane
plane_table e table share out long = ap (from (λ c. byte_from 8 (lane_bit e table share) (c * 8)) 0) long

-- an entry of a table
table_at : (m : ℕ) (f : ℕ → ℕ) (table : List ℕ) → table ≡ from f 0 m → (x : ℕ) → x < m → get_or table x 0 ≡ f x
table_at m f table e x l = ap (λ (xs : List ℕ). get_or xs x 0) e ∙ get_or_from f 0 m x 0 l ∙ ap f (Nat.zero-add x)

pub table_long : (m : ℕ) (f : ℕ → ℕ) (table : List ℕ) → table ≡ from f 0 m → length table ≡ m
table_long m f table e = ap length e ∙ length_from f 0 m

-- what a node sends
pub sent_table : (h : Header) (t : ℕ) (missing : List ℕ) (j b : ℕ) (table share : List ℕ) → b ≡ bits h (length missing) → table ≡ from (sent_digit h t missing j) 0 256 → ((i : ℕ) → get_or share i 0 < 256) → planes b (length share) (λ i. get_or table (get_or share i 0) 0) ≡ sent h t missing j share
unfolding sent
sent_table h t missing j b table share w e low =
    ap (λ (b : ℕ). planes b (length share) (λ i. get_or table (get_or share i 0) 0)) w
    ∙ ap (planes (bits h (length missing)) (length share)) (fun_ext (λ i. table_at 256 (sent_digit h t missing j) table e (get_or share i 0) (low i)))

pub sent_asked : (x : Target) (h : Header) (t : ℕ) (missing : List ℕ) → asked x ≡ (h, (t, missing)) → (j : ℕ) (table share : List ℕ) → table ≡ from (sent_digit x.codec.code.header x.node x.missing.now j) 0 256 → ((i : ℕ) → get_or share i 0 < 256) → planes (bit_count x.bits) (length share) (λ i. get_or table (get_or share i 0) 0) ≡ sent h t missing j share
sent_asked x h t missing is j table share e low = sent_table h t missing j _ table share (asked_bits x h t missing is) (e ∙ ap (λ p. from (sent_digit p.0 p.1.0 p.1.1 j) 0 256) is) low

-- weights are bytes
weight_byte : (h : Header) → Sound h → modulus_of h ≡ 0 → (b t : ℕ) (js : List ℕ) (q : ℕ) → bit_weight h b t js q < 256
unfolding bit_weight part
weight_byte h s kind b t js q = mul_kind (modulus_of h) _ _ kind (kind_symbol (modulus_of h) _ kind (offset_below h s t (get_or js (q / b) 0)))

module _ (h : Header) (s : Sound h) (l t : ℕ) (missing rows ws : List ℕ) (some : bits h (length missing) ≡ 0 → ⊥) (ws_are : ws ≡ from (bit_weight h (bits h (length missing)) t (senders h t missing)) 0 (length (senders h t missing) * bits h (length missing))) where
  abbrev b : ℕ
  b = bits h (length missing)

  abbrev count : ℕ
  count = length (senders h t missing) * b

  abbrev weight : ℕ → ℕ
  weight = bit_weight h b t (senders h t missing)

  -- bit p of lane i of the sums
  sum_bit : (p i : ℕ) → p < 8 → i < l → get_or (get_or (plane_sums ws count (plane_size l) rows) p []) (i / 8) 0 / 2 ^ (i % 8) % 2 ≡ xor_below count (λ q. weight q / 2 ^ p % 2 * bit_at (drop (q * plane_size l) rows) i)
  unfolding plane_sums plane_sum bit_at
  sum_bit p i hp hi =
      let P : ℕ = plane_size l in
      ap (λ (x : ℕ). x / 2 ^ (i % 8) % 2)
      (ap (λ (xs : List ℕ). get_or xs (i / 8) 0) (get_or_from (λ x. padded 512 (plane_sum ws count P rows x)) 0 8 p [] hp ∙ ap (λ (x : ℕ). padded 512 (plane_sum ws count P rows x)) (Nat.zero-add p))
      ∙ get_or_padded 512 (plane_sum ws count P rows p) (i / 8) (rw length_sum (byte_inside l i hi))
      ∙ get_or_from (λ c. xor_below count (λ q. get_or ws q 0 / 2 ^ p % 2 * get_or rows (q * P + c) 0)) 0 P (i / 8) 0 (byte_inside l i hi)
      ∙ ap (λ (c : ℕ). xor_below count (λ q. get_or ws q 0 / 2 ^ p % 2 * get_or rows (q * P + c) 0)) (Nat.zero-add (i / 8)))
      ∙ bit_sum count (i % 8) (λ q. get_or ws q 0 / 2 ^ p % 2) (λ q. get_or rows (q * P + i / 8) 0) (λ q. low_digit (get_or ws q 0 / 2 ^ p))
      ∙ xor_below_agree count _ _
      (λ q hq.
      ap₂ (λ (x y : ℕ). x / 2 ^ p % 2 * (y / 2 ^ (i % 8) % 2))
      (table_at count weight ws ws_are q hq)
      (sym (get_or-drop (q * P) rows (i / 8) 0)))

  -- the byte of a lane is the target's symbol
  lane_is : (i : ℕ) → i < l → lane_byte (plane_sums ws count (plane_size l) rows) i ≡ repaired h t missing (λ r. byte_from b (λ e. bit_at (drop ((r * b + e) * plane_size l) rows) i) 0)
  unfolding lane_byte bit_at
  lane_is i hi =
      let can = repairable h (length missing) some in
      byte_ext 8 0 _ (λ p. xor_below count (λ q. weight q / 2 ^ p % 2 * bit_at (drop (q * plane_size l) rows) i)) (λ p hp. let inside : 0 + p < 8 = omega arith in sum_bit (0 + p) i inside hi)
      ∙ byte_sum count weight (λ q. bit_at (drop (q * plane_size l) rows) i) (weight_byte h s can.kind b t (senders h t missing)) (λ q. low_digit _)
      ∙ repaired_bits h t missing (λ q. bit_at (drop (q * plane_size l) rows) i) can.kind can.width (λ q. low_digit _)

  -- and all lanes its share
  pub share_is : (out : List ℕ) → length out ≡ l → lanewise (λ i y. lane_byte (plane_sums ws count (plane_size l) rows) i) out ≡ repaired_share h l t missing rows
  unfolding repaired_share lanewise
  share_is out long =
      ap (from (λ i. lane_byte (plane_sums ws count (plane_size l) rows) i) 0) long
      ∙ from_ext _ _ 0 l (λ i a b. lane_is i (omega arith))
