-- What holds of traces, of the symbol that they give back, and of the bits that are moved.
use Rattle.std.specs.Prelude.{◌≡◌, true, false, List, ℕ, ◌+◌, ◌-◌, ◌*◌, ◌/◌, ◌%◌, ◌^◌, ◌≤◌, ◌<◌, length, get_or}
use Rattle.std.specs.Int.Bits.{bit_xor}
use Rattle.lists.specs.Numbers.{all_below, is_in}
use Rattle.generator.specs.declared.Header.{Header}
use Rattle.generator.specs.Records.{size}
use Rattle.generator.specs.Codewords.{node_of, is_word}
use Rattle.generator.specs.Claims.{is_message}
use Rattle.traces.specs.Traces.{TraceBits, trace_of, element}
use Rattle.traces.specs.Repairs.{bits, spare, senders, sent_digit, repaired}

-- the trace of a byte
pub record TraceLaws : Type 0 where
  pub additive : (b x x' : ℕ) → x < 256 → x' < 256 → trace_of b (bit_xor x x') ≡ bit_xor (trace_of b x) (trace_of b x')
  -- its lowest b bits name it
  pub named : (b x : ℕ) → TraceBits b → x < 256 → element b (trace_of b x % 2 ^ b) ≡ trace_of b x
  -- onto two elements it is bit 5
  pub onto_two : (x : ℕ) → x < 256 → trace_of 1 x ≡ x / 32 % 2

-- a target and further missing nodes
pub record Repairing (h : Header) (target : ℕ) (missing : List ℕ) : Type 0 where
  pub inside : target < h.n
  pub nodes : all_below h.n missing ≡ true
  pub others : is_in target missing ≡ false
  pub some : bits h (length missing) ≡ 0 → ⊥

-- the target's symbol is given by what the other nodes that are there send of theirs
pub record RepairsByTraces (h : Header) : Type 0 where
  pub words : (ws : List ℕ) (target : ℕ) (missing : List ℕ) → length ws ≡ h.n → all_below (size h) ws ≡ true → is_word h ws ≡ true → Repairing h target missing → repaired h target missing (λ i. let j = get_or (senders h target missing) i 0 in sent_digit h target missing j (get_or ws j 0)) ≡ get_or ws target 0
  pub messages : (ms : List ℕ) (target : ℕ) (missing : List ℕ) → is_message h ms ≡ true → Repairing h target missing → repaired h target missing (λ i. let j = get_or (senders h target missing) i 0 in sent_digit h target missing j (node_of h ms j)) ≡ node_of h ms target

-- the bits that are moved for one symbol of one node: by traces with no node missing but the target; with as many left out as may be missing; by k whole symbols
unfoldable pub moved_by_traces : Header → ℕ
moved_by_traces h = bits h 0 * (h.n - 1)

unfoldable pub moved_fewest : Header → ℕ
moved_fewest h = bits h 0 * (h.n - 1 - spare h 0)

unfoldable pub moved_whole : Header → ℕ
moved_whole h = 8 * h.k

-- of every accepted record of kind 2: with `count` nodes missing beside the target
pub record BytesRepair (h : Header) : Type 0 where
  -- there is repair by traces where n − k is at least 16 + count
  pub some : (count : ℕ) → 16 + count ≤ h.n - h.k → bits h count ≡ 0 → ⊥
  -- 2^b elements do where n − k is at least 2^(8 − b) + count, and the least such b is taken
  pub enough : (count : ℕ) → (bits h count ≡ 0 → ⊥) → TraceBits (bits h count) × (2 ^ (8 - bits h count) + count ≤ h.n - h.k)
  pub least : (count b : ℕ) → TraceBits b → 2 ^ (8 - b) + count ≤ h.n - h.k → bits h count ≤ b
  -- so many more may be missing with as few bits, and no more
  pub spared : (count more : ℕ) → (bits h count ≡ 0 → ⊥) → more ≤ spare h count → bits h (count + more) ≡ bits h count
  pub beyond : (count more : ℕ) → (bits h count ≡ 0 → ⊥) → spare h count < more → bits h (count + more) ≡ bits h count → ⊥
  -- the symbol is given back
  pub repairs : RepairsByTraces h
  -- of 255 nodes: 254 bits are moved for k up to 127, 508 up to 191, 1,016 up to 239; for k up to 127 with nodes left out 127 + k
  pub moves_one : h.n ≡ 255 → h.k ≤ 127 → moved_by_traces h ≡ 254
  pub moves_two : h.n ≡ 255 → 127 < h.k → h.k ≤ 191 → moved_by_traces h ≡ 508
  pub moves_four : h.n ≡ 255 → 191 < h.k → h.k ≤ 239 → moved_by_traces h ≡ 1016
  pub moves_fewest : h.n ≡ 255 → h.k ≤ 127 → moved_fewest h ≡ 127 + h.k
  -- fewer than k whole symbols have, for k from 32 on
  pub moves_fewer : h.n ≡ 255 → 32 ≤ h.k → h.k ≤ 239 → moved_by_traces h < moved_whole h
