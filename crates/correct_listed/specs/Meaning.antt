-- What the call means, by the words of the code themselves.
use Rattle.std.specs.Prelude.{◌≡◌, true, not, List, ℕ, ◌-◌, ◌/◌, ◌≤◌, ◌<◌, eqb, length, get_or, sum}
use Rattle.lists.specs.Counting.{count_from, differ}
use Rattle.layout.specs.Layout.{row_after_row, lane_of, share_layout}
use Rattle.layout.specs.Width.{symbols_of}
use Rattle.generator.specs.declared.Header.{Header}
use Rattle.generator.specs.Records.{width}
use Rattle.generator.specs.Codewords.{node_of}
use Rattle.generator.specs.Claims.{is_message, at_nodes}

-- ms is a message for which the s listed nodes hold other symbols than ys at no more than the whole part of (s − k)/2 places
pub record NearMessage (h : Header) (nodes ys ms : List ℕ) : Type 0 where
  pub message : is_message h ms ≡ true
  pub close : differ ys (at_nodes h ms nodes) ≤ (length nodes - h.k) / 2

-- lane t of the shares of listed nodes, as bytes; and of a message
abbrev pub listed_lane : Header → List ℕ → ℕ → List ℕ → ℕ → List ℕ
listed_lane h nodes l shares t = lane_of share_layout (length nodes) l t (symbols_of (width h) shares)

abbrev pub message_lane : Header → ℕ → List ℕ → ℕ → List ℕ
message_lane h l m t = lane_of row_after_row h.k l t (symbols_of (width h) m)

-- the message m that was written, how often each place of the list was wrong, and the answer
pub record CorrectListedDone (h : Header) (l : ℕ) (nodes shares m wrong : List ℕ) (total : ℕ) : Type 0 where
  -- in each lane the message is the one that near, and the only one
  pub near : (t : ℕ) → t < l → NearMessage h nodes (listed_lane h nodes l shares t) (message_lane h l m t)
  pub only : (t : ℕ) → t < l → (ms : List ℕ) → NearMessage h nodes (listed_lane h nodes l shares t) ms → ms ≡ message_lane h l m t
  -- there is a count for each place: of the lanes in which the node there does not hold its symbol of that message
  pub places : length wrong ≡ length nodes
  pub counts : (i : ℕ) → i < length nodes → get_or wrong i 0 ≡ count_from l 0 (λ t. not (eqb (get_or (listed_lane h nodes l shares t) i 0) (node_of h (message_lane h l m t) (get_or nodes i 0))))
  -- and the answer is their sum
  pub sums : total ≡ sum wrong
