-- The shares of listed nodes: the message nearest to each lane, and in how many lanes each place of the list is wrong; over symbols, in every arrangement y of shares, and in the bytes of lent buffers.
use Rattle.std.specs.Prelude.{Bool, not, List, ℕ, eqb, length, get_or}
use Rattle.lists.specs.Counting.{count_from}
use Rattle.lists.specs.Rows.{from}
use Rattle.lists.specs.Search.{first_false}
use Rattle.layout.specs.Layout.{Arrangement, row_after_row, held, lane_of, buffer}
use Rattle.layout.specs.Width.{symbols_of, bytes_of}
use Rattle.generator.specs.declared.Header.{Header}
use Rattle.generator.specs.Records.{width}
use Rattle.generator.specs.Codewords.{node_of}
use Rattle.near_message.specs.Nearest.{has_near_message, near_message}

-- the message nearest to lane t
unfoldable pub near_message_at : Arrangement → Header → List ℕ → ℕ → List ℕ → ℕ → List ℕ
near_message_at y h nodes l s t = near_message h nodes (lane_of y (length nodes) l t s)

-- that of each lane, as a message buffer
unfoldable pub near_messages : Arrangement → Header → List ℕ → ℕ → List ℕ → List ℕ
near_messages y h nodes l s = buffer row_after_row h.k l (λ r t. get_or (near_message_at y h nodes l s t) r 0)

-- the symbol at place i of lane t is not what that node holds for the message
unfoldable pub wrong_at : Arrangement → Header → List ℕ → ℕ → List ℕ → ℕ → ℕ → Bool
wrong_at y h nodes l s i t = not (eqb (held y (length nodes) l s i t) (node_of h (near_message_at y h nodes l s t) (get_or nodes i 0)))

-- for each place of the list, in how many lanes
unfoldable pub wrong_counts : Arrangement → Header → List ℕ → ℕ → List ℕ → List ℕ
wrong_counts y h nodes l s = from (λ i. count_from l 0 (wrong_at y h nodes l s i)) 0 (length nodes)

-- the smallest lane that no message is near enough to, or l where each has one
unfoldable pub first_far_listed : Arrangement → Header → List ℕ → ℕ → List ℕ → ℕ
first_far_listed y h nodes l s = first_false l 0 (λ t. has_near_message h nodes (lane_of y (length nodes) l t s))

-- the same of shares as bytes
unfoldable pub near_message_bytes : Arrangement → Header → List ℕ → ℕ → List ℕ → List ℕ
near_message_bytes y h nodes l shares = bytes_of (width h) (near_messages y h nodes l (symbols_of (width h) shares))

unfoldable pub wrong_numbers : Arrangement → Header → List ℕ → ℕ → List ℕ → List ℕ
wrong_numbers y h nodes l shares = wrong_counts y h nodes l (symbols_of (width h) shares)

-- number 14: some lane has no message that near
unfoldable pub far_listed_bad : Arrangement → Header → List ℕ → ℕ → List ℕ → Bool
far_listed_bad y h nodes l shares = not (eqb (first_far_listed y h nodes l (symbols_of (width h) shares)) l)
