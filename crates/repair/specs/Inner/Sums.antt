-- Sums of planes that are chosen by the bits of weights, and the bytes that eight sums make.
use Rattle.std.specs.Prelude.{List, [], ℕ, ◌+◌, ◌*◌, ◌/◌, ◌%◌, ◌^◌, get_or}
use Rattle.lists.specs.Rows.{from}
use Rattle.lists.specs.Padded.{padded}
use Rattle.traces.specs.Traces.{xor_below}
use Rattle.repair.specs.Packing.{byte_from}

-- of n planes of so many bytes, the sum of those whose weight has bit p
unfoldable pub plane_sum : List ℕ → ℕ → ℕ → List ℕ → ℕ → List ℕ
plane_sum ws n size rows p = from (λ c. xor_below n (λ q. get_or ws q 0 / 2 ^ p % 2 * get_or rows (q * size + c) 0)) 0 size

-- the sums for all eight bits, each with zeros after it
unfoldable pub plane_sums : List ℕ → ℕ → ℕ → List ℕ → List (List ℕ)
plane_sums ws n size rows = from (λ p. padded 512 (plane_sum ws n size rows p)) 0 8

-- the byte of lane i of eight planes
unfoldable pub lane_byte : List (List ℕ) → ℕ → ℕ
lane_byte planes i = byte_from 8 (λ p. get_or (get_or planes p []) (i / 8) 0 / 2 ^ (i % 8) % 2) 0
