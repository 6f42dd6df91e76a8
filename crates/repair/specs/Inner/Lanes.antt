-- The bits of the digits of a share, lane by lane.
use Rattle.std.specs.Prelude.{List, ℕ, ◌/◌, ◌%◌, ◌^◌, length, get_or}
use Rattle.repair.specs.Packing.{within}

-- bit e of the digit of a lane by a table, 0 after the last lane
abbrev pub lane_bit : ℕ → List ℕ → List ℕ → ℕ → ℕ
lane_bit e table share = within (length share) (λ x. get_or table (get_or share x 0) 0 / 2 ^ e % 2)
