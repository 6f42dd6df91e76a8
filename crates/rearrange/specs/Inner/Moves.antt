-- Whose shares are moved, and how they stand before and after.
use Rattle.std.specs.Prelude.{ℕ}
use Rattle.layout.specs.Layout.{Arrangement, row_after_row, lane_after_lane}
use Rattle.generator.specs.declared.Header.{Header}
use Rattle.rearrange.specs.declared.Shares.{Shares}
use Rattle.rearrange.specs.declared.Shares.TheVariants.{All, Listed}
use Rattle.rearrange.specs.declared.Order.{Order}
use Rattle.rearrange.specs.declared.Order.TheVariants.{ByNode, ByLane}

-- a row for each node, or for each of k listed ones
abbrev pub rows_of : Shares → Header → ℕ
rows_of All h = h.n
rows_of Listed h = h.k

-- the arrangement of the buffer that is read
abbrev pub read_as : Order → Arrangement
read_as ByNode = row_after_row
read_as ByLane = lane_after_lane

-- and of the one that is written
abbrev pub written_as : Order → Arrangement
written_as ByNode = lane_after_lane
written_as ByLane = row_after_row
