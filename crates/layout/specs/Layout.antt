-- Where the symbols of a buffer of rows and lanes stand.
use Rattle.std.specs.Prelude.{List, ℕ, ◌+◌, ◌*◌, ◌/◌, ◌%◌, eqb, get_or}
use Rattle.lists.specs.Choice.{pick}
use Rattle.lists.specs.Rows.{from}

-- the place of row i in lane t, and the row and the lane of a place
pub record Layout : Type 0 where
  pub place : ℕ → ℕ → ℕ
  pub row : ℕ → ℕ
  pub lane : ℕ → ℕ

-- a layout for each number of rows and of lanes
abbrev pub Arrangement : Type 0
Arrangement = ℕ → ℕ → Layout

-- row after row
unfoldable pub row_after_row : Arrangement
row_after_row rows l = record { place = λ i t. i * l + t; row = λ x. x / l; lane = λ x. x % l }

-- lane after lane
unfoldable pub lane_after_lane : Arrangement
lane_after_lane rows l = record { place = λ i t. t * rows + i; row = λ x. x % rows; lane = λ x. x / rows }

-- what row i of a buffer holds in lane t
unfoldable pub held : Arrangement → ℕ → ℕ → List ℕ → ℕ → ℕ → ℕ
held y rows l s i t = get_or s ((y rows l).place i t) 0

-- lane t of a buffer
unfoldable pub lane_of : Arrangement → ℕ → ℕ → ℕ → List ℕ → List ℕ
lane_of y rows l t s = from (λ i. held y rows l s i t) 0 rows

-- the buffer with g i t in row i of lane t
unfoldable pub buffer : Arrangement → ℕ → ℕ → (ℕ → ℕ → ℕ) → List ℕ
buffer y rows l g = from (λ x. g ((y rows l).row x) ((y rows l).lane x)) 0 (rows * l)

-- a buffer arranged as y says, arranged as z says
unfoldable pub rearranged : Arrangement → Arrangement → ℕ → ℕ → List ℕ → List ℕ
rearranged y z rows l s = buffer z rows l (held y rows l s)

-- a buffer with g i in row i of lane t, and its other lanes as they are
unfoldable pub with_lane : Arrangement → ℕ → ℕ → ℕ → (ℕ → ℕ) → List ℕ → List ℕ
with_lane y rows l t g s = buffer y rows l (λ i t'. pick (eqb t' t) (g i) (held y rows l s i t'))

-- how shares stand in a buffer; a message stands row after row
unfoldable pub share_layout : Arrangement
share_layout = lane_after_lane
