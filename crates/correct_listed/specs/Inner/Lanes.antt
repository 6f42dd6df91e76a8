-- One lane of the shares of listed nodes, and counts of places.
use Rattle.std.specs.Prelude.{not, List, ℕ, ◌+◌, eqb, length, get_or}
use Rattle.lists.specs.Choice.{when}
use Rattle.lists.specs.Rows.{from}
use Rattle.layout.specs.Layout.{lane_after_lane, lane_of}
use Rattle.layout.specs.Width.{symbols_of}
use Rattle.generator.specs.declared.Header.{Header}
use Rattle.generator.specs.Records.{width}

-- the symbols of lane t
abbrev pub lane_listed : Header → List ℕ → ℕ → List ℕ → ℕ → List ℕ
lane_listed h nodes l shares t = lane_of lane_after_lane (length nodes) l t (symbols_of (width h) shares)

-- one more for each place at which xs and ys differ
abbrev pub unlike_added : List ℕ → List ℕ → List ℕ → List ℕ
unlike_added xs ys counts = from (λ i. get_or counts i 0 + when (not (eqb (get_or xs i 0) (get_or ys i 0))) 1) 0 (length counts)
