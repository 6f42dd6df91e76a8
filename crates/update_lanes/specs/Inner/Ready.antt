-- A run of lanes that may change, and its lanes by themselves.
use Rattle.std.specs.Prelude.{◌≡◌, true, List, ℕ, ◌+◌, ◌*◌, ◌≤◌, ◌<◌, length}
use Rattle.lists.specs.Numbers.{all_below}
use Rattle.layout.specs.Layout.{lane_of, share_layout}
use Rattle.layout.specs.Width.{symbols_of}
use Rattle.generator.specs.declared.Header.{Header}
use Rattle.generator.specs.Records.{size, width, Sound}
use Rattle.update_lanes.specs.Runs.{run_length}

-- m symbols old and new, and shares of which the lanes of the run hold symbols
pub record UpdatableRun (h : Header) (l r first : ℕ) (old new shares : List ℕ) : Type 0 where
  pub sound : Sound h
  pub few_lanes : l ≤ 4096
  pub row : r < h.k
  pub inside : first + run_length h old ≤ l
  pub bytes : length shares ≡ h.n * l * width h
  pub old_bytes : length old ≡ run_length h old * width h
  pub new_bytes : length new ≡ run_length h old * width h
  pub old_symbols : all_below (size h) (symbols_of (width h) old) ≡ true
  pub new_symbols : all_below (size h) (symbols_of (width h) new) ≡ true
  pub lanes : (i : ℕ) → i < run_length h old → all_below (size h) (lane_of share_layout h.n l (first + i) (symbols_of (width h) shares)) ≡ true
