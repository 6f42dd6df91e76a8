-- `largest_pair` meets its contract. The loop's invariant: all are below m where the largest so far and those from i on are.
use mathlib.Core.Path.{◌≡◌}
use mathlib.Core.Bool.{◌&&◌}
use Prim.Native.Nat.{ℕ, ◌-◌, ◌/◌, ◌<◌}
use lib.Dec.{ltb}
use lib.ListN.{length}
use Rattle.lists.specs.Numbers.{all_below}
use Rattle.lists.specs.Rows.{from}
use Rattle.layout.specs.Width.{symbol_at, symbols_of}
use Rattle.symbols.proofs.largest_pair.Given as goal

abbrev pub invariant-loop-pair : goal.invariant-loop-pair
invariant-loop-pair l = (m : ℕ) → 0 < m → all_below m (symbols_of 2 l.fn.s) ≡ (ltb l.top m && all_below m (from (symbol_at 2 l.fn.s) l.pair-index (length l.fn.s / 2 - l.pair-index)))
