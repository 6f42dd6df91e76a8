-- `symbols_below` meets its contract. The loop's invariant: all are below the size where those from i on are.
use mathlib.Core.Path.{◌≡◌}
use Prim.Native.Nat.{◌-◌, ◌/◌}
use lib.ListN.{length}
use Rattle.lists.specs.Numbers.{all_below}
use Rattle.lists.specs.Rows.{from}
use Rattle.layout.specs.Width.{symbol_at, symbols_of}
use Rattle.symbols.proofs.Width.symbols_below.Given as goal

abbrev pub invariant-loop-i : goal.invariant-loop-i
invariant-loop-i l = all_below l.size (symbols_of l.self.bytes l.s) ≡ all_below l.size (from (symbol_at l.self.bytes l.s) l.i (length l.s / l.self.bytes - l.i))
