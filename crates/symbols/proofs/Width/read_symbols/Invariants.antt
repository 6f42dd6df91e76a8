-- `read_symbols` meets its contract. The loop's invariant: the symbols below i are read.
use Prim.Native.Nat.{◌/◌}
use lib.ListN.{length}
use Rattle.lists.proofs.Fill.{Filled}
use Rattle.layout.specs.Width.{symbol_at}
use Rattle.symbols.proofs.Width.read_symbols.Given as goal

abbrev pub invariant-loop-i : goal.invariant-loop-i
invariant-loop-i l = Filled 255 (length l.s / l.self.bytes) (symbol_at l.self.bytes l.s) l.i l.symbols
