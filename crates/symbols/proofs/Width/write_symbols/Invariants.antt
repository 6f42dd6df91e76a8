-- `write_symbols` meets its contract. The loop's invariant: the bytes of the symbols below i are written.
use Prim.Native.Nat.{◌*◌}
use lib.ListN.{drop}
use Rattle.lists.proofs.Fill.{Fills}
use Rattle.layout.specs.Width.{bytes_of}
use Rattle.symbols.proofs.Width.write_symbols.Given as goal

abbrev pub invariant-loop-i : goal.invariant-loop-i
invariant-loop-i l = Fills l.initial.out l.out (l.i * l.self.bytes) (bytes_of l.self.bytes (drop l.i l.symbols)) (bytes_of l.self.bytes l.symbols)
