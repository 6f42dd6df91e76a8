-- `new_symbols` meets its contract. Invariant: the symbols that are listed, with those of the nodes to come, are all.
use mathlib.Core.Path.{◌≡◌}
use mathlib.Core.List.{◌++◌, map}
use lib.ListN.{length, drop}
use Rattle.mends.specs.Inner.BySums.{mended_at}
use Rattle.mends.proofs.changes.Received.new_symbols.Given as goal

abbrev pub invariant-loop-node : goal.invariant-loop-node
invariant-loop-node l =
    let mended = mended_at l.self.powers.codec.code.header l.self.lane.now l.self.sums.now in
    record {
      long : length l.symbols.items ≡ l.node-index;
      listed : l.symbols.items ++ map mended (drop l.node-index l.nodes) ≡ map mended l.nodes;
    }
