-- `new` meets its contract. Invariant: the nodes below j are listed.
use mathlib.Core.Path.{◌≡◌}
use lib.ListN.{length}
use Rattle.lists.specs.Rows.{range}
use Rattle.plain_text.proofs.PlainLayout.new.Given as goal

abbrev pub invariant-loop-j : goal.invariant-loop-j
invariant-loop-j l = record {
  count : length l.nodes.items ≡ l.j;
  listed : l.nodes.items ≡ range 0 l.j;
}
