-- `new_symbols` meets its contract. Invariant: the symbols that are listed, with those of the nodes to come, are all.
use mathlib.Core.Path.{refl, sym, ◌∙◌}
use mathlib.Core.List.{append-nil, append_assoc}
use native.Mathlib.Omega.{arith}
use lib.ListN.{drop_of_length-le}
use Rattle.lists.proofs.Front.{drop_next}
use Rattle.lists.proofs.Numbers.{below_at}
use Rattle.mends.proofs.changes.Received.new_symbols.Goals as goal

pub loop-node-init : goal.loop-node-init
loop-node-init c = rw c.new-symbols.ensures record { long = refl; listed = refl }

pub mended-requires : goal.mended-requires
mended-requires c = rw c.from.ensures (below_at _ _ c.requires.0 _ c.loop-node-test.true)

pub loop-node-preserved : goal.loop-node-preserved
loop-node-preserved c =
    let l = c.loop-node in
    let next = drop_next c.args.nodes.now l.node-index 0 c.loop-node-test.true in
    record {
      long = omega (arith, l.invariant.long, c.push.ensures.len);
      listed = rw (c.push.ensures.items, append_assoc, c.mended.ensures, c.from.ensures) (rw next at l.invariant.listed);
    }

pub returns : goal.returns
returns c =
    let l = c.loop-node in
    sym (append-nil l.symbols.items) ∙ rw (drop_of_length-le c.args.nodes.now {i = l.node-index} c.loop-node-test.false) at l.invariant.listed
