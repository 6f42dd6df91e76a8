-- `put` meets its contract. Invariant: with the symbols at the nodes that are to come it is the array with all of them.
use mathlib.Core.Path.{◌≡◌}
use lib.ListN.{length, drop}
use Rattle.lists.specs.Padded.{zeros}
use Rattle.near_message.specs.Inner.Listed.{put_at}
use Rattle.decode_listed.proofs.nodes.put.Given as goal

abbrev pub invariant-loop-node : goal.invariant-loop-node
invariant-loop-node l = (length l.out ≡ 255) × (put_at (drop (length l.yielded) l.nodes) (drop (length l.yielded) l.symbols) l.out ≡ put_at l.nodes l.symbols (zeros 255))
