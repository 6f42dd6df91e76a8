-- `pick_bytes` meets its contract. The loop's invariant: the first q bytes are written.
use Rattle.std.proofs.Common.{◌+◌, ◌*◌, length, get_or}
use Rattle.lists.proofs.Parts.{Valued}
use Rattle.block_products.proofs.loading.pick_bytes.Given as goal

abbrev pub invariant-loop-q : goal.invariant-loop-q
invariant-loop-q g l = Valued (λ q. get_or l.part (q * g.row.W + g.row.V) 0) (length l.initial.out) l.initial.out l.out l.q
