-- `correct_any` meets its contract: the shares stay where no lane is marked.
use native.Mathlib.Omega.{arith}
use Rattle.lists.proofs.Numbers.{at_below}
use Rattle.correct.proofs.Clean.{clean_says}
use Rattle.correct.proofs.correct_any.Goals as goal

pub returns-then-none_marked : goal.returns-then-none_marked
returns-then-none_marked c =
    clean_says c.requires (c.none_marked.ensures c.if-none_marked.true) (at_below 256 _ (λ i h. omega (arith, c.type_inv.shares i)))
