-- `fill_bytes` meets its contract. The loop's invariant: the symbols below i are copied.
use native.Mathlib.Omega.{arith}
use Rattle.lists.proofs.Numbers.{below_at}
use Rattle.sliding_sums.proofs.bytes.fill_bytes.Goals as goal

pub overflow_cast-out : goal.overflow_cast-out
overflow_cast-out c = omega (arith, below_at _ _ c.requires.0 _ c.loop-i-test.true)
