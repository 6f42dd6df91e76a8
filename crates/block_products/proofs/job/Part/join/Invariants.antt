-- `join` meets its contract. The loop's invariant: the first q symbols are written.
use Rattle.std.proofs.Common.{◌≡◌, ℕ, ◌+◌, ◌*◌, ◌<◌, get_or}
use Rattle.block_products.proofs.job.Part.join.Given as goal

abbrev pub invariant-loop-q : goal.invariant-loop-q
invariant-loop-q l = (i v : ℕ) → i < l.q → v < 2 → get_or l.out (i * 2 + v) 0 ≡ get_or l.part (v * 64 + i) 0
