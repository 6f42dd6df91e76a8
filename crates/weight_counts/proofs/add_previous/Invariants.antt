-- `add_previous` meets its contract. Invariant: the places from b on are replaced (`Renewed`).
use Rattle.std.proofs.Common.{ℕ, ◌+◌, ◌%◌, ◌^◌, ◌≤◌}
use Rattle.weight_counts.proofs.Previous.{Renewed}
use Rattle.weight_counts.proofs.add_previous.Given as goal

-- a sum in 32 bits
abbrev pub wrapped : ℕ → ℕ → ℕ
wrapped x y = (x + y) % 2 ^ 32

abbrev pub invariant-loop-b : goal.invariant-loop-b
invariant-loop-b l = (1 ≤ l.b) × Renewed wrapped l.initial.row l.row l.b
