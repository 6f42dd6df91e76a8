-- `is_prime` meets its contract. The loop's invariant: no number from 2 on below `d` divides `p`.
use mathlib.Core.Path.{◌≡◌}
use Prim.Native.Nat.{ℕ, ◌%◌, ◌≤◌, ◌<◌}
use Rattle.field.proofs.prime.is_prime.Given as goal

abbrev pub invariant-loop-d : goal.invariant-loop-d
invariant-loop-d l = (k : ℕ) → k < l.d → 2 ≤ k → l.p % k ≡ 0 → ⊥
