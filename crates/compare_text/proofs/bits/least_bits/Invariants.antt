-- `least_bits` meets its contract. Invariant: the greatest of what the lines before c ask for.
use mathlib.Core.Path.{◌≡◌}
use Prim.Native.Nat.{◌<◌}
use Rattle.repair_bound.specs.Additive.{line_bits, greatest}
use Rattle.compare_text.proofs.bits.least_bits.Given as goal

abbrev pub invariant-loop-c : goal.invariant-loop-c
invariant-loop-c l = record {
  is : l.least ≡ greatest l.c (λ c. line_bits c l.d l.k);
  small : l.least < 100000;
}
