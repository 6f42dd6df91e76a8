-- `locate` meets its contract. Invariant: the arrays hold the lists of the algorithm after r steps.
use mathlib.Core.Path.{◌≡◌}
use Prim.Native.Nat.{◌-◌, ◌≤◌}
use lib.ListN.{length}
use Rattle.field.specs.Kinds.{modulus}
use Rattle.field.proofs.KindLaws.{usable_field}
use Rattle.decode.proofs.Steps.{Held}
use Rattle.decode.proofs.locator.locate.Given as goal

abbrev pub invariant-loop-r : goal.invariant-loop-r
invariant-loop-r l = record {
  low : l.l ≤ l.r;
  long_w : length l.w ≡ 255;
  long_v : length l.v ≡ 255;
  held : Held (modulus l.field.field) (usable_field _ l.field.usable) l.s l.w l.v l.l (l.r - l.l);
}
