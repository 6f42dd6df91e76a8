-- `amended` meets its contract. Invariant: the first x coefficients are written.
use Rattle.lists.proofs.Fill.{Filled}
use Rattle.field.specs.Kinds.{modulus}
use Rattle.decode.specs.Inner.Locating.{amended_at}
use Rattle.decode.proofs.locator.Registers.amended.Given as goal

abbrev pub invariant-loop-x : goal.invariant-loop-x
invariant-loop-x l = Filled 255 l.size (amended_at (modulus l.self.field.field) l.d l.self.w.now l.i l.self.v.now l.j) l.x l.out
