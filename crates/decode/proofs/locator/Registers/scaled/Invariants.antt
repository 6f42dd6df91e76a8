-- `scaled` meets its contract. Invariant: the first x coefficients are written.
use lib.ListN.{get_or}
use Rattle.lists.proofs.Fill.{Filled}
use Rattle.field.specs.Fields.{mul}
use Rattle.field.specs.Kinds.{modulus}
use Rattle.decode.proofs.locator.Registers.scaled.Given as goal

abbrev pub invariant-loop-x : goal.invariant-loop-x
invariant-loop-x l = Filled 255 l.size (λ y. mul (modulus l.self.field.field) l.d (get_or l.self.w.now y 0)) l.x l.out
