-- `scale` meets its contract. The loop's invariant: the first i places hold ratios.
use Rattle.std.proofs.Common.{length, get_or}
use Rattle.lists.proofs.Parts.{Valued}
use Rattle.tile_products.specs.Inner.Ratios.{ratio_of}
use Rattle.tile_products.proofs.prime.Modulus.scale.Given as goal

abbrev pub invariant-loop-i : goal.invariant-loop-i
invariant-loop-i l = Valued (λ i. ratio_of l.fn.self.p (get_or l.weights i 0)) (length l.weights) l.initial.out l.out l.i
