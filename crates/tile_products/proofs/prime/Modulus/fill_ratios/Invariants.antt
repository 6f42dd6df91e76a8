-- `fill_ratios` meets its contract. The loop's invariant: the first c of p places hold ratios.
use Rattle.lists.proofs.Parts.{Valued}
use Rattle.tile_products.specs.Inner.Ratios.{ratio_of}
use Rattle.tile_products.proofs.prime.Modulus.fill_ratios.Given as goal

abbrev pub invariant-loop-c : goal.invariant-loop-c
invariant-loop-c l = Valued (ratio_of l.p) l.p l.initial.codes l.codes l.c
