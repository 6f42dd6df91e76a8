use Rattle.std.proofs.Common.{◌%◌, get_or}
use Rattle.lists.proofs.Parts.{Valued}
use Rattle.kernel.specs.Inner.Halves.{total_of}
use Rattle.tile_products.proofs.prime.Modulus.store.Given as goal

abbrev pub invariant-loop-t : goal.invariant-loop-t
invariant-loop-t l = Valued (λ t. total_of (get_or l.sums.rest t 0) (get_or l.sums.upper t 0) % l.self.p) 64 l.initial.out l.out l.t
