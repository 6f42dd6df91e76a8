-- `fill_exponents` meets its contract. Invariant: the exponents below x are written, and the next one and x are known modulo n.
use mathlib.Core.Path.{◌≡◌}
use Prim.Native.Nat.{◌%◌}
use lib.ListN.{length}
use Rattle.lists.proofs.Parts.{Valued}
use Rattle.spectrum.specs.Inner.Spectrum.{triangle}
use Rattle.spectrum.proofs.chirps.fill_exponents.Given as goal

abbrev pub invariant-loop-exponent : goal.invariant-loop-exponent
invariant-loop-exponent l =
    let x = l.exponent-index in Valued (λ x. triangle x % l.n) (length l.initial.out) l.initial.out l.out x × (l.sum ≡ triangle x % l.n) × (l.step ≡ x % l.n)
