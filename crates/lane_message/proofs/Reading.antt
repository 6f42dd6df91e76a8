-- The coefficients' sums as they are read.
use mathlib.Core.Path.{◌≡◌}
use mathlib.Core.Bool.{true}
use mathlib.Core.List.{List}
use Prim.Native.Nat.{ℕ}
use native.Mathlib.Omega.{arith}
use lib.ListN.{length, get_or}
use Rattle.lists.specs.Numbers.{all_below}
use Rattle.lists.proofs.Numbers.{at_below, below_at}
use Rattle.lists.proofs.Rows.{length_from}
use Rattle.generator.specs.declared.Header.{Header}
use Rattle.generator.specs.Records.{size, Sound}
use Rattle.generator.specs.Shifts.{negative}
use Rattle.generator.proofs.LaidShifts.{negative_below}
use Rattle.spectrum.proofs.Arrays.{value_at}
use Rattle.lane_message.specs.Inner.Symbols.{coefficients_of}

pub length_coefficients : (h : Header) (spectrum : List ℕ) → length (coefficients_of h spectrum) ≡ h.k
unfolding coefficients_of
length_coefficients h spectrum = length_from (λ c. get_or spectrum (negative h.n c) 0) 0 h.k

pub coefficients_below : (h : Header) → Sound h → (spectrum : List ℕ) → length spectrum ≡ h.n → all_below (size h) spectrum ≡ true → all_below (size h) (coefficients_of h spectrum) ≡ true
unfolding coefficients_of
coefficients_below h s spectrum long below =
    at_below (size h) (coefficients_of h spectrum)
    (λ c l.
    rw (value_at (λ c. get_or spectrum (negative h.n c) 0) h.k c (omega (arith, length_coefficients h spectrum)))
    (below_at (size h) spectrum below (negative h.n c) (rw long (negative_below h.n c (omega (arith, s.two))))))
