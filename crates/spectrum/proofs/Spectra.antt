-- A spectrum consists of symbols.
use mathlib.Core.Path.{◌≡◌}
use mathlib.Core.Bool.{true}
use mathlib.Core.List.{List}
use Prim.Native.Nat.{ℕ}
use native.Mathlib.Omega.{arith}
use Rattle.lists.specs.Numbers.{all_below}
use Rattle.lists.proofs.Numbers.{at_below}
use Rattle.lists.proofs.Rows.{length_from}
use Rattle.generator.specs.declared.Header.{Header}
use Rattle.generator.specs.Records.{size, Sound}
use Rattle.generator.specs.Codewords.{check_from}
use Rattle.generator.proofs.Bounds.{check_from_below}
use Rattle.spectrum.specs.Inner.Spectrum.{spectrum_of}
use Rattle.spectrum.proofs.Arrays.{value_at}

module _ (h : Header) (s : Sound h) where
  pub spectrum_below : (ws : List ℕ) → all_below (size h) ws ≡ true → all_below (size h) (spectrum_of h ws) ≡ true
  unfolding spectrum_of
  spectrum_below ws below =
      at_below (size h) (spectrum_of h ws)
      (λ e l. rw (value_at (λ e. check_from h e 0 ws) h.n e (omega (arith, length_from (λ e. check_from h e 0 ws) 0 h.n))) (check_from_below h s e 0 ws below))
