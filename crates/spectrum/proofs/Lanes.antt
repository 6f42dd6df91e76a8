-- The lists that the spectrum is computed from: their lengths, and that they are symbols.
use mathlib.Core.Path.{◌≡◌}
use mathlib.Core.Bool.{true}
use mathlib.Core.List.{List}
use Prim.Native.Nat.{ℕ, ◌<◌, ◌%◌}
use native.Mathlib.Omega.{arith}
use lib.ListN.{length, drop}
use Rattle.lists.specs.Rows.{from}
use Rattle.lists.specs.Numbers.{all_below}
use Rattle.lists.proofs.Numbers.{at_below, below_at, below_drop}
use Rattle.lists.proofs.Rows.{length_from}
use Rattle.field.specs.Inner.Sums.{dot}
use Rattle.field.proofs.Bounds.{mul_below, power_below}
use Rattle.field.proofs.Sums.{dot_below}
use Rattle.generator.specs.declared.Header.{Header}
use Rattle.generator.specs.Records.{modulus_of, size, Sound}
use Rattle.generator.specs.Shifts.{negative}
use Rattle.sliding_sums.specs.Inner.Windows.{window_sums}
use Rattle.sliding_sums.proofs.Tables.{length_windows}
use Rattle.spectrum.specs.Inner.Spectrum.{triangle, chirp_at, unchirped_at, unchirped}
use Rattle.spectrum.proofs.Arrays.{value_at}

pub length_unchirped : (h : Header) (ws : List ℕ) → length (unchirped h ws) ≡ length ws
unfolding unchirped
length_unchirped h ws = length_from (unchirped_at h ws) 0 (length ws)

module _ (h : Header) (s : Sound h) where
  pub chirps_below : (m : ℕ) → all_below (size h) (from (chirp_at h) 0 m) ≡ true
  unfolding chirp_at
  chirps_below m =
      at_below (size h) (from (chirp_at h) 0 m)
      (λ x l. rw (value_at (chirp_at h) m x (omega (arith, length_from (chirp_at h) 0 m))) (power_below (modulus_of h) s.field (triangle x % h.n) s.root_below))

  pub unchirped_below : (ws : List ℕ) → all_below (size h) ws ≡ true → all_below (size h) (unchirped h ws) ≡ true
  unfolding unchirped unchirped_at
  unchirped_below ws below =
      at_below (size h) (unchirped h ws)
      (λ j l.
      let inside : j < length ws = omega (arith, length_unchirped h ws) in
      rw (value_at (unchirped_at h ws) (length ws) j inside) (mul_below (modulus_of h) s.field (below_at (size h) ws below j inside) (power_below (modulus_of h) s.field (negative h.n (triangle j % h.n)) s.root_below)))

  pub windows_below : (ws row : List ℕ) (l : ℕ) → all_below (size h) ws ≡ true → all_below (size h) row ≡ true → all_below (size h) (window_sums (modulus_of h) ws row l) ≡ true
  unfolding window_sums
  windows_below ws row l below symbols =
      at_below (size h) (window_sums (modulus_of h) ws row l)
      (λ t i. rw (value_at (λ t. dot (modulus_of h) ws (drop t row)) l t (omega (arith, length_windows (modulus_of h) ws row l))) (dot_below (modulus_of h) s.field ws (drop t row) below (below_drop (size h) t row symbols)))
