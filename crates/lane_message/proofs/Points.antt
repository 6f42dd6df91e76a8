-- The points of the rows: powers of the root, whose exponents count modulo n.
use mathlib.Core.Path.{◌≡◌, sym, ap, ◌∙◌}
use mathlib.Core.List.{List}
use Prim.Native.Nat.{ℕ, ◌+◌, ◌-◌, ◌%◌, ◌≤◌, ◌<◌}
use native.Mathlib.Omega.{arith}
use lib.ListN.{length, get_or}
use Rattle.lists.specs.Rows.{from}
use Rattle.lists.specs.Padded.{padded}
use Rattle.lists.proofs.Numbers.{below_at}
use Rattle.lists.proofs.Padding.{get_or_padded, length_padded}
use Rattle.lists.proofs.Places.{map_from}
use Rattle.algebra.proofs.Powers.{pow_mod}
use Rattle.field.specs.Fields.{power}
use Rattle.field.specs.Symbols.{Symbol}
use Rattle.field.proofs.FieldOf.{number_pow}
use Rattle.generator.specs.declared.Header.{Header}
use Rattle.generator.specs.Records.{modulus_of, size, Sound}
use Rattle.generator.specs.Shifts.{shifts}
use Rattle.generator.proofs.Claims.{ours}
use Rattle.generator.proofs.Shifts.{shifts_length}
use Rattle.generator.proofs.Sound.{field_for, root_for, root_order}
use Rattle.interpolation.specs.Inner.Points.{points_of}
use Rattle.node_weights.specs.Inner.Rows.{row_points}

module _ (h : Header) (s : Sound h) where
  -- there are few rows
  pub few : h.k ≤ 255
  few = omega (arith, s.fits, s.byte)

  pub length_shifts : length (shifts h) ≡ h.k
  length_shifts = shifts_length h.n h.k s.some s.fits

  -- the padded list has a place for each row
  pub rooms : (ss : List ℕ) → ss ≡ padded 255 (shifts h) → h.k ≤ length ss
  rooms ss are = omega (arith, few, ap length are, length_padded 255 (shifts h) (omega (arith, length_shifts, few)))

  -- the shift of row r, read from the padded list
  pub shift_at : (r : ℕ) → r < h.k → (get_or (padded 255 (shifts h)) r 0 ≡ get_or (shifts h) r 0) × (get_or (padded 255 (shifts h)) r 0 < h.n)
  shift_at r row =
      let inside : r < length (shifts h) = omega (arith, length_shifts) in
      let is = get_or_padded 255 (shifts h) r inside in
      (is, rw is (below_at h.n (shifts h) (ours h s).shifts_below r inside))

  -- a power by its exponent modulo n
  pub power_modulo : (e : ℕ) → power (modulus_of h) h.root (e % h.n) ≡ power (modulus_of h) h.root e
  power_modulo e =
      sym (number_pow (modulus_of h) s.field (root_for h s) (e % h.n))
      ∙ ap (λ (x : Symbol (size h)). x.0) (pow_mod (field_for h s) (root_for h s) h.n (root_order h s) e)
      ∙ number_pow (modulus_of h) s.field (root_for h s) e

  -- the point of row r
  pub point_at : (r : ℕ) → power (modulus_of h) h.root ((get_or (shifts h) r 0 + (h.k - 1)) % h.n) ≡ power (modulus_of h) h.root (get_or (shifts h) r 0 + (h.k - 1))
  point_at r = power_modulo (get_or (shifts h) r 0 + (h.k - 1))

  pub points_from : from (λ r. power (modulus_of h) h.root (get_or (shifts h) r 0 + (h.k - 1))) 0 h.k ≡ row_points h
  unfolding row_points points_of
  points_from =
      ap (from (λ r. power (modulus_of h) h.root (get_or (shifts h) r 0 + (h.k - 1))) 0) (sym length_shifts)
      ∙ sym (map_from (λ j. power (modulus_of h) h.root (j + (h.k - 1))) (shifts h))
