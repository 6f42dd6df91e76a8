-- The bytes of a symbol: one or two, and a symbol fits them.
use mathlib.Core.Path.{◌≡◌}
use mathlib.Core.Bool.{true}
use mathlib.Core.List.{List}
use Prim.Native.Nat.{ℕ, ◌^◌, ◌≤◌, ◌<◌}
use native.Mathlib.Nat.{lt_of_lt_of_le}
use Rattle.lists.specs.Numbers.{all_below}
use Rattle.lists.proofs.Numbers.{below_at, at_below}
use Rattle.field.proofs.Widths.{bytes_range, size_fits_bytes}
use Rattle.generator.specs.declared.Header.{Header}
use Rattle.generator.specs.Records.{modulus_of, size, width, Sound}

module _ (h : Header) where
  pub width_range : (1 ≤ width h) × (width h ≤ 2)
  unfolding width
  width_range = bytes_range (modulus_of h)

  pub width_some : 0 < width h
  width_some = width_range.0

  module _ (s : Sound h) where
    pub size_fits_width : size h ≤ 256 ^ width h
    unfolding width
    size_fits_width = size_fits_bytes h.field s.usable_field

    -- so symbols fit theirs
    pub symbols_fit : (xs : List ℕ) → all_below (size h) xs ≡ true → all_below (256 ^ width h) xs ≡ true
    symbols_fit xs low = at_below (256 ^ width h) xs (λ i b. lt_of_lt_of_le (below_at (size h) xs low i b) size_fits_width)
