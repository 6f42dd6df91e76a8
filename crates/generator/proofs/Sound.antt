-- The field, root and order of a sound header in the terms of the algebra.
use mathlib.Core.Path.{◌≡◌}
use Prim.Native.Nat.{◌+◌, ◌-◌, ◌≤◌}
use native.Mathlib.Omega.{arith}
use Rattle.algebra.specs.Field.{Field}
use Rattle.algebra.specs.Powers.{Order}
use Rattle.field.specs.Symbols.{Symbol}
use Rattle.field.proofs.Symbols.{symbol}
use Rattle.field.proofs.FieldOf.{field_of}
use Rattle.field.proofs.Orders.{order_is}
use Rattle.generator.specs.declared.Header.{Header}
use Rattle.generator.specs.Records.{modulus_of, size, distance, Sound}

module _ (h : Header) (s : Sound h) where
  -- the field, with the symbols below its size
  abbrev pub field_for : Field
  field_for = field_of (modulus_of h) s.field

  -- the root as a symbol, of order n
  abbrev pub root_for : Symbol (size h)
  root_for = symbol (size h) h.root s.root_below

  pub root_order : Order field_for root_for h.n
  root_order = order_is (modulus_of h) s.field root_for h.n s.order (omega (arith, s.two))

  -- d − 1 is n − k, and n − d is k − 1
  pub offset : h.n - distance h ≡ h.k - 1
  unfolding distance
  offset = omega (arith, s.some, s.fits)

  pub last_row : h.k - 1 + 1 ≡ h.k
  last_row = omega (arith, s.some)

  pub weight_fits : distance h ≤ h.n
  unfolding distance
  weight_fits = omega (arith, s.some, s.fits)
