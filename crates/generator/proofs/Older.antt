-- Records of another kind than 3: n is a byte, and a symbol has one byte.
use mathlib.Core.Path.{◌≡◌}
use mathlib.Core.Bool.{true, false}
use mathlib.Core.List.{List}
use Prim.Native.Nat.{ℕ, ◌≤◌, ◌<◌}
use native.Mathlib.Nat.{le_refl}
use native.Mathlib.Omega.{arith}
use lib.Dec.{eqb}
use lib.ListN.{get_or}
use Rattle.lists.specs.Numbers.{all_below}
use Rattle.lists.proofs.Cases.{by_test}
use Rattle.lists.proofs.Numbers.{below_get_or}
use Rattle.field.specs.Fields.{size_of}
use Rattle.field.specs.Kinds.{modulus}
use Rattle.field.proofs.Widths.{one_byte}
use Rattle.generator.specs.Records.{header_of, size, width}

-- a list of bytes that is no record of kind 3
pub record Older (s : List ℕ) : Type 0 where
  pub bytes : all_below 256 s ≡ true
  pub kind : eqb (get_or s 0 0) 3 ≡ false

module _ (s : List ℕ) (old : Older s) where
  byte_at : (i : ℕ) → get_or s i 0 < 256
  byte_at i = below_get_or 256 s (omega arith) old.bytes i

  pub older_nodes : (header_of s).n ≤ 255
  unfolding header_of
  older_nodes = by_test (eqb (get_or s 0 0) 1) (λ t. rw t (omega (arith, byte_at 3))) (λ t. rw (t, old.kind) (omega (arith, byte_at 2)))

  older_size : size (header_of s) ≤ 256
  unfolding header_of modulus size_of
  older_size =
      by_test (eqb (get_or s 0 0) 1)
      (λ t. rw t (by_test (eqb (get_or s 1 0) 0) (λ z. rw z (le_refl 256)) (λ z. rw z (omega (arith, byte_at 1)))))
      (λ t. rw (t, old.kind) (le_refl 256))

  -- so it is read and written as before kind 3
  pub older_width : width (header_of s) ≡ 1
  unfolding width
  older_width = one_byte _ older_size
