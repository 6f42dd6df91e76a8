-- Traces of bytes onto the subfields of 2, 4 and 16 elements. A subfield of 2^b elements is named by b, which is 1, 2 or 4.
use Rattle.std.specs.Prelude.{◌≡◌, ◌⊎◌, ℕ, zero, suc, ◌*◌, ◌/◌, ◌%◌, eqb}
use Rattle.std.specs.Int.Bits.{bit_xor}
use Rattle.lists.specs.Choice.{pick}
use Rattle.field.specs.Fields.{mul}

-- the three widths
abbrev pub TraceBits : ℕ → Type 0
TraceBits b = (b ≡ 1) ⊎ ((b ≡ 2) ⊎ (b ≡ 4))

-- a^(2^b), by b squarings
unfoldable pub squarings : ℕ → ℕ → ℕ
squarings zero a = a
squarings (suc b) a = squarings b (mul 0 a a)

-- `left` terms of a + a^(2^b) + a^(2^(2b)) + ..
unfoldable pub trace_from : ℕ → ℕ → ℕ → ℕ
trace_from zero b a = 0
trace_from (suc left) b a = bit_xor a (trace_from left b (squarings b a))

-- the trace onto the subfield of 2^b elements: 8/b terms
unfoldable pub trace_of : ℕ → ℕ → ℕ
trace_of b a = trace_from (8 / b) b a

-- the element of the subfield whose lowest b bits are v
unfoldable pub element : ℕ → ℕ → ℕ
element b v =
    pick (eqb b 1) (v % 2)
    (pick (eqb b 2) (bit_xor (v % 2) (214 * (v / 2 % 2)))
    (bit_xor (bit_xor (v % 2) (146 * (v / 2 % 2))) (bit_xor (68 * (v / 4 % 2)) (152 * (v / 8 % 2)))))

-- the sum of g i over the numbers i below `count`
unfoldable pub xor_below : ℕ → (ℕ → ℕ) → ℕ
xor_below zero g = 0
xor_below (suc count) g = bit_xor (xor_below count g) (g count)
