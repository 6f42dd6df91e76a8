-- Maps of bytes that turn exclusive or into exclusive or are equal where they are equal at the eight powers of two.
use mathlib.Core.Path.{◌≡◌, sym, ap, ap₂, ◌∙◌}
use Prim.Native.Nat.{ℕ, zero, suc, ◌*◌, ◌/◌, ◌%◌, ◌^◌, ◌<◌, ◌≤◌}
use native.Mathlib.Nat.{mod-lt, mod-le, div-lt_iff_lt-mul, lt_of_lt_of_le, lt_of_le_of_lt, le_of_lt, one-mul, zero-mul, pow-suc, mul_comm, le-add_right}
use native.Mathlib.Omega.{arith}
use lib.Dec.{lit<}
use lib.Arith.{lt-one}
use lib.Pow.{pow_pos, pow_mono, split}
use lib.Bits.{bit_xor, xor_self, xor_shifted}

-- f of a sum of bytes is the sum of what f makes of them
abbrev pub Additive : (ℕ → ℕ) → Type 0
Additive f = (a b : ℕ) → a < 256 → b < 256 → f (bit_xor a b) ≡ bit_xor (f a) (f b)

-- an additive map takes 0 to 0
pub additive_zero : (f : ℕ → ℕ) → Additive f → f 0 ≡ 0
additive_zero f fa = fa 0 0 (lit< tt) (lit< tt) ∙ xor_self (f 0)

module _ (f g : ℕ → ℕ) (fa : Additive f) (ga : Additive g) (basis : (i : ℕ) → i < 8 → f (2 ^ i) ≡ g (2 ^ i)) where
  -- they agree at a power of two and at 0
  digit_agrees : (q i : ℕ) → q < 2 → i < 8 → f (q * 2 ^ i) ≡ g (q * 2 ^ i)
  digit_agrees zero i hq hi = rw zero-mul (additive_zero f fa ∙ sym (additive_zero g ga))
  digit_agrees (suc zero) i hq hi = rw one-mul (basis i hi)
  digit_agrees (suc (suc q)) i hq hi = absurd (omega arith)

  -- they agree below each power of two up to 256
  agree_below : (i : ℕ) → i ≤ 8 → (a : ℕ) → a < 2 ^ i → f a ≡ g a
  agree_below zero hi a ha = rw (lt-one ha) (additive_zero f fa ∙ sym (additive_zero g ga))
  agree_below (suc i) hi a ha =
      let q : ℕ = a / 2 ^ i in
      let r : ℕ = a % 2 ^ i in
      let hr : r < 2 ^ i = mod-lt a (pow_pos i) in
      let hq : q < 2 = (div-lt_iff_lt-mul (pow_pos i)).1 (rw (pow-suc 2 i, mul_comm (2 ^ i) 2) at ha) in
      let top : a < 256 = lt_of_lt_of_le ha (pow_mono hi) in
      let low : r < 256 = lt_of_le_of_lt (mod-le a (2 ^ i)) top in
      let high : q * 2 ^ i < 256 = lt_of_le_of_lt (le-add_right (q * 2 ^ i) r) (rw (split a i) top) in
      let e : a ≡ bit_xor (q * 2 ^ i) r = sym (split a i) ∙ sym (xor_shifted q i r hr) in
      ap f e ∙ fa (q * 2 ^ i) r high low
      ∙ ap₂ bit_xor (digit_agrees q i hq hi) (agree_below i (le_of_lt hi) r hr)
      ∙ sym (ga (q * 2 ^ i) r high low) ∙ sym (ap g e)

  -- and so at every byte
  pub agree : (a : ℕ) → a < 256 → f a ≡ g a
  agree a ha = agree_below 8 (omega arith) a ha
