-- The two cases of x times a byte.
use mathlib.Core.Path.{◌≡◌, refl}
use Prim.Native.Nat.{ℕ, ◌*◌, ◌/◌, ◌<◌, ◌≤◌}
use native.Mathlib.Omega.{arith}
use lib.Bits.{bit_xor}
use Rattle.field.specs.Bytes.{times_x}
use Rattle.field.proofs.Computed.{equal_at}

-- below 128 nothing is reduced
pub times_x_low : (a : ℕ) → a < 128 → a * 2 ≡ times_x a
unfolding times_x
times_x_low = equal_at 128 (λ a. a * 2) times_x tt

-- from 128 on the eighth power of x appears, and 0x11D is taken away
pub times_x_high : (a : ℕ) → 128 ≤ a → a < 256 → bit_xor (a * 2) 285 ≡ times_x a
unfolding times_x
times_x_high a h ha =
    let one : a / 128 ≡ 1 = omega arith in
    rw one refl
