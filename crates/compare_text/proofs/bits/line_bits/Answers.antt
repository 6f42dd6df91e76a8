-- `line_bits` meets its contract: the powers of two fit, and what is left is divided and rounded up.
use mathlib.Core.Path.{◌≡◌, sym, ◌∙◌}
use Prim.Native.Nat.{ℕ, ◌+◌, ◌-◌, ◌*◌, ◌/◌, ◌%◌, ◌^◌, ◌≤◌, ◌<◌, min}
use native.Mathlib.Nat.{mod-eq_of_lt, one-mul, add-mul, div-eq_of_lt-le}
use native.Mathlib.Omega.{arith}
use lib.Pow.{pow_mono, pow_pos}
use Rattle.std.proofs.lemmas.Grind.{div_ceil_times}
use Rattle.scheme.specs.Costs.{ceil}
use Rattle.repair_bound.specs.Additive.{worth, line_bits}
use Rattle.compare_text.proofs.bits.line_bits.Goals as goal

-- a power of two that is shifted to is not cut off
shifted : (x : ℕ) → x ≤ 8 → 1 * 2 ^ x % 4294967296 ≡ 2 ^ x
shifted x l = rw one-mul (mod-eq_of_lt (omega (arith, pow_mono l)))

-- the library's quotient that is rounded up
rounded_up : (a n : ℕ) → 0 < n → a / n + min 1 (a % n) ≡ ceil a n
rounded_up a n some =
    let k = a / n + min 1 (a % n) in
    let (most, least) = div_ceil_times a n some in
    sym (div-eq_of_lt-le {k = k} n {m = a + (n - 1)} (omega arith) (omega (arith, add-mul k 1 n, one-mul n)))

pub returns-clause-is : goal.returns-clause-is
unfolding line_bits worth
returns-clause-is c =
    let left = c.saturating_sub-2.result in
    let low : 1 * 2 ^ (7 - c.args.c) % 4294967296 ≡ 2 ^ (7 - c.args.c) = shifted (7 - c.args.c) (omega arith) in
    let high : 1 * 2 ^ (8 - c.args.c) % 4294967296 ≡ 2 ^ (8 - c.args.c) = shifted (8 - c.args.c) (omega arith) in
    let asked : c.div_ceil.result ≡ ceil left (2 ^ (7 - c.args.c)) = (rw low at c.div_ceil.ensures) ∙ rounded_up left (2 ^ (7 - c.args.c)) (pow_pos (7 - c.args.c)) in
    rw (c.saturating_sub-2.ensures, c.saturating_sub.ensures, low, high) at asked
