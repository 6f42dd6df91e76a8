-- The quotient of x·c by p from the ratio r = c·256 / p, for a byte x: x·r / 256 is the quotient or one less.
use Rattle.std.proofs.Common.{◌≡◌, ℕ, ◌+◌, ◌-◌, ◌*◌, ◌/◌, ◌%◌, ◌<◌, ◌≤◌, sym, ap, ◌∙◌, le_refl, mod-lt, mul_assoc, mul_comm, add-mul, mul-le-mul, div-add-mod', mul-add, arith}
use native.Mathlib.Nat.{add-mul-mod_self_right}

-- a product of bytes fits 16 bits
pub byte_product : (a b : ℕ) → a < 256 → b < 256 → a * b < 65536
byte_product a b ha hb =
    let la : a ≤ 255 = omega arith in
    let lb : b ≤ 255 = omega arith in
    omega (arith, mul-le-mul la lb)

-- what is left of x·c is below 2·p and x·c modulo p
pub record Estimate (p c r x : ℕ) : Type 0 where
  pub low : x * r / 256 * p ≤ x * c
  pub below : x * c - x * r / 256 * p < 2 * p
  pub same : (x * c - x * r / 256 * p) % p ≡ x * c % p

module _ (p c r x : ℕ) (e : r ≡ c * 256 / p) (hp : p ≤ 256) (hc : c < p) (hx : x < 256) where
  -- x·c, 256 times, by the quotients and the remainders
  parts : x * c * 256 ≡ x * r / 256 * p * 256 + x * r % 256 * p + x * (c * 256 % p)
  parts =
      let q : ℕ = x * r / 256 in
      let f : ℕ = x * r % 256 in
      let d : ℕ = c * 256 % p in
      let ratio : r * p + d ≡ c * 256 = rw e (div-add-mod' (c * 256) p) in
      let scaled : x * (r * p + d) ≡ x * (c * 256) = ap (λ (n : ℕ). x * n) ratio in
      let quotient : (q * 256 + f) * p ≡ x * r * p = ap (λ (n : ℕ). n * p) (div-add-mod' (x * r) 256) in
      omega (arith, mul-add x (r * p) d, add-mul (q * 256) f p, mul_assoc x r p, mul_assoc x c 256, mul_assoc q 256 p, mul_comm 256 p, mul_assoc q p 256)

  quotient_low : x * r / 256 * p ≤ x * c
  quotient_low = omega (arith, parts)

  rest_below : x * c - x * r / 256 * p < 2 * p
  rest_below =
      let f : x * r % 256 ≤ 255 = omega arith in
      let d : c * 256 % p ≤ p = omega (arith, mod-lt (c * 256) {m = p} (omega arith)) in
      let b : x ≤ 255 = omega arith in
      omega (arith, parts, mul-le-mul f (le_refl p), mul-le-mul b d)

  rest_same : (x * c - x * r / 256 * p) % p ≡ x * c % p
  rest_same =
      let q : ℕ = x * r / 256 in
      let whole : x * c - q * p + q * p ≡ x * c = omega (arith, quotient_low) in
      sym (add-mul-mod_self_right (x * c - q * p) q p) ∙ ap (λ (n : ℕ). n % p) whole

  pub estimate : Estimate p c r x
  estimate =
      record {
        low = quotient_low;
        below = rest_below;
        same = rest_same;
      }
