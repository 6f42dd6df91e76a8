-- The ratio of a weight fits 16 binary digits; a number of 16 binary digits modulo p.
use Rattle.std.proofs.Common.{◌≡◌, ℕ, ◌+◌, ◌-◌, ◌*◌, ◌/◌, ◌%◌, ◌<◌, ◌≤◌, sym, ap, ◌∙◌, le_refl, mod-lt, mul_assoc, mul_comm, div-lt_iff_lt-mul, add-mul, mul-le-mul, div-add-mod', mul-add, arith}
use native.Mathlib.Nat.{add-mul-mod_self_right}
use Rattle.tile_products.specs.Inner.Ratios.{ratio_of}

-- x·c by the quotient of x·r, where r·p + d is c·65536
parts : (p c r d x : ℕ) → r * p + d ≡ c * 65536 → x * c * 65536 ≡ x * r / 65536 * p * 65536 + x * r % 65536 * p + x * d
parts p c r d x ratio =
    let q : ℕ = x * r / 65536 in
    let f : ℕ = x * r % 65536 in
    let scaled : x * (r * p + d) ≡ x * (c * 65536) = ap (λ (n : ℕ). x * n) ratio in
    let quotient : (q * 65536 + f) * p ≡ x * r * p = ap (λ (n : ℕ). n * p) (div-add-mod' (x * r) 65536) in
    omega (arith, mul-add x (r * p) d, add-mul (q * 65536) f p, mul_assoc x r p, mul_assoc x c 65536, mul_assoc q 65536 p, mul_comm 65536 p, mul_assoc q p 65536)

module _ (p c : ℕ) (hp : p ≤ 256) (hc : c < p) where
  pub ratio_fits : ratio_of p c < 65536
  unfolding ratio_of
  ratio_fits = (div-lt_iff_lt-mul {k = p} (omega arith)).1 (omega arith)

-- a number of 16 binary digits
module _ (p x : ℕ) (hp : 2 ≤ p) (hx : x < 65536) where
  abbrev m : ℕ
  m = 65536 / p

  one : x * 1 * 65536 ≡ x * m / 65536 * p * 65536 + x * m % 65536 * p + x * (65536 % p)
  one = parts p 1 m (65536 % p) x (div-add-mod' 65536 p)

  pub rest_low : x * m / 65536 * p ≤ x
  rest_low = omega (arith, one)

  pub rest_below : x - x * m / 65536 * p < 2 * p
  rest_below =
      let f : x * m % 65536 ≤ 65535 = omega arith in
      let e : 65536 % p ≤ p = omega (arith, mod-lt 65536 {m = p} (omega arith)) in
      let b : x ≤ 65535 = omega arith in
      omega (arith, one, mul-le-mul f (le_refl p), mul-le-mul b e)

  pub rest_same : (x - x * m / 65536 * p) % p ≡ x % p
  rest_same =
      let q : ℕ = x * m / 65536 in
      let all : x - q * p + q * p ≡ x = omega (arith, rest_low) in
      sym (add-mul-mod_self_right (x - q * p) q p) ∙ ap (λ (n : ℕ). n % p) all
