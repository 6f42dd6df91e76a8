-- `ruled_out` meets its contract.
use mathlib.Core.Path.{◌≡◌, ap, ap₂, ◌∙◌}
use Prim.Native.Nat.{ℕ, ◌+◌, ◌-◌, ◌*◌, ◌/◌, ◌%◌, ◌^◌, min, ◌≤◌, ◌<◌}
use native.Mathlib.Nat.{div-le_self, one-mul, mul-le-mul, mod-eq_of_lt, pow-le-pow_right}
use native.Mathlib.Omega.{arith}
use lib.Bits.{bit_xor, xor_lt}
use Rattle.carrying.specs.Masks.{ruled_out}
use Rattle.carry.proofs.masks.ruled_out.Goals as goal
use Rattle.carry.proofs.masks.ruled_out.Goals.{Start}

-- the word's leading digits under those of the mask
small : (c : Start) → bit_xor (c.args.w / 2 ^ c.args.k) c.args.a < 65536
small c = xor_lt 16 (c.args.w / 2 ^ c.args.k) c.args.a (omega (arith, div-le_self c.args.w (2 ^ c.args.k))) c.requires.1

pub returns : goal.returns
unfolding ruled_out
returns c =
    let p = c.args.p in
    let k = c.args.k in
    let v = bit_xor (c.args.w / 2 ^ k) c.args.a in
    let few = pow-le-pow_right {n = 2} (omega arith) {i = k} {j = 15} c.requires.0 in
    let one : 1 * 2 ^ k % 4294967296 ≡ 2 ^ k = ap (λ (x : ℕ). x % 4294967296) (one-mul (2 ^ k)) ∙ mod-eq_of_lt (omega arith) in
    let most : (v + 1) * 2 ^ k ≤ 65536 * 32768 = mul-le-mul {n₁ = v + 1} {m₁ = 2 ^ k} {n₂ = 65536} {m₂ = 32768} (omega (arith, small (goal.at.returns c).Start)) few in
    let end : (v + 1) * 2 ^ k % 4294967296 ≡ (v + 1) * 2 ^ k = mod-eq_of_lt (omega arith) in
    let over : c.saturating_sub.result ≡ (v + 1) * 2 ^ k - p = c.saturating_sub.ensures ∙ ap (λ (x : ℕ). x - p) end in
    let is : c.min.result ≡ min (2 ^ k) ((v + 1) * 2 ^ k - p) = c.min.ensures ∙ ap₂ min one over in
    (is, omega (arith, is, few))
