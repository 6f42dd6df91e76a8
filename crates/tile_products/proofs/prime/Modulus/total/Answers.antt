-- `total` meets its contract: the sum is 256 times the upper bytes and what is left of it.
use Rattle.std.proofs.Common.{◌≡◌, ℕ, ◌+◌, ◌-◌, ◌*◌, ◌%◌, ap, ◌∙◌, ap₂, arith}
use Rattle.kernel.specs.Inner.Halves.{total_of}
use Rattle.tile_products.proofs.Held.{total_parts}
use Rattle.tile_products.proofs.prime.Modulus.total.Goals as goal

pub returns : goal.returns
unfolding total_of
returns c =
    let a = c.args in
    let p = a.self.p in
    let lower : (a.low + (65536 - a.up % 256 * 256)) % 65536 ≡ (a.low + 65536 - a.up % 256 * 256) % 65536 = omega arith in
    c.rest-3.ensures
    ∙ ap₂ (λ (x y : ℕ). (x * (256 % p) + y) % p) c.rest.ensures c.rest-2.ensures
    ∙ total_parts p a.up _
    ∙ ap (λ (n : ℕ). (a.up * 256 + n) % p) lower
