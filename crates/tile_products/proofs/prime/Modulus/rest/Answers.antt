-- `rest` meets its contract: the quotient by p is found, or one less.
use Rattle.std.proofs.Common.{◌≡◌, ℕ, ◌*◌, ◌/◌, ap, ◌∙◌, arith}
use Rattle.tile_products.proofs.Reduction.{rest_low, rest_below, rest_same}
use Rattle.tile_products.proofs.prime.Modulus.rest.Goals as goal
use Rattle.tile_products.proofs.prime.Modulus.rest.Goals.{After-upper}

quotient_is : (c : After-upper) → c.upper.result ≡ c.args.x * (65536 / c.args.self.p) / 65536
quotient_is c = c.upper.ensures ∙ ap (λ (n : ℕ). c.args.x * n / 65536) c.args.self.quotient

pub overflow_sub-x : goal.overflow_sub-x
overflow_sub-x c =
    let m = c.args.self in rw (quotient_is (goal.at.overflow_sub-x c).After-upper) (rest_low m.p c.args.x m.some (omega arith))

pub reduced-requires : goal.reduced-requires
reduced-requires c =
    let m = c.args.self in rw (quotient_is (goal.at.reduced-requires c).After-upper) (rest_below m.p c.args.x m.some (omega arith))

pub returns : goal.returns
returns c =
    let m = c.args.self in c.reduced.ensures ∙ rw (quotient_is (goal.at.returns c).After-upper) (rest_same m.p c.args.x m.some (omega arith))
