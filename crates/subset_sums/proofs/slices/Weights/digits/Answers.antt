-- `Weights::digits` meets its contract: a weight is a byte.
use Rattle.std.proofs.Common.{◌≡◌, ◌<◌, length, get_or, ap, arith, rules}
use Rattle.std.specs.Prelude.{MatchOption}
use Rattle.lists.proofs.Numbers.{below_get_or}
use Rattle.subset_sums.proofs.Spreading.{length_spreads, digits_told}
use Rattle.subset_sums.proofs.slices.Weights.digits.Goals as goal

pub map_or-requires : goal.map_or-requires
map_or-requires c =
    let s = c.args.self in
    λ x e.
    let is = (rw e at c.get.ensures.lookup.3).1 0 in
    let byte : x.now < 256 = rw is (below_get_or 256 s.weights.now (omega arith) s.byte_weights c.args.i) in
    let long : length s.spread.now ≡ 256 = omega (arith, ap length s.every_byte, length_spreads) in
    ((λ κ js t r u f. omega (arith, byte)), (λ κ js t r u f k. omega (arith, byte, long)))

pub returns : goal.returns
returns c =
    let s = c.args.self in
    let told : MatchOption c.get.result (c.map_or.result ≡ 0) (λ x. c.map_or.result ≡ get_or s.spread.now x.now 0) = search rules in
    digits_told _ s.weights.now s.spread.now c.args.i _ c.get.result s.every_byte s.byte_weights (c.get.ensures.lookup.4 (omega arith) 0) told
