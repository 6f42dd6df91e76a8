-- `fill_codes` meets its contract: a weight of two bytes stands for itself.
use Rattle.field.proofs.Primes.{two≤prime}
use Rattle.tile_products.proofs.primes.Prime.fill_codes.Goals as goal

pub new-requires : goal.new-requires
new-requires c = let m = c.args.self in record { some = two≤prime m.p m.prime; fits = c.if-has_bytes.ensures }
