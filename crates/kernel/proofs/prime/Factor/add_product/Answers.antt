-- `Factor::add_product` meets its contract.
use Rattle.std.proofs.Common.{arith}
use Rattle.field.proofs.Meanings.{add_modulo, mul_modulo}
use Rattle.kernel.proofs.prime.Factor.add_product.Goals as goal

pub returns : goal.returns
returns c =
    let f = c.args.self in
    rw (add_modulo f.p (omega arith), mul_modulo f.p (omega arith), ← c.times.ensures) c.reduced.ensures
