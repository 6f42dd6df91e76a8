-- `times_x` meets its contract: a computed test of each byte.
use Rattle.std.proofs.Common.{arith}
use Rattle.kernel.proofs.Digits.{times_x_masked}
use Rattle.kernel.proofs.gf256.times_x.Goals as goal

pub returns : goal.returns
returns c = rw c.times_digit.ensures (times_x_masked c.args.a (omega arith))
