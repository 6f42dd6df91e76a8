-- `times_digit` meets its contract: 0 less the digit is a mask.
use Rattle.std.proofs.Common.{arith}
use Rattle.kernel.proofs.Digits.{masked}
use Rattle.kernel.proofs.gf256.times_digit.Goals as goal

pub returns : goal.returns
returns c =
    let a = c.args in
    masked a.a a.digit _ (omega arith) (omega arith) (omega arith) (omega arith)
