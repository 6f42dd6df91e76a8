-- `mul` of a prime field meets its contract: the product fits.
use mathlib.Core.Path.{sym}
use native.Mathlib.Omega.{arith}
use Rattle.field.proofs.Meanings.{mul_modulo}
use Rattle.field.proofs.prime.PrimeField.mul.Goals as goal

pub returns : goal.returns
returns c = sym (mul_modulo _ (omega arith) _ _)
