-- `sub` of a prime field meets its contract: one subtraction reduces.
use mathlib.Core.Path.{sym, ◌∙◌}
use native.Mathlib.Omega.{arith}
use Rattle.field.proofs.Modular.{mod_none, mod_once}
use Rattle.field.proofs.Meanings.{sub_modulo}
use Rattle.field.proofs.prime.PrimeField.sub.Goals as goal

pub returns-then-b-a : goal.returns-then-b-a
returns-then-b-a c = mod_once _ _ _ (omega arith) (omega arith) ∙ sym (sub_modulo _ (omega arith) _ _)

pub returns-else-b-a : goal.returns-else-b-a
returns-else-b-a c = mod_none (omega arith) ∙ sym (sub_modulo _ (omega arith) _ _)
