-- `add` of a prime field meets its contract: one subtraction reduces.
use mathlib.Core.Path.{sym, ◌∙◌}
use native.Mathlib.Omega.{arith}
use Rattle.field.proofs.Modular.{mod_none, mod_once}
use Rattle.field.proofs.Meanings.{add_modulo}
use Rattle.field.proofs.prime.PrimeField.add.Goals as goal

pub returns-then-s-p : goal.returns-then-s-p
returns-then-s-p c = mod_none (omega arith) ∙ sym (add_modulo _ (omega arith) _ _)

pub returns-else-s-p : goal.returns-else-s-p
returns-else-s-p c = mod_once _ _ _ (omega arith) (omega arith) ∙ sym (add_modulo _ (omega arith) _ _)
