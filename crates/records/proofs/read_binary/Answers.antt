-- `read_binary` meets its contract.
use mathlib.Core.Path.{refl, ◌∙◌}
use native.Mathlib.Omega.{arith}
use Rattle.field.specs.Kinds.{usable}
use Rattle.records.proofs.Reading.{binary_body, binary_judged}
use Rattle.records.proofs.read_binary.Goals as goal

pub returns-in_default : goal.returns-in_default
returns-in_default c = binary_body _ (λ e. omega arith)

pub returns-in_default-2 : goal.returns-in_default-2
returns-in_default-2 c = binary_body _ (λ e. omega arith)

pub judge-requires : goal.judge-requires
unfolding usable
judge-requires c = refl

pub returns : goal.returns
returns c = c.judge.ensures ∙ binary_judged _ (omega arith) _ (rw c.new.ensures)
