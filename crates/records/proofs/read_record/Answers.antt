-- `read_record` meets its contract.
use native.Mathlib.Omega.{arith}
use Rattle.records.proofs.Reading.{none_read, kind_unread}
use Rattle.records.proofs.read_record.Goals as goal

pub returns-in_default : goal.returns-in_default
returns-in_default c = none_read _ (omega arith)

pub returns-in_default-2 : goal.returns-in_default-2
returns-in_default-2 c = kind_unread _ (λ e. omega arith) (λ e. omega arith) (λ e. omega arith)
