-- `balanced_carried_len` meets its contract, in each arm of the match.
use Rattle.balanced_c.proofs.BytesCarried.{length_given, length_refused}
use Rattle.balanced_c.proofs.bytes_carried.balanced_carried_len.Goals as goal

pub returns-in-Ok : goal.returns-in-Ok
returns-in-Ok c = length_given _ _ _ _ c.in-Ok.ensures

pub returns-in-Err : goal.returns-in-Err
returns-in-Err c = rw c.from.ensures (length_refused _ _ _ _ c.in-Err.ensures)
