-- `balanced_find_update` meets its contract, in each arm of the match.
use mathlib.Core.Path.{refl}
use Rattle.balanced_c.proofs.Lanes.{find_done, find_refuses}
use Rattle.balanced_c.proofs.one_lane.balanced_find_update.Goals as goal

pub returns-in-Ok : goal.returns-in-Ok
returns-in-Ok c = let (found, symbol, amount) = c.numbers_of-found.ensures in rw (found, symbol, amount) (find_done _ _ _ _ _ _ refl c.in-Ok.ensures)

pub returns-in-Err : goal.returns-in-Err
returns-in-Err c = rw c.from.ensures (find_refuses _ _ _ _ _ _ _ c.in-Err.ensures)
