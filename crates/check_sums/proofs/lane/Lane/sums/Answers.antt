-- `sums` meets its contract: the sums as numbers.
use mathlib.Core.Path.{ap, ◌∙◌}
use Rattle.lists.specs.Padded.{padded}
use Rattle.check_sums.proofs.OneLane.{sums_read}
use Rattle.check_sums.proofs.lane.Lane.sums.Goals as goal

pub returns : goal.returns
returns c =
    let a = c.args in
    c.read_symbols.ensures
    ∙ rw c.fill_sums.ensures (ap (padded 255) (sums_read a.self.rows.code.header a.self.symbols.now _ c.width_of-w.ensures))
