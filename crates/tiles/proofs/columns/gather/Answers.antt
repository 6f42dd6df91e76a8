-- `gather` meets its contract: the lanes as a table, turned, or 64 lanes at a time.
use Rattle.std.proofs.Common.{◌∙◌}
use Rattle.layout.proofs.Runs.{turned}
use Rattle.tiles.proofs.columns.gather.Goals as goal

pub returns-then-lanes-lt-FEW : goal.returns-then-lanes-lt-FEW
returns-then-lanes-lt-FEW c =
    let a = c.args.lanes in c.scatter.ensures ∙ turned a.rows a.count a.bytes.now
