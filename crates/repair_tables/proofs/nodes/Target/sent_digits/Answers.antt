-- `Target::sent_digits` meets its contract.
use mathlib.Core.Path.{◌∙◌}
use Prim.Native.Nat.{◌<◌}
use native.Mathlib.Omega.{arith}
use Rattle.traces.specs.Repairs.{sent_digit}
use Rattle.repair_tables.proofs.Steps.{table_is, kind_symbol, binary_of}
use Rattle.repair_tables.proofs.nodes.Target.sent_digits.Goals as goal
use Rattle.repair_tables.proofs.nodes.Target.sent_digits.Goals.{After-factor-f}

-- the factor is a byte
low : (c : After-factor-f) → c.factor-f.result < 256
low c = kind_symbol _ _ (binary_of _ _ _ c.args.self.needed) c.factor-f.ensures.symbol

pub sixteen-low-requires : goal.sixteen-low-requires
sixteen-low-requires c = (low (goal.at.sixteen-low-requires c).After-factor-f, omega arith)

pub sixteen-high-requires : goal.sixteen-high-requires
sixteen-high-requires c = (low (goal.at.sixteen-high-requires c).After-factor-f, omega arith)

pub returns : goal.returns
unfolding sent_digit
returns c =
    let t = c.args.self in
    c.sums.ensures
    ∙ table_is _ _ _ _ _ (binary_of _ _ _ t.needed) (low (goal.at.returns c).After-factor-f) c.sixteen-low.ensures c.sixteen-high.ensures
    ∙ rw (c.factor-f.ensures.is, t.needed)
