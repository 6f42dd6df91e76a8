-- `Factor::times` meets its contract: the product less the estimated quotient times p is below 2·p.
use Rattle.std.proofs.Common.{◌∙◌, arith}
use Rattle.kernel.proofs.Ratio.{Estimate, estimate}
use Rattle.kernel.proofs.prime.Factor.times.Goals as goal
use Rattle.kernel.proofs.prime.Factor.times.Goals.{Start}

-- what the ratio says of the product
known : (c : Start) → let f = c.args.self in Estimate f.p f.c f.ratio c.args.x
known c = let f = c.args.self in estimate f.p f.c f.ratio c.args.x f.quotient f.byte f.symbol (omega arith)

pub overflow_sub-a : goal.overflow_sub-a
overflow_sub-a c = (known (goal.at.overflow_sub-a c).Start).low

pub reduced-requires : goal.reduced-requires
reduced-requires c = (known (goal.at.reduced-requires c).Start).below

pub returns : goal.returns
returns c = c.reduced.ensures ∙ (known (goal.at.returns c).Start).same
