-- `terms` meets its contract: the terms at the row's point, from the rows' product and the inverses.
use mathlib.Core.Path.{◌≡◌, ap, ◌∙◌}
use native.Mathlib.Omega.{arith}
use lib.ListN.{length}
use Rattle.generator.specs.Records.{modulus_of}
use Rattle.node_weights.specs.Inner.Rows.{row_points}
use Rattle.node_weights.proofs.Parts.{Symbols, row_symbols}
use Rattle.lane_message.proofs.rows.GeneratorRows.terms.Goals as goal
use Rattle.lane_message.proofs.rows.GeneratorRows.terms.Goals.{Start}

-- the rows' points
points : (c : Start) → let h = c.args.self.transform.powers.codec.code.header in Symbols (modulus_of h) h.k (row_points h)
points c = row_symbols c.args.self.transform.powers.codec.code.header c.args.self.transform.powers.codec.code.sound (omega (arith, c.args.self.transform.powers.codec.code.sound.fits, c.args.self.transform.powers.codec.code.sound.byte))

many : (c : Start) → length c.args.points.now ≡ c.args.self.transform.powers.codec.code.header.k
many c = ap length c.requires.0 ∙ (points c).size

pub bounds-points-r : goal.bounds-points-r
bounds-points-r c = omega (arith, many (goal.at.bounds-points-r c).Start, c.requires.1)
