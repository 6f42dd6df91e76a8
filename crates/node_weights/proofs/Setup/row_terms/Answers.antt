-- `Setup::row_terms` meets its contract: the terms at the row's point.
use mathlib.Core.Path.{ap, ◌∙◌}
use Prim.Native.Nat.{◌<◌}
use native.Mathlib.Omega.{arith}
use lib.ListN.{get_or}
use Rattle.lists.proofs.Numbers.{below_at}
use Rattle.generator.specs.Records.{modulus_of, size}
use Rattle.node_weights.specs.declared.Basis.{Basis}
use Rattle.node_weights.specs.Inner.Rows.{basis_of, row_points, row_terms}
use Rattle.node_weights.proofs.Parts.{Symbols, Parts, parts, row_symbols}
use Rattle.node_weights.proofs.Setup.row_terms.Goals as goal
use Rattle.node_weights.proofs.Setup.row_terms.Goals.{Start}

-- the rows' points, and what their basis holds
points : (c : Start) → let h = c.args.codec.code.header in Symbols (modulus_of h) h.k (row_points h)
points c = row_symbols c.args.codec.code.header c.args.codec.code.sound (omega (arith, c.args.codec.code.sound.fits, c.args.codec.code.sound.byte))

rows : (c : Start) → let h = c.args.codec.code.header in Parts (modulus_of h) h.k (row_points h) c.args.self.now.shifts
rows c = parts _ c.args.codec.code.sound.field _ _ _ (points c) c.requires.0

-- the row's point
point : (c : Start) → get_or c.args.self.now.shifts.points c.args.r 0 < size c.args.codec.code.header
point c = rw ((rows c).point c.args.r c.requires.2) (below_at _ _ (points c).are.below _ (omega (arith, (points c).size, c.requires.2)))

pub terms_at-requires : goal.terms_at-requires
unfolding basis_of
terms_at-requires c = (ap (λ (b : Basis). b.product) c.requires.0, c.requires.1, point (goal.at.terms_at-requires c).Start)

pub returns : goal.returns
unfolding row_terms
returns c = c.terms_at.ensures ∙ rw ((rows (goal.at.returns c).Start).point c.args.r c.requires.2)
