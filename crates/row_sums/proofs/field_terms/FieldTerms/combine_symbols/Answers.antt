-- `combine_symbols` meets its contract, by the width of a symbol.
use mathlib.Core.Path.{sym, ◌∙◌}
use native.Mathlib.Omega.{arith}
use Rattle.field.specs.Kinds.{modulus}
use Rattle.field.proofs.Widths.{bytes_range}
use Rattle.row_sums.proofs.TileSums.{one_after}
use Rattle.row_sums.proofs.field_terms.FieldTerms.combine_symbols.Goals as goal

pub returns-then-width-eq1 : goal.returns-then-width-eq1
returns-then-width-eq1 c =
    c.combine.ensures ∙ one_after (modulus c.args.self.field) _ _ _ _ (sym c.width.ensures ∙ c.if-width-eq1.true)

pub combine_pairs-requires : goal.combine_pairs-requires
combine_pairs-requires c =
    (c.requires, omega (arith, bytes_range (modulus c.args.self.field), c.width.ensures))
