-- `combine_pairs` meets its contract: the rows of the sums, turned, are the symbols.
use mathlib.Core.Path.{sym, ap, ◌∙◌}
use Prim.Native.Nat.{ℕ}
use Rattle.layout.specs.Layout.{row_after_row, lane_after_lane, rearranged}
use Rattle.field.specs.Kinds.{modulus}
use Rattle.row_sums.specs.Inner.Terms.{terms_tile}
use Rattle.row_sums.proofs.TileSums.{turned_after}
use Rattle.row_sums.proofs.field_terms.FieldTerms.combine_pairs.Goals as goal

pub returns : goal.returns
returns c =
    let p = modulus c.args.self.field in
    let t = c.args.self.terms in
    c.scatter.ensures
    ∙ ap (rearranged row_after_row lane_after_lane 2 t.lanes) c.combine.ensures
    ∙ ap (λ (w : ℕ). rearranged row_after_row lane_after_lane w t.lanes (terms_tile p t)) (sym c.requires.1)
    ∙ turned_after p _ t.lanes t.weights.now t.rows.now
