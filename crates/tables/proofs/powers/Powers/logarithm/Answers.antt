-- `logarithm` meets its contract.
use mathlib.Core.Path.{◌≡◌, sym, ap, ◌∙◌}
use lib.Dec.{eqb}
use lib.ListN.{length}
use Rattle.std.proofs.Common.{rules, tests, zero-add}
use Rattle.std.proofs.lemmas.Iterator.{YieldsList-from_slice}
use Rattle.std.proofs.lemmas.Iterator.Search.{position_from_yields_List}
use Rattle.std.specs.List.{position}
use Rattle.lists.specs.Rows.{from}
use Rattle.lists.proofs.Rows.{length_from}
use Rattle.field.specs.Fields.{power}
use Rattle.tables.specs.Tables.{logarithm_of}
use Rattle.tables.proofs.Places.{first_place, place_or}
use Rattle.tables.proofs.powers.Powers.logarithm.Goals as goal

pub returns-clause-value : goal.returns-clause-value
unfolding logarithm_of
returns-clause-value c =
    let s = c.args.self.now in
    let a = c.args.a in
    let each : s.powers ≡ from (power 0 2) 0 255 = s.each in
    let size : length s.powers ≡ 255 = ap length each ∙ length_from (power 0 2) 0 255 in
    let found : c.position.result ≡ position (λ x. eqb x a) s.powers = position_from_yields_List (λ x. eqb x a) _ _ c.position.result c.position.ensures.ran (YieldsList-from_slice s.powers cc) (λ x b q k. search (rules, tests)) in
    c.unwrap_or.ensures ∙ rw (found, place_or (λ x. eqb x a) s.powers 255 size, each) (sym (first_place (power 0 2) a 255 0 ∙ zero-add _))
