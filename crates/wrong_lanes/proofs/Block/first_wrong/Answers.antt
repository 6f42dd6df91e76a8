-- `first_wrong` meets its contract: the first lane that is marked.
use mathlib.Core.Bool.{not}
use lib.Dec.{eqb}
use Rattle.std.proofs.Common.{rules, tests}
use Rattle.std.proofs.lemmas.Iterator.{YieldsList-from_slice}
use Rattle.std.proofs.lemmas.Iterator.Search.{position_from_yields_List}
use Rattle.lists.specs.Padded.{zeros}
use Rattle.layout.specs.Layout.{share_layout}
use Rattle.layout.specs.Width.{symbols_of}
use Rattle.generator.specs.Records.{width}
use Rattle.wrong_lanes.proofs.Marking.{zeros_prefix, marked_place}
use Rattle.wrong_lanes.proofs.Block.first_wrong.Goals as goal

-- the marks are 0 before
pub mark_lanes-requires : goal.mark_lanes-requires
unfolding zeros
mark_lanes-requires c = zeros_prefix 4096 c.args.self.lanes c.args.self.symbols.symbol_rows.few_lanes

pub returns : goal.returns
returns c =
    let b = c.args.self in
    marked_place share_layout b.code.header b.lanes (symbols_of (width b.code.header) b.shares.now) c.mark_lanes.new.marks c.position.result c.mark_lanes.ensures
    (position_from_yields_List (λ x. not (eqb x 0)) _ _ c.position.result c.position.ensures.ran (YieldsList-from_slice c.mark_lanes.new.marks cc) (λ x b q k. search (rules, tests)))
