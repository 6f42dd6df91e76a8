-- `row` meets its contract. Invariant: the search from 0 on is the search from r on.
use mathlib.Core.Path.{◌≡◌, sym, ap, ◌∙◌}
use mathlib.Core.Bool.{not}
use native.Mathlib.Nat.{sub-zero}
use native.Mathlib.Omega.{arith}
use lib.ListN.{get_or}
use Rattle.lists.proofs.Search.{search_next, search_found, search_end}
use Rattle.generator.specs.Shifts.{firsts}
use Rattle.plan.proofs.Plans.{first_in}
use Rattle.find_update.specs.Inner.Starts.{row_starting}
use Rattle.find_update.proofs.Multiples.{first_node}
use Rattle.find_update.proofs.compare.LaneDifference.row.Goals as goal
use Rattle.find_update.proofs.compare.LaneDifference.row.Goals.{In-loop-r}

-- the first node of row r
first : (c : In-loop-r)
    → let a = c.args in
    get_or a.self.plan.now.firsts c.loop-r.r 0 ≡ get_or (firsts a.self.codec.code.header) c.loop-r.r 0
first c =
    let sound = c.args.self.codec.code.sound in
    rw c.args.self.planned (first_in _ sound _ c.loop-r-test.true)

pub loop-r-init : goal.loop-r-init
unfolding row_starting
loop-r-init c = rw sub-zero

pub begins_at-requires : goal.begins_at-requires
begins_at-requires c =
    let sound = c.args.self.codec.code.sound in
    rw (first (goal.at.begins_at-requires c).In-loop-r, c.args.self.lane.long) (first_node _ sound _ c.loop-r-test.true)

pub returns-then-begins_at : goal.returns-then-begins_at
returns-then-begins_at c =
    let found = ap not (rw (first (goal.at.returns-then-begins_at c).In-loop-r) at (sym c.begins_at.ensures ∙ c.if-begins_at.true)) in
    (c.loop-r-test.true, c.loop-r.invariant ∙ search_found _ _ _ c.loop-r-test.true found)

pub loop-r-preserved : goal.loop-r-preserved
loop-r-preserved c =
    let passed = ap not (rw (first (goal.at.loop-r-preserved c).In-loop-r) at (sym c.begins_at.ensures ∙ c.if-begins_at.false)) in
    c.loop-r.invariant ∙ search_next _ _ _ c.loop-r-test.true passed

pub returns : goal.returns
returns c =
    let end : c.loop-r.r ≡ c.args.self.codec.code.header.k = omega (arith, c.loop-r.auto.r-end, c.loop-r-test.false) in
    c.loop-r.invariant ∙ search_end _ _ _ c.loop-r-test.false ∙ end
