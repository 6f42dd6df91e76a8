-- `find` meets its contract: equal lanes, or the finding from the difference alone.
use mathlib.Core.Path.{◌≡◌, sym, ◌∙◌}
use mathlib.Core.Bool.{true≢false}
use lib.ListN.{take}
use lib.Pointwise.{bytes_decides}
use Rattle.find_update.specs.Inner.Starts.{differences}
use Rattle.find_update.proofs.Behind.{differences_lane, update_found}
use Rattle.find_update.proofs.Meaning.{finds}
use Rattle.refusals.proofs.LaneSymbols.{lane_part}
use Rattle.find_update.proofs.find.Goals as goal
use Rattle.find_update.proofs.find.Goals.{After-difference-symbols}

-- the part of n symbols of the difference
part : (c : After-difference-symbols)
    → let a = c.args in
    take a.code.header.n c.difference-symbols.result ≡ differences a.code.header a.before.now a.after.now
part c =
    let (us, vs) = c.requires in
    rw c.difference-symbols.ensures (lane_part _ _ (differences_lane _ c.args.code.sound _ _ us vs))

pub returns-then-eq : goal.returns-then-eq
returns-then-eq c =
    let (us, vs) = c.requires in
    sym ((finds _ c.args.code.sound _ _ us vs).unchanged.1 ((bytes_decides _ _).0 (sym c.eq.ensures ∙ c.if-eq.true)))

pub slice_bounds-difference-end : goal.slice_bounds-difference-end
slice_bounds-difference-end c =
    let (us, vs) = c.requires in
    rw (part (goal.at.slice_bounds-difference-end c).After-difference-symbols) (sym (differences_lane _ c.args.code.sound _ _ us vs).long)

pub invariant_of-difference-clause-lane : goal.invariant_of-difference-clause-lane
invariant_of-difference-clause-lane c =
    let (us, vs) = c.requires in
    rw (c.new.ensures, part (goal.at.invariant_of-difference-clause-lane c).After-difference-symbols) (differences_lane _ c.args.code.sound _ _ us vs)

pub returns : goal.returns
returns c =
    let (us, vs) = c.requires in
    let apart : c.args.before.now ≡ c.args.after.now → ⊥ = λ e. true≢false (sym ((bytes_decides _ _).1 e) ∙ sym c.eq.ensures ∙ c.if-eq.false) in
    c.update.ensures ∙ rw (c.new.ensures, part (goal.at.returns c).After-difference-symbols) (sym (update_found _ c.args.code.sound _ _ us vs apart))
