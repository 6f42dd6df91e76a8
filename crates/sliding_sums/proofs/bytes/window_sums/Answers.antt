-- `window_sums` meets its contract: the lists, the table and the sums, one after the other.
use mathlib.Core.Path.{◌≡◌, ap, ◌∙◌}
use Prim.Native.Nat.{ℕ, ◌*◌, ◌/◌, ◌≤◌}
use native.Mathlib.Omega.{arith}
use lib.ListN.{length, drop}
use lib.Seq.{length-take-le}
use Rattle.lists.proofs.Rows.{length_from}
use Rattle.subset_sums.specs.Inner.Lists.{Slices}
use Rattle.sliding_sums.specs.Inner.Tables.{sliding_table, Placed}
use Rattle.sliding_sums.proofs.Right.{slices_inside, sums_right}
use Rattle.sliding_sums.proofs.bytes.window_sums.Goals as goal
use Rattle.sliding_sums.proofs.bytes.window_sums.Goals.{After-load}

tab_long : (c : After-load) → length c.load.new.tab ≡ 8192
unfolding sliding_table
tab_long c = ap length c.load.ensures ∙ length_from _ 0 8192

-- the lists have a place for each group
list_long : (c : After-load) → length c.prepare.new.list ≡ 8 * c.div_ceil-size.result
list_long c = c.prepare.auto.list ∙ length-take-le _ _ (omega (arith, c.requires.few))

placed : (c : After-load) → Placed c.div_ceil-size.result c.args.weights.now c.prepare.new.list c.prepare.new.counts
placed c =
    let groups : length c.prepare.new.list / 8 ≡ c.div_ceil-size.result = omega (arith, list_long c) in
    rw (← c.prepare.auto.list, groups) at c.prepare.ensures

-- from each place on
parts : (c : After-load) (at : ℕ) → at ≤ 192 → Slices (length c.prepare.new.list / 8) (drop at c.load.new.tab) c.prepare.new.list c.prepare.new.counts
parts c at low =
    let groups : length c.prepare.new.list / 8 ≡ c.div_ceil-size.result = omega (arith, list_long c) in
    rw groups (slices_inside _ at _ _ _ (omega (arith, c.requires.few)) low (tab_long c) (record { weights = c.args.weights.now; placed = placed c }))

pub invariant_of-listed : goal.invariant_of-listed
invariant_of-listed c = record { slices = parts (goal.at.invariant_of-listed c).After-load 0 (omega arith) }

pub invariant_of-sliding : goal.invariant_of-sliding
invariant_of-sliding c =
    let done = (goal.at.invariant_of-sliding c).After-load in
    record { whole = tab_long done; slices = parts done }

pub returns : goal.returns
returns c =
    let done = (goal.at.returns c).After-load in
    let groups : length c.prepare.new.list / 8 ≡ c.div_ceil-size.result = omega (arith, list_long done) in
    c.fill_sums.ensures
    ∙ rw (groups, c.load.ensures) (sums_right _ _ _ _ _ _ (omega (arith, c.requires.few)) (omega arith) c.requires (placed done))
