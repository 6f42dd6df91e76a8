-- `from_place` meets its contract.
use Rattle.lists.proofs.Rows.{part_rest}
use Rattle.sliding_sums.proofs.bytes.Sliding.from_place.Goals as goal

pub invariant_of-result : goal.invariant_of-result
invariant_of-result c =
    let s = c.args.self in
    record { slices = rw (part_rest c.args.at s.listed.tab.now) (s.slices c.args.at c.requires) }
