-- `Listed::turn` meets its contract.
use Rattle.std.proofs.Common.{◌/◌, length}
use Rattle.subset_sums.proofs.Adding.{turns_next}
use Rattle.subset_sums.proofs.horner.Listed.turn.Goals as goal

pub returns : goal.returns
returns c =
    let s = c.args.self in
    rw (c.add_listed.ensures, c.of_digit.ensures, c.multiply_x.ensures) (turns_next c.args.b (length s.list.now / 8) s.tab.now s.list.now s.counts.now _ c.requires.1)
