-- `list_sums` meets its contract: each check sum has its lists.
use Prim.Native.Nat.{◌+◌}
use Rattle.lists.proofs.Padding.{take_padded}
use Rattle.check_sums.specs.Inner.Powers.{factors_of}
use Rattle.wrong_lanes.proofs.Checks.{length_factors, factors_below, factors_word}
use Rattle.wrong_lanes.proofs.check_rows.list_sums.Goals as goal

pub prepare_all-requires-clause-below : goal.prepare_all-requires-clause-below
prepare_all-requires-clause-below c =
    let code = c.args.powers.codec.code in
    λ j r low is. rw (is, c.requires.0, take_padded 255 _ _ (length_factors code.header (j + 1))) (factors_below code.header (j + 1) code.sound)

pub returns : goal.returns
returns c =
    let h = c.args.powers.codec.code.header in
    let all = c.prepare_all.ensures (λ i. factors_of h (i + 1)) (λ i. length_factors h (i + 1)) (λ j r low is. rw is (take_padded 255 _ _ (length_factors h (j + 1)))) in
    record { weights = λ i. factors_of h (i + 1); tell = λ ws long below. factors_word h ws long; begun = rw (c.requires.0, c.checks.ensures) at all }
