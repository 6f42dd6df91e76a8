-- `list_nodes` meets its contract: the points are the powers of the root.
use mathlib.Core.Path.{◌≡◌, sym}
use native.Mathlib.Omega.{arith}
use lib.ListN.{length, take}
use Rattle.lists.proofs.Padding.{take_padded}
use Rattle.generator.specs.Records.{modulus_of}
use Rattle.check_sums.specs.Inner.Powers.{powers_of}
use Rattle.check_sums.proofs.Sums.{length_powers}
use Rattle.wrong_lanes.specs.Inner.Checks.{check_row}
use Rattle.wrong_lanes.proofs.CheckRows.{powers_symbols, rows_word}
use Rattle.wrong_lanes.proofs.check_rows.list_nodes.Goals as goal
use Rattle.wrong_lanes.proofs.check_rows.list_nodes.Goals.{Start}

-- the points as they are lent
points_are : (c : Start) → let h = c.args.powers.codec.code.header in take h.n c.args.powers.list.now ≡ powers_of h
points_are c = rw c.args.powers.are (take_padded 255 _ _ (length_powers c.args.powers.codec.code.header))

pub slice_bounds-others-end : goal.slice_bounds-others-end
slice_bounds-others-end c = rw (points_are (goal.at.slice_bounds-others-end c).Start) (sym (length_powers c.args.powers.codec.code.header))

pub invariant_of-others : goal.invariant_of-others
invariant_of-others c =
    let v = c.args.powers.codec in
    let are = points_are (goal.at.invariant_of-others c).Start in
    record { symbols = rw (v.same, are) (powers_symbols v.code.header v.code.sound); enough = rw (are, length_powers v.code.header) v.code.sound.fits }

pub list-requires : goal.list-requires
list-requires c =
    let v = c.args.powers.codec in
    rw (v.same, points_are (goal.at.list-requires c).Start, length_powers v.code.header) c.requires

pub returns : goal.returns
returns c =
    let v = c.args.powers.codec in
    let h = v.code.header in
    record {
      weights = check_row (modulus_of h) h.k (powers_of h);
      tell = rows_word h v.code.sound;
      begun = rw (v.same, points_are (goal.at.returns c).Start, length_powers h) at c.list.ensures;
    }
