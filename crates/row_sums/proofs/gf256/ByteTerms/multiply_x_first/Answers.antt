-- `multiply_x_first` meets its contract: none, one or two rows are added in the pass that multiplies by x.
use mathlib.Core.Path.{◌≡◌, refl, ap}
use Prim.Native.Nat.{◌-◌, ◌%◌, ◌≤◌}
use native.Mathlib.Omega.{arith}
use lib.ListN.{length, length-drop}
use Rattle.std.proofs.lemmas.Bool.Decides.{nat_tests}
use Rattle.field.specs.Bytes.{times_x}
use Rattle.lists.proofs.Rows.{part_rest}
use Rattle.row_sums.specs.Inner.Digits.{rows_added, multiplied}
use Rattle.row_sums.proofs.Adding.{added_one, added_two}
use Rattle.row_sums.proofs.Listing.{listed_rest}
use Rattle.row_sums.proofs.gf256.ByteTerms.multiply_x_first.Goals as goal

pub returns-in-len2-up : goal.returns-in-len2-up
unfolding multiplied
returns-in-len2-up c =
    let t = c.args.self.terms in
    record {
      listed = rw part_rest (listed_rest 2 _ c.multiply_x_add_two.auto.acc c.requires);
      even = c.if-rest-eq0.true;
      rest = rw (part_rest, c.multiply_x_add_two.ensures, c.row-first.ensures.part, c.row-second.ensures.part)
          (added_two t.lanes t.rows.now times_x c.args.list.now c.args.acc.now c.requires.out_long 0 _ (omega arith) refl _ (omega arith) refl);
    }

pub returns-in-len1-up : goal.returns-in-len1-up
unfolding multiplied
returns-in-len1-up c =
    let t = c.args.self.terms in
    let even : (length c.args.list.now - 1) % 2 ≡ 0 = grind (arith, nat_tests, part_rest, length-drop) in
    let some : 1 ≤ length c.args.list.now = grind (arith, nat_tests) in
    record {
      listed = rw part_rest (listed_rest 1 _ c.multiply_x_add.auto.acc c.requires);
      even = rw (part_rest, length-drop) even;
      rest = rw (part_rest, c.multiply_x_add.ensures, c.row.ensures.part)
          (added_one t.lanes t.rows.now times_x c.args.list.now c.args.acc.now c.requires.out_long 0 _ some refl);
    }

pub returns-in-empty : goal.returns-in-empty
unfolding multiplied
returns-in-empty c =
    record { listed = listed_rest 0 _ c.multiply_x.auto.acc c.requires; even = omega arith; rest = ap (rows_added _ _ _) c.multiply_x.ensures }
