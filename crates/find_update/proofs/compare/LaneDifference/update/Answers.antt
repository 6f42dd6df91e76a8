-- `update` meets its contract: the tests are those of the definition.
use mathlib.Core.Path.{◌≡◌}
use mathlib.Core.Bool.{false}
use native.Mathlib.Omega.{arith}
use borrow.Author.Tests.{lt-ltb, le-ltb}
use lib.Dec.{ltb}
use Rattle.lists.specs.Choice.{pick}
use Rattle.find_update.specs.declared.Finding.TheVariants.{Added, NoSingleUpdate}
use Rattle.find_update.specs.Inner.Starts.{row_starting, update_in}
use Rattle.find_update.proofs.Behind.{amount_symbol}
use Rattle.find_update.proofs.compare.LaneDifference.update.Goals as goal
use Rattle.find_update.proofs.compare.LaneDifference.update.Goals.{After-is_multiple}

-- what comparing the row with the difference says
compared : (c : After-is_multiple)
    → let a = c.args in
    pick c.is_multiple.result (Added c.in-Some.row c.amount-amount.result) NoSingleUpdate ≡ update_in a.self.codec.code.header a.self.symbols.now
unfolding update_in
compared c =
    let (row, is) = c.in-Some.ensures in
    rw (is, lt-ltb _ _ row, ← c.amount-amount.ensures, ← c.is_multiple.ensures)

pub returns-in_default : goal.returns-in_default
unfolding update_in
returns-in_default c =
    let h = c.args.self.codec.code.header in
    let none : ltb (row_starting h c.args.self.symbols.now) h.k ≡ false = le-ltb _ _ (omega (arith, c.in_default.ensures)) in
    rw none

pub is_multiple-requires : goal.is_multiple-requires
is_multiple-requires c =
    let row = c.in-Some.ensures.0 in
    (row, rw c.amount-amount.ensures (amount_symbol _ c.args.self.codec.code.sound _ c.args.self.lane _ row))

pub returns-then-is_multiple : goal.returns-then-is_multiple
returns-then-is_multiple c = rw c.if-is_multiple.true at (compared (goal.at.returns-then-is_multiple c).After-is_multiple)

pub returns-else-is_multiple : goal.returns-else-is_multiple
returns-else-is_multiple c = rw c.if-is_multiple.false at (compared (goal.at.returns-else-is_multiple c).After-is_multiple)
