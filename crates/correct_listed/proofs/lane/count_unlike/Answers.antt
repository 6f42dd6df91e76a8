-- `count_unlike` meets its contract. Invariant: the places below i are counted, and the others are to come.
use Rattle.std.proofs.Common.{ℕ, ◌<◌, ◌≤◌, Bool, true, false, not, eqb, length, get_or, refl, arith}
use mathlib.Core.Path.{◌≡◌}
use mir.Val.{bool_byte}
use Rattle.lists.specs.Choice.{when}
use Rattle.lists.proofs.Rows.{from_next, from_end}
use Rattle.lists.proofs.Fill.{fills_put, fills_next, fills_all}
use Rattle.correct_listed.proofs.lane.count_unlike.Goals as goal

-- a test as a number
test_byte : (b : Bool) → bool_byte b ≡ when b 1
test_byte true = refl
test_byte false = refl

byte_small : (x : ℕ) (b : Bool) → x ≡ bool_byte b → x ≤ 1
byte_small x true is = omega (arith, is)
byte_small x false is = omega (arith, is)

pub overflow_add-count : goal.overflow_add-count
overflow_add-count c =
    let l = c.loop-i in
    omega (arith, fills_next l.invariant 0, c.requires.2 l.i, byte_small _ _ c.from.ensures)

pub loop-i-preserved : goal.loop-i-preserved
loop-i-preserved c =
    let l = c.loop-i in
    let more : l.i < length c.args.counts.now = omega (arith, l.invariant.long) in
    let todo = rw (from_next _ _ _ more) at l.invariant in
    rw (fills_next l.invariant 0, c.from.ensures, test_byte (not (eqb (get_or c.args.held.now l.i 0) (get_or c.args.right.now l.i 0)))) (fills_put todo more)

pub returns : goal.returns
returns c =
    let l = c.loop-i in
    let long : length c.args.counts.now ≤ l.i = omega (arith, l.invariant.long) in
    fills_all (rw (from_end _ _ _ long) at l.invariant) long
