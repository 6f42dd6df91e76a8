-- `points` meets its contract: each point is a power of the root, whose exponent counts modulo n.
use mathlib.Core.Path.{◌≡◌, sym, ap, ◌∙◌}
use Prim.Native.Nat.{ℕ, ◌<◌}
use native.Mathlib.Nat.{mod-lt}
use native.Mathlib.Omega.{arith}
use lib.ListN.{length, get_or, take}
use lib.Seq.{length-take-le, get_or-take}
use Rattle.lists.specs.Padded.{padded}
use Rattle.lists.specs.Rows.{from}
use Rattle.lists.proofs.Fill.{filled_put, filled_end}
use Rattle.lists.proofs.Rows.{from_ext}
use Rattle.check_sums.proofs.Sums.{power_place, power_at}
use Rattle.lane_message.proofs.Points.{rooms, point_at, shift_at, points_from}
use Rattle.lane_message.proofs.rows.GeneratorRows.points.Invariants.{read}
use Rattle.lane_message.proofs.rows.GeneratorRows.points.Goals as goal
use Rattle.lane_message.proofs.rows.GeneratorRows.points.Goals.{After-stepped-e}

-- where the power is read
inside : (c : After-stepped-e) → c.stepped-e.result < c.args.self.transform.powers.codec.code.header.n
inside c = rw c.stepped-e.ensures (mod-lt _ (omega (arith, c.args.self.transform.powers.codec.code.sound.two)))

pub slice_bounds-shift-items-end : goal.slice_bounds-shift-items-end
slice_bounds-shift-items-end c =
    let r = c.args.self in
    sym (length-take-le _ _ (rooms r.transform.powers.codec.code.header r.transform.powers.codec.code.sound r.shifts.now r.shifts_are))

pub stepped-e-requires : goal.stepped-e-requires
stepped-e-requires c =
    let r = c.args.self in
    let code = r.transform.powers.codec.code in
    let long : length (take code.header.k r.shifts.now) ≡ code.header.k = length-take-le code.header.k r.shifts.now (rooms code.header code.sound r.shifts.now r.shifts_are) in
    let row : c.loop-r.r < code.header.k = omega (arith, long, c.loop-r-test.true) in
    (rw (get_or-take code.header.k r.shifts.now c.loop-r.r 0 row, r.shifts_are) (shift_at code.header code.sound c.loop-r.r row).1, omega (arith, code.sound.some, code.sound.fits), code.sound.byte)

pub bounds-powers-e : goal.bounds-powers-e
bounds-powers-e c =
    rw c.args.self.transform.powers.are (power_place c.args.self.transform.powers.codec.code.header _ (inside (goal.at.bounds-powers-e c).After-stepped-e))

pub loop-r-preserved : goal.loop-r-preserved
loop-r-preserved c =
    filled_put c.loop-r.invariant c.loop-r-test.true (ap (λ (i : ℕ). get_or c.args.self.transform.powers.list.now i 0) c.stepped-e.ensures)

pub returns : goal.returns
returns c =
    let h = c.args.self.transform.powers.codec.code.header in
    let sound = c.args.self.transform.powers.codec.code.sound in
    let powers = c.args.self.transform.powers.list.now in
    let ss = c.args.self.shifts.now in
    let long : length (take h.k ss) ≡ h.k = length-take-le h.k ss (rooms h sound ss c.args.self.shifts_are) in
    filled_end c.loop-r.invariant c.loop-r-test.false
    ∙ ap (λ (m : ℕ). padded 255 (from (read powers (take h.k ss) h.n h.k) 0 m)) long
    ∙ ap (padded 255)
    (from_ext (read powers (take h.k ss) h.n h.k) _ 0 h.k
    (λ r above below. rw (get_or-take h.k ss r 0 (omega arith), c.args.self.transform.powers.are, c.args.self.shifts_are, (shift_at h sound r (omega arith)).0) (power_at h _ (mod-lt _ (omega (arith, sound.two))) ∙ point_at h sound r))
    ∙ points_from h sound)
