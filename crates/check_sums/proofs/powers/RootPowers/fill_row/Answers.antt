-- `fill_row` meets its contract. Invariant: the bytes for the check sums up to e are written, and i is the place of the next power.
use mathlib.Core.Path.{ap, ◌∙◌}
use Prim.Native.Nat.{ℕ, ◌+◌, ◌*◌, ◌%◌, ◌≤◌, ◌<◌}
use native.Mathlib.Nat.{mod-lt, lt_of_lt_of_le}
use native.Mathlib.Omega.{arith}
use lib.ListN.{length}
use Rattle.lists.proofs.Rows.{from_next_at, from_end_at, from_ext}
use Rattle.lists.proofs.Fill.{fills_put, fills_all}
use Rattle.field.proofs.Bounds.{power_below}
use Rattle.generator.specs.Records.{modulus_of}
use Rattle.generator.proofs.Widths.{width_range, size_fits_width}
use Rattle.check_sums.specs.Inner.Sums.{power_bytes}
use Rattle.check_sums.proofs.Sums.{power_place, power_at}
use Rattle.check_sums.proofs.OneLane.{next_place, byte_at}
use Rattle.check_sums.proofs.powers.RootPowers.fill_row.Invariants.{read}
use Rattle.check_sums.proofs.powers.RootPowers.fill_row.Goals as goal
use Rattle.check_sums.proofs.powers.RootPowers.fill_row.Goals.{In-loop-byte}

-- i is a place of the table
place : (c : In-loop-byte) → c.loop-byte.i < c.args.self.codec.code.header.n
place c = rw c.loop-byte.invariant.0 (mod-lt _ (omega arith))

-- a place of the row is left
room : (c : In-loop-byte) → c.loop-byte.byte-index < length c.args.row.now
room c = omega (arith, c.loop-byte.invariant.1.long)

-- the width is at most 2
pub overflow_add-place : goal.overflow_add-place
overflow_add-place c =
    let few : c.args.w ≤ 2 = rw c.requires.0 (width_range c.args.self.codec.code.header).1 in
    omega (arith, few)

pub overflow_sub-place : goal.overflow_sub-place
overflow_sub-place c =
    let few : c.args.w ≤ 2 = rw c.requires.0 (width_range c.args.self.codec.code.header).1 in
    omega (arith, few)

pub bounds-powers-i : goal.bounds-powers-i
bounds-powers-i c = rw c.args.self.are (power_place c.args.self.codec.code.header _ (place (goal.at.bounds-powers-i c).In-loop-byte))

pub loop-byte-preserved : goal.loop-byte-preserved
loop-byte-preserved c =
    let l = c.loop-byte in
    let a = c.args in (c.stepped-i.ensures ∙ ap (λ (x : ℕ). (x + a.j) % a.self.codec.code.header.n) l.invariant.0 ∙ next_place a.j l.byte-index a.self.codec.code.header.n, rw (c.to_be_bytes.ensures, l.invariant.0) (fills_put (rw (from_next_at {A = ℕ} (read a.self.list.now a.j a.self.codec.code.header.n _) 1 (length a.row.now) l.byte-index (room (goal.at.loop-byte-preserved c).In-loop-byte)) at l.invariant.1) (room (goal.at.loop-byte-preserved c).In-loop-byte)))

pub returns : goal.returns
unfolding power_bytes
returns c =
    let a = c.args in
    let sound = c.args.self.codec.code.sound in let (wide, byte, node) = c.requires in
    let written : length a.row.now ≤ c.loop-byte.byte-index = omega (arith, c.loop-byte.invariant.1.long) in
    fills_all (rw (from_end_at {A = ℕ} (read a.self.list.now a.j a.self.codec.code.header.n _) 1 (length a.row.now) c.loop-byte.byte-index written) at c.loop-byte.invariant.1) written
    ∙ from_ext _ _ 1 (length a.row.now)
    (λ x low high.
    let at = power_at a.self.codec.code.header (a.j * x % a.self.codec.code.header.n) (mod-lt _ (omega arith)) in
    let few : a.w ≤ 2 = rw wide (width_range a.self.codec.code.header).1 in
    rw (a.self.are, at) (byte_at a.w a.v _ few byte (rw wide (lt_of_lt_of_le (power_below (modulus_of a.self.codec.code.header) sound.field (a.j * x % a.self.codec.code.header.n) sound.root_below) (size_fits_width a.self.codec.code.header sound)))))
