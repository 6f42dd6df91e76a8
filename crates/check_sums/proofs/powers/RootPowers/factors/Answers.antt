-- `factors` meets its contract. Invariant: i is the place of the next node's factor, and the factors of the nodes before it are written.
use mathlib.Core.Path.{sym, ap, ◌∙◌}
use Prim.Native.Nat.{ℕ, ◌+◌, ◌*◌, ◌%◌, ◌<◌}
use native.Mathlib.Nat.{mod-lt, mod-eq_of_lt, zero-mul}
use native.Mathlib.Omega.{arith}
use lib.ListN.{get_or}
use Rattle.lists.specs.Padded.{zeros, padded}
use Rattle.lists.proofs.Rows.{from_ext}
use Rattle.lists.proofs.Fill.{filled_put}
use Rattle.check_sums.specs.Inner.Powers.{factors_of}
use Rattle.check_sums.proofs.Front.{front_start, front_inside, front_end}
use Rattle.check_sums.proofs.Sums.{power_place, power_at, next_factor}
use Rattle.check_sums.proofs.powers.RootPowers.factors.Invariants.{read}
use Rattle.check_sums.proofs.powers.RootPowers.factors.Goals as goal
use Rattle.check_sums.proofs.powers.RootPowers.factors.Goals.{In-loop-place}

-- the place is that of a power
place : (c : In-loop-place) → c.loop-place.i < c.args.self.codec.code.header.n
place c = rw c.loop-place.invariant.0 (mod-lt _ (omega (arith, c.args.self.codec.code.sound.two)))

pub loop-place-init : goal.loop-place-init
unfolding zeros
loop-place-init c =
    let a = c.args in
    let some : 0 < a.self.codec.code.header.n = omega (arith, a.self.codec.code.sound.two) in
    (sym (ap (λ (x : ℕ). x % a.self.codec.code.header.n) (zero-mul a.e) ∙ mod-eq_of_lt some), front_start 255 a.self.codec.code.header.n _ (omega (arith, a.self.codec.code.sound.byte)))

pub bounds-powers-i : goal.bounds-powers-i
bounds-powers-i c = rw c.args.self.are (power_place c.args.self.codec.code.header _ (place (goal.at.bounds-powers-i c).In-loop-place))

pub loop-place-preserved : goal.loop-place-preserved
loop-place-preserved c =
    let a = c.args in
    let l = c.loop-place in
    (c.stepped-i.ensures ∙ ap (λ (x : ℕ). (x + a.e % a.self.codec.code.header.n) % a.self.codec.code.header.n) l.invariant.0 ∙ next_factor l.place-index a.e a.self.codec.code.header.n, filled_put l.invariant.1 (front_inside 255 _ _ l.invariant.1 (omega arith)) (ap (λ (x : ℕ). get_or a.self.list.now x 0) l.invariant.0))

pub returns : goal.returns
unfolding factors_of zeros
returns c =
    let a = c.args in
    front_end 255 _ _ c.loop-place.invariant.1 (omega arith)
    ∙ ap (padded 255)
    (from_ext (read a.self.list.now a.e a.self.codec.code.header.n) _ 0 a.self.codec.code.header.n (λ j low high. rw c.args.self.are (power_at a.self.codec.code.header (j * a.e % a.self.codec.code.header.n) (mod-lt _ (omega arith)))))
