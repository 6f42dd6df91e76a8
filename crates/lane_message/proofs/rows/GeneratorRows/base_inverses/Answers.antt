-- `base_inverses` meets its contract. The loop's invariant: the inverses from c on are written.
use mathlib.Core.Path.{◌≡◌, refl, ap, ◌∙◌}
use Prim.Native.Nat.{ℕ, ◌+◌, ◌-◌, ◌%◌, ◌<◌}
use native.Mathlib.Nat.{mod-lt}
use native.Mathlib.Omega.{arith}
use lib.ListN.{set}
use Rattle.lists.specs.Padded.{zeros}
use Rattle.field.specs.Fields.{mul}
use Rattle.generator.specs.Records.{modulus_of}
use Rattle.check_sums.proofs.Sums.{power_place, power_at}
use Rattle.lane_message.proofs.Points.{few, power_modulo}
use Rattle.lane_message.proofs.BaseInverses.{Written, written_first, written_next}
use Rattle.lane_message.proofs.rows.GeneratorRows.base_inverses.Goals as goal
use Rattle.lane_message.proofs.rows.GeneratorRows.base_inverses.Goals.{After-mul-value, Start}

-- the place of root^k
turn : (c : Start) → c.args.self.transform.powers.codec.code.header.k % c.args.self.transform.powers.codec.code.header.n < c.args.self.transform.powers.codec.code.header.n
turn c = mod-lt _ (omega (arith, c.args.self.transform.powers.codec.code.sound.two))

-- one step
next : (c : After-mul-value)
    → let l = c.loop-c in
    Written c.args.self.transform.powers.codec.code.header (l.c - 1) c.mul-value.result (set l.out (l.c - 1) c.mul-value.result)
next c =
    let l = c.loop-c in
    let h = c.args.self.transform.powers.codec.code.header in
    let s = c.args.self.transform.powers.codec.code.sound in
    let up : l.c - 1 + 1 ≡ l.c = omega arith in
    written_next h s l.invariant (omega arith) c.mul-value.result
    (c.mul-value.ensures.is
    ∙ rw c.args.self.transform.powers.codec.same
    (ap (λ (x : ℕ). mul (modulus_of h) x l.value)
    (c.step_ratio-ratio.ensures.is
    ∙ rw (c.args.self.transform.powers.codec.same, c.args.self.transform.powers.are, power_at h (h.k % h.n) (turn (goal.at.After-mul-value c).Start), power_modulo h s h.k, power_at h (h.k - 1) (omega (arith, s.some, s.fits)), up, power_at h l.c (omega (arith, l.invariant.inside, s.fits))))))

pub bounds-powers-h : goal.bounds-powers-h
bounds-powers-h c = rw c.args.self.transform.powers.are (power_place c.args.self.transform.powers.codec.code.header _ (turn (goal.at.bounds-powers-h c).Start))

pub bounds-powers-highest : goal.bounds-powers-highest
bounds-powers-highest c = rw c.args.self.transform.powers.are (power_place c.args.self.transform.powers.codec.code.header _ (omega (arith, c.args.self.transform.powers.codec.code.sound.some, c.args.self.transform.powers.codec.code.sound.fits)))

pub loop-c-init : goal.loop-c-init
unfolding zeros
loop-c-init c = written_first c.args.self.transform.powers.codec.code.header c.args.self.transform.powers.codec.code.sound (few _ c.args.self.transform.powers.codec.code.sound) _ refl

pub bounds-powers-c : goal.bounds-powers-c
bounds-powers-c c = rw c.args.self.transform.powers.are (power_place c.args.self.transform.powers.codec.code.header _ (omega (arith, c.loop-c.invariant.inside, c.args.self.transform.powers.codec.code.sound.fits)))

pub loop-c-preserved : goal.loop-c-preserved
loop-c-preserved c = next c
