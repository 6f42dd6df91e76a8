-- `SmallCode::put_powers` meets its contract. Invariant: the powers below y are written, and x is the next.
use Rattle.std.proofs.Common.{ℕ, ◌-◌, ◌*◌, ◌^◌, ◌<◌, ◌≤◌, length, ap, ◌∙◌, mul-le-mul, arith}
use Rattle.lists.proofs.Rows.{from_next, from_end}
use Rattle.lists.proofs.Fill.{fills_put, fills_all}
use Rattle.field.proofs.FieldOf.{size_pos}
use Rattle.field.proofs.KindLaws.{size_fits}
use Rattle.generator.specs.Records.{modulus_of}
use Rattle.weight_counts.proofs.Powers.{power_more, power_same, power_most, powers_table}
use Rattle.weight_counts.proofs.SmallCode.put_powers.Goals as goal
use Rattle.weight_counts.proofs.SmallCode.put_powers.Goals.{else-fixed-y, then-fixed-y}

pub overflow_mul-x : goal.overflow_mul-x
overflow_mul-x c =
    let h = c.args.self.code.header in
    let l = c.loop-y in
    let small = c.args.self.small in
    let q = c.size-q.result in
    let most : q ^ (l.y - (h.n - h.k)) ≤ q ^ h.k = power_most h.n h.k q l.y (rw c.size-q.ensures (size_pos (modulus_of h) small.sound.field)) small.sound.fits (omega (arith, c.requires, l.invariant.1.long)) in
    let few : q ^ h.k ≤ 65536 = rw c.size-q.ensures small.few in
    let fits : q ≤ 65521 = rw c.size-q.ensures (size_fits h.field small.sound.usable_field) in
    let x : l.x ≤ 65536 = omega (arith, rw c.checks-fixed.ensures at l.invariant.0) in
    omega (arith, mul-le-mul x fits)

pub loop-y-preserved : goal.loop-y-preserved
loop-y-preserved c =
    let l = c.loop-y in
    let q = c.size-q.result in
    let more : l.y < length c.args.counts.now = omega (arith, l.invariant.1.long) in
    let todo = rw (from_next _ _ _ more) at l.invariant.1 in (
      elim c.if-fixed-y.branch [ then-fixed-y w ↦ w.x-is ∙ ap (λ (x : ℕ). x * q) l.invariant.0 ∙ power_more q c.checks-fixed.result l.y (omega arith) | else-fixed-y w ↦ w.x-is ∙ l.invariant.0 ∙ power_same q c.checks-fixed.result l.y (omega arith) ],
      rw l.invariant.0 (fills_put todo more),
    )

pub returns : goal.returns
returns c =
    let h = c.args.self.code.header in
    let l = c.loop-y in
    let size_is = c.size-q.ensures in
    let long : length c.args.counts.now ≤ l.y = omega (arith, l.invariant.1.long) in
    fills_all (rw (from_end _ _ _ long) at l.invariant.1) long ∙ rw (size_is, c.requires, c.checks-fixed.ensures) (powers_table h c.args.self.small.sound.fits)
