-- `SmallCode::take_differences` meets its contract. Invariant: w turns are done.
use Rattle.std.proofs.Common.{◌≡◌, ◌+◌, ◌-◌, length, refl, ap, ◌∙◌, arith}
use Rattle.weight_counts.specs.Inner.Counting.{with_previous, differences_of}
use Rattle.weight_counts.proofs.Table.{turns_of, turns_next, turns_table, table_mono, length_table}
use Rattle.weight_counts.proofs.SmallCode.take_differences.Goals as goal
use Rattle.weight_counts.proofs.SmallCode.take_differences.Goals.{At-loop-w}

-- the table after w turns
reached : (c : At-loop-w) → c.loop-w.counts ≡ differences_of c.args.self.code.header c.loop-w.w
reached c =
    c.loop-w.invariant ∙ ap (turns_of c.loop-w.w) c.requires ∙ turns_table c.args.self.code.header c.loop-w.w (omega arith)

pub loop-w-init : goal.loop-w-init
unfolding turns_of
loop-w-init c = refl

pub subtract_previous-requires : goal.subtract_previous-requires
subtract_previous-requires c =
    let h = c.args.self.code.header in
    let now = reached (goal.at.subtract_previous-requires c).At-loop-w in
    let long = ap length now ∙ length_table h c.loop-w.w in
    (omega arith, omega (arith, long), λ y low high. rw now (table_mono h c.args.self.small.sound c.loop-w.w y low (omega (arith, long))))

pub loop-w-preserved : goal.loop-w-preserved
loop-w-preserved c =
    let l = c.loop-w in
    c.subtract_previous.ensures ∙ ap (with_previous ◌-◌ (l.w + 1)) l.invariant ∙ turns_next l.w _

pub returns : goal.returns
returns c =
    let h = c.args.self.code.header in
    let end : c.loop-w.w ≡ h.n = omega arith in
    reached (goal.at.returns c).At-loop-w ∙ ap (differences_of h) end
