-- `set_in` meets its contract: where no lane is marked, the message of the first k symbols is the nearest.
use native.Mathlib.Omega.{arith}
use Rattle.lists.specs.Padded.{zeros}
use mathlib.Core.Path.{ap, ◌∙◌}
use Rattle.correct_listed.proofs.SetLanes.{all_clean}
use Rattle.correct_listed.proofs.set_in.Goals as goal

pub returns-then-none_marked : goal.returns-then-none_marked
unfolding zeros
returns-then-none_marked g c =
    let b = c.args.block in
    let none = c.none_marked.ensures c.if-none_marked.true in
    all_clean b.code.header b.nodes.now b.lanes b.shares.now b.code.sound b.listed b.symbols c.requires.5 (λ t inside. none t (omega (arith, c.requires.5.long, inside))) c.fill.ensures (c.fill-then-none_marked.ensures.after (λ y e. e) ∙ ap zeros c.requires.7)
