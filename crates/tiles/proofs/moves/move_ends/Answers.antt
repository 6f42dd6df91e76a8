use Rattle.std.proofs.Common.{refl, ap, ◌∙◌, ◌-◌, length}
use Rattle.tiles.specs.Inner.Words.{patched}
use Rattle.tiles.proofs.Rests.{patched_twice}
use Rattle.tiles.proofs.moves.move_ends.Goals as goal

pub returns : goal.returns
returns g c =
    let s = c.args.from.now in
    let n = length c.args.to.now in
    let k = g.row.N in
    c.move_at-2.ensures ∙ ap (patched (n - k) k s) c.move_at.ensures ∙ patched_twice k n s c.args.to.now refl c.requires.0 c.requires.1 c.requires.2
