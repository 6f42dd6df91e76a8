-- `mark` meets its contract: the same of every event that says so of the node.
use mathlib.Core.Path.{sym, ap, ◌∙◌}
use Rattle.generator.proofs.Answered.{exit}
use Rattle.roster.specs.Rosters.{Step}
use Rattle.roster_bytes.specs.Bytes.{roster_bytes}
use Rattle.roster_bytes.proofs.Giving.{event_short, event_done, event_refused}
use Rattle.roster_bytes.proofs.calls.mark.Goals as goal

pub returns-in_err-lent_roster : goal.returns-in_err-lent_roster
returns-in_err-lent_roster c =
    let (short, number) = c.in_err-lent_roster.ensures in
    rw (exit _ c.from_residual.ensures.1) (λ e node here. event_short _ _ _ short number e)

pub returns-in_err-roster : goal.returns-in_err-roster
returns-in_err-roster c =
    let (long, read) = c.in_ok-lent_roster.ensures in
    rw (exit _ c.from_residual-in_err-roster.ensures.1)
    (λ e node here. event_refused _ _ long e _ (rw (node, here, ← read) c.in_err-roster.ensures))

pub returns : goal.returns
returns c =
    let (long, read) = c.in_ok-lent_roster.ensures in
    let is = c.in_ok-roster.ensures in
    let written = c.copy_from_slice.ensures.after ∙ c.bytes_of.ensures in
    λ e node here. event_done _ _ long e _ _
    (rw (node, here, ← read) (ap (λ (s : Step). s.number) is))
    (rw (node, here, ← read) (written ∙ ap (λ (s : Step). roster_bytes s.roster) (sym is)))
