-- `lowest` meets its contract.
use Rattle.generator.proofs.Answered.{exit}
use Rattle.roster_bytes.specs.Calls.{told_of}
use Rattle.roster_bytes.proofs.Giving.{lowest_short, lowest_done}
use Rattle.roster_bytes.proofs.calls.lowest.Goals as goal

pub returns-in_err-lent_roster : goal.returns-in_err-lent_roster
unfolding told_of
returns-in_err-lent_roster c =
    let (short, number) = c.in_err-lent_roster.ensures in
    rw (exit _ c.from_residual.ensures.1) (λ enough. lowest_short _ _ _ short number _ enough)

pub returns : goal.returns
returns c =
    let (long, read) = c.in_ok-lent_roster.ensures in
    rw (c.lowest.ensures.answer, c.lowest.ensures.list, read) (lowest_done _ _ long _)
