-- `next_job` meets its contract.
use Rattle.std.specs.Prelude.{◌≡◌, Ok, Err}
use mathlib.Core.Path.{refl, sym, ◌∙◌}
use denote.Enum.Bare.{sameb}
use Rattle.generator.proofs.Answered.{exit}
use Rattle.roster.specs.contracts.Listing.{the_type}
use Rattle.roster.specs.declared.Listing.{Listing}
use Rattle.roster.specs.declared.Listing.TheVariants.{Written, TooFew}
use Rattle.roster.specs.Rosters.{wrote}
use Rattle.roster_bytes.specs.Calls.{told_of}
use Rattle.roster_bytes.proofs.Giving.{job_short, job_done}
use Rattle.roster_bytes.proofs.calls.next_job.Goals as goal

pub returns-in_err-roster : goal.returns-in_err-roster
unfolding told_of
returns-in_err-roster c =
    let (short, number) = c.in_err-roster.ensures in
    rw (exit _ c.from_residual.ensures.1) (λ enough. job_short _ _ _ short number _ enough)

-- only what was written is no other than `Written`
told : (l : Listing) → sameb the_type l Written ≡ wrote (Ok l)
unfolding wrote
told Written = refl
told TooFew = refl

pub returns-in_err-listing : goal.returns-in_err-listing
unfolding wrote
returns-in_err-listing c =
    let done = c.in_err-listing.ensures in
    let (long, read) = c.in_ok-roster.ensures in
    rw (exit _ c.from_residual-in_err-listing.ensures.1, done.list, read)
    (λ enough. job_done _ _ long _ enough (Err _) _ (rw read at done.answer) refl)

pub returns-then-eq : goal.returns-then-eq
returns-then-eq c =
    let done = c.in_ok-listing.ensures in
    let (long, read) = c.in_ok-roster.ensures in
    let is = sym (told _) ∙ sym c.if-eq.ensures in
    rw (done.list, read)
    (λ enough. job_done _ _ long _ enough (Ok _) _ (rw read at done.answer) (rw is (rw (done.roster, read) at (c.copy_from_slice.ensures.after ∙ c.bytes_of.ensures))))

pub returns-else-eq : goal.returns-else-eq
returns-else-eq c =
    let done = c.in_ok-listing.ensures in
    let (long, read) = c.in_ok-roster.ensures in
    let is = sym (told _) ∙ sym c.if-eq.ensures in
    rw (done.list, read)
    (λ enough. job_done _ _ long _ enough (Ok _) _ (rw read at done.answer) (rw is refl))
