-- `find_accepted` meets its contract: the lanes are compared only where no number is met.
use Rattle.std.specs.Prelude.{Ok}
use mathlib.Core.Path.{◌≡◌, ap, ap₂, ◌∙◌}
use lib.ListN.{take}
use Rattle.layout.specs.Width.{symbols_of}
use Rattle.generator.specs.Records.{width}
use Rattle.generator.proofs.Answered.{exit, done_is, refused_is}
use Rattle.generator.specs.Answers.{answer_of}
use Rattle.find_update.specs.Finding.{finding_of}
use Rattle.refusals.proofs.LaneSymbols.{few_bytes, lane_read}
use Rattle.find_update.proofs.Accepts.{Lanes, find_accepts, find_refuses}
use Rattle.find_update.proofs.find_accepted.Goals as goal
use Rattle.find_update.proofs.find_accepted.Goals.{After-read_symbols-us, After-read_symbols-vs, In_ok-find_fault}

-- no number turns the call away
lanes : (c : In_ok-find_fault) → let a = c.args in Lanes a.code.header a.before.now a.after.now
lanes c = find_accepts _ _ _ (done_is _ _ c.in_ok-find_fault.ensures)

-- the lanes as they are read
first : (c : After-read_symbols-us)
    → let a = c.args in
    take a.code.header.n c.read_symbols-us.result ≡ symbols_of (width a.code.header) a.before.now
first c = lane_read _ _ _ _ (lanes (goal.at.After-read_symbols-us c).In_ok-find_fault).first c.width_of-w.ensures c.read_symbols-us.ensures

second : (c : After-read_symbols-vs)
    → let a = c.args in
    take a.code.header.n c.read_symbols-vs.result ≡ symbols_of (width a.code.header) a.after.now
second c = lane_read _ _ _ _ (lanes (goal.at.After-read_symbols-vs c).In_ok-find_fault).second c.width_of-w.ensures c.read_symbols-vs.ensures

pub returns : goal.returns
unfolding answer_of
returns c =
    let none = done_is _ _ c.in_ok-find_fault.ensures in
    record { answered = rw none (ap Ok (c.find.ensures ∙ ap₂ (finding_of _) (first (goal.at.returns c).After-read_symbols-us) (second (goal.at.returns c).After-read_symbols-vs))) }
