-- `mends_accepted` meets its contract: the lane is read and the list made only where no number is met.
use Rattle.std.specs.Prelude.{Ok}
use mathlib.Core.Path.{◌≡◌, ap}
use Prim.Native.Nat.{◌≤◌}
use native.Mathlib.Omega.{arith}
use lib.ListN.{length, take}
use Rattle.layout.specs.Width.{symbols_of}
use Rattle.generator.specs.Records.{width}
use Rattle.generator.proofs.Answered.{exit, done_is, refused_is}
use Rattle.refusals.proofs.LaneSymbols.{few_bytes, lane_read}
use Rattle.generator.specs.Answers.{answer_of}
use Rattle.mends.proofs.Meaning.{mends_few}
use Rattle.mends.proofs.Accepts.{Given, mends_accepts, mends_refuses}
use Rattle.mends.proofs.mends_accepted.Goals as goal
use Rattle.mends.proofs.mends_accepted.Goals.{After-read_symbols-ws, In_ok-mends_fault}

-- no number turns the call away
given : (c : In_ok-mends_fault) → let a = c.args in Given a.code.header a.lane.now (length a.nodes.now) (length a.symbols.now)
given c = mends_accepts _ _ _ _ (done_is _ _ c.in_ok-mends_fault.ensures)

-- the lane as it is read
part : (c : After-read_symbols-ws)
    → let a = c.args in
    take a.code.header.n c.read_symbols-ws.result ≡ symbols_of (width a.code.header) a.lane.now
part c = lane_read _ _ _ _ (given (goal.at.After-read_symbols-ws c).In_ok-mends_fault).lane_is c.width_of-w.ensures c.read_symbols-ws.ensures

pub returns-in_err-mends_fault : goal.returns-in_err-mends_fault
returns-in_err-mends_fault c =
    let (same, some) = refused_is _ _ _ c.in_err-mends_fault.ensures in
    rw (exit _ c.from_residual.ensures.1, ← same) (mends_refuses _ _ some _ _ _)

pub read_symbols-ws-requires : goal.read_symbols-ws-requires
read_symbols-ws-requires c =
    let few : c.args.code.header.n ≤ 255 = omega arith in
    few_bytes _ _ _ few (rw c.width_of-w.ensures (given (goal.at.read_symbols-ws-requires c).In_ok-mends_fault).lane_long)

pub invariant_of-received : goal.invariant_of-received
invariant_of-received c =
    let lane = (given (goal.at.invariant_of-received c).In_ok-mends_fault).lane_is in
    rw (c.new-rows.ensures, part (goal.at.invariant_of-received c).After-read_symbols-ws) record { long = lane.long; below = lane.symbols }

pub list_mends-count-requires : goal.list_mends-count-requires
list_mends-count-requires c =
    let g = given (goal.at.list_mends-count-requires c).In_ok-mends_fault in
    rw c.new-rows.ensures (g.nodes_long, g.symbols_long)

pub overflow_cast-count : goal.overflow_cast-count
overflow_cast-count c =
    let few : c.args.code.header.n ≤ 255 = omega arith in
    omega (arith, rw c.new-rows.ensures at c.list_mends-count.ensures.0, mends_few c.args.code.header (take c.args.code.header.n c.read_symbols-ws.result))

pub returns : goal.returns
unfolding answer_of
returns c =
    let none = done_is _ _ c.in_ok-mends_fault.ensures in
    let e = rw (c.new-rows.ensures, part (goal.at.returns c).After-read_symbols-ws) at c.list_mends-count.ensures in
    record { answered = rw none (ap Ok e.0); nodes_written = rw none e.1; symbols_written = rw none e.2 }
