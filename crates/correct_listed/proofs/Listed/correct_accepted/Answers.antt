-- `correct_accepted` meets its contract: what holds where no number is met.
use mathlib.Core.Path.{◌≡◌}
use Prim.Native.Nat.{◌*◌}
use lib.ListN.{length}
use Rattle.generator.specs.Records.{width}
use Rattle.generator.proofs.Answered.{done_is}
use Rattle.listed_products.specs.Inner.Shares.{ListedNodes, ListedBytes}
use Rattle.correct_listed.specs.Promise.{correct_listed_fault}
use Rattle.correct_listed.proofs.Accepts.{listed_accepts}
use Rattle.correct_listed.proofs.Listed.correct_accepted.Goals as goal
use Rattle.correct_listed.proofs.Listed.correct_accepted.Goals.{In_ok-fault}

-- what is known where no number was met
accepted : (c : In_ok-fault)
    → let v = c.args.self in
    let h = v.code.header in
    ListedNodes h v.nodes.now × ListedBytes h v.lanes v.nodes.now v.shares.now × (length c.args.message.now ≡ width h * h.k * v.lanes) × (length c.args.wrong.now ≡ length v.nodes.now)
accepted c =
    let v = c.args.self in
    listed_accepts v.code.header v.lanes v.nodes.now v.shares.now (length c.args.message.now) (length c.args.wrong.now) (done_is _ _ c.in_ok-fault.ensures)

pub invariant_of-block : goal.invariant_of-block
invariant_of-block c = let a = accepted (goal.at.invariant_of-block c).In_ok-fault in record { listed = a.0; symbols = a.1 }

pub set_symbols-requires : goal.set_symbols-requires
set_symbols-requires c = let a = accepted (goal.at.set_symbols-requires c).In_ok-fault in (a.2, a.3)

pub returns : goal.returns
unfolding correct_listed_fault
returns c = rw (done_is _ _ c.in_ok-fault.ensures) c.set_symbols.ensures
