-- `Repair::share_accepted` meets its contract.
use mathlib.Core.Path.{◌≡◌, sym, ap, ap₂, ◌∙◌}
use Prim.Native.Nat.{◌-◌, ◌*◌}
use lib.ListN.{length}
use Rattle.repair.specs.Packing.{packed_size}
use Rattle.repair.specs.Sent.{repaired_share}
use Rattle.repair.specs.Asked.{asked}
use Rattle.repair.proofs.Judging.{asked_bits}
use Rattle.repair.proofs.Accepts.{ShareAccepted, share_accepts, share_refuses, share_done}
use Rattle.repair.proofs.Repair.share_accepted.Goals as goal
use Rattle.generator.proofs.Answered.{exit, done_is, value_is, refused_is}
use Rattle.repair.proofs.Repair.share_accepted.Goals.{In_ok-target}

pub returns-in_err-target : goal.returns-in_err-target
returns-in_err-target c =
    let met = refused_is _ _ _ c.in_err-target.ensures in
    rw (exit _ c.from_residual.ensures.1, ← met.0) (share_refuses _ _ met.1 _ _ _ _ _)

-- what is known where no number was met
accepted : (c : In_ok-target)
    → let a = c.args in
    ShareAccepted a.self.codec.code.header a.self.lanes a.self.target a.self.missing.now (length a.rows.now) (length a.out.now)
accepted c = share_accepts _ _ _ _ _ _ (done_is _ _ c.in_ok-target.ensures)

is_asked : (c : In_ok-target) → let r = c.args.self in asked c.in_ok-target.target ≡ (r.codec.code.header, (r.target, r.missing.now))
is_asked c = value_is _ _ c.in_ok-target.ensures

pub add_up-requires : goal.add_up-requires
add_up-requires c =
    let place = (goal.at.add_up-requires c).In_ok-target in
    let is = accepted place in
    let e = is_asked place in
    (rw is.out_long is.few, is.rows_long ∙ sym (ap₂ ◌*◌ (ap (λ p. p.0.n - 1 - length p.1.1) e) (ap₂ packed_size (asked_bits c.in_ok-target.target _ _ _ e) is.out_long)))

pub returns : goal.returns
returns c =
    let a = c.args in
    let place = (goal.at.returns c).In_ok-target in
    let none = done_is _ _ c.in_ok-target.ensures in
    share_done _ _ none _ _ _ _ _ _ (c.add_up.ensures ∙ ap₂ (λ p l. repaired_share p.0 l p.1.0 p.1.1 a.rows.now) (is_asked place) (accepted place).out_long)
