-- `Repair::bits_accepted` meets its contract.
use mathlib.Core.Path.{◌≡◌, sym, ap, ap₂, ◌∙◌}
use Prim.Native.Nat.{ℕ, ◌<◌}
use mir.Syntax.{w8}
use mir.Val.{Fits}
use native.Mathlib.Omega.{arith}
use lib.ListN.{length}
use Rattle.repair.specs.Packing.{packed_size}
use Rattle.repair.proofs.Accepts.{BitsAccepted, bits_accepts, bits_refuses, bits_done}
use Rattle.repair.specs.Asked.{asked}
use Rattle.repair.proofs.Judging.{asked_bits}
use Rattle.repair.proofs.Adding.{sent_asked}
use Rattle.repair.proofs.Repair.bits_accepted.Goals as goal
use Rattle.generator.proofs.Answered.{exit, done_is, value_is, refused_is}
use Rattle.repair.proofs.Repair.bits_accepted.Goals.{In_ok-target}

pub returns-in_err-target : goal.returns-in_err-target
returns-in_err-target c =
    let met = refused_is _ _ _ c.in_err-target.ensures in
    rw (exit _ c.from_residual.ensures.1, ← met.0) (bits_refuses _ _ met.1 _ _ _ _ _)

byte : {x : ℕ} → Fits w8 x → x < 256
byte h = omega arith

-- what is known where no number was met, and that the target is the one that was asked for
accepted : (c : In_ok-target)
    → let a = c.args in
    BitsAccepted a.self.codec.code.header a.self.lanes a.node a.self.target a.self.missing.now (length a.share.now) (length a.out.now)
accepted c = bits_accepts _ _ _ _ _ _ _ (done_is _ _ c.in_ok-target.ensures)

is_asked : (c : In_ok-target) → let r = c.args.self in asked c.in_ok-target.target ≡ (r.codec.code.header, (r.target, r.missing.now))
is_asked c = value_is _ _ c.in_ok-target.ensures

pub sent_digits-table-requires : goal.sent_digits-table-requires
sent_digits-table-requires c =
    let place = (goal.at.sent_digits-table-requires c).In_ok-target in
    rw (ap (λ p. p.0) (is_asked place)) (accepted place).node

pub pack-requires : goal.pack-requires
pack-requires c =
    let place = (goal.at.pack-requires c).In_ok-target in
    let is = accepted place in
    (rw is.share_long is.few, is.out_long ∙ sym (ap₂ packed_size (asked_bits c.in_ok-target.target _ _ _ (is_asked place)) is.share_long))

pub returns : goal.returns
returns c =
    let a = c.args in
    let place = (goal.at.returns c).In_ok-target in
    let none = done_is _ _ c.in_ok-target.ensures in
    bits_done _ _ none _ _ _ _ _ _
    (c.pack.ensures
    ∙ sent_asked c.in_ok-target.target _ _ _ (is_asked place) a.node c.sent_digits-table.result a.share.now c.sent_digits-table.ensures (λ i. byte (c.type_inv.share i)))
