-- `differences_accepted` meets its contract: the change is of the code that the generator holds, and its rows were judged.
use mathlib.Core.Path.{refl, ap, ◌∙◌}
use Prim.Native.Nat.{ℕ, ◌*◌}
use native.Mathlib.Nat.{mul_comm, mul_assoc}
use Rattle.generator.specs.Records.{width}
use Rattle.generator.proofs.Answered.{done_is}
use Rattle.differences.proofs.Accepts.{differences_accepts}
use Rattle.differences.proofs.Tiles.{judged_row}
use Rattle.differences.proofs.differences_accepted.Goals as goal

pub invariant_of-change : goal.invariant_of-change
invariant_of-change c =
    let a = c.args in
    let is = differences_accepts a.code.header a.code.sound a.lanes a.symbol a.old.now a.new.now _ (done_is _ _ c.in_ok-differences_fault.ensures) in
    rw c.new-generator.ensures record { row = is.row; old_row = judged_row is.old_row _ refl; new_row = judged_row is.new_row _ refl }

pub fill_differences-requires : goal.fill_differences-requires
fill_differences-requires c =
    let a = c.args in
    let h = a.code.header in
    let is = differences_accepts h a.code.sound a.lanes a.symbol a.old.now a.new.now _ (done_is _ _ c.in_ok-differences_fault.ensures) in
    rw c.new-generator.ensures (is.room ∙ mul_assoc h.n a.lanes (width h) ∙ ap (λ (x : ℕ). h.n * x) (mul_comm a.lanes (width h)))
