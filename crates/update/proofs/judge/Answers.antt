-- `judge` meets its contract: the lane is read as symbols.
use mathlib.Core.Path.{◌≡◌}
use native.Mathlib.Nat.{mul_comm, mul-le-mul, le_refl}
use lib.ListN.{take}
use Rattle.lists.proofs.Padding.{take_padded}
use Rattle.layout.specs.Width.{symbols_of}
use Rattle.plan.specs.Plans.{plan_of}
use Rattle.update.proofs.Lane.{word_long}
use Rattle.update.proofs.judge.Goals as goal
use Rattle.update.proofs.judge.Goals.{After-read_symbols-symbols}

-- the symbols, lent as a part
part : (c : After-read_symbols-symbols) → let a = c.args in take a.generator.now.codec.code.header.n c.read_symbols-symbols.result ≡ symbols_of a.w.bytes a.lane.now
part c = rw c.read_symbols-symbols.ensures (take_padded 255 _ _ (word_long c.requires))

pub read_symbols-symbols-requires : goal.read_symbols-symbols-requires
read_symbols-symbols-requires c =
    let ready = c.requires in
    rw (ready.bytes, mul_comm 255 c.args.w.bytes) (mul-le-mul (le_refl c.args.w.bytes) ready.sound.byte)

pub stale_fault-requires : goal.stale_fault-requires
unfolding plan_of
stale_fault-requires c =
    let ready = c.requires in
    let is = part (goal.at.stale_fault-requires c).After-read_symbols-symbols in
    (rw is (word_long ready), rw is ready.symbols, ready.row, c.args.generator.now.planned.shifts_are)

pub returns : goal.returns
returns c = rw (part (goal.at.returns c).After-read_symbols-symbols) at c.stale_fault.ensures
