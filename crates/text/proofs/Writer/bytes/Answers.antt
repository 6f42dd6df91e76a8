-- `bytes` meets its contract.
use mathlib.Core.Path.{refl}
use lib.ListN.{length}
use native.Mathlib.Nat.{add-sub_cancel_left}
use Rattle.text.specs.Inner.Writing.{written}
use Rattle.text.proofs.Written.{writes_puts}
use Rattle.text.proofs.Writer.bytes.Goals as goal

pub returns : goal.returns
unfolding written
returns c =
    let size = add-sub_cancel_left c.args.self.now.end (length c.args.bytes.now) in
    writes_puts c.requires refl record { place = refl; bytes = rw (size, c.copy_from_slice.ensures.after) }
