-- `put_symbols` meets its contract: the new symbols as bytes, at the front of the buffer.
use mathlib.Core.Path.{refl}
use Prim.Native.Nat.{◌*◌, ◌≤◌}
use native.Mathlib.Nat.{mul-le-mul_right}
use lib.ListN.{length}
use lib.Seq.{length-take-le}
use Rattle.generator.specs.Records.{width}
use Rattle.symbols.proofs.Fits.{symbols_fit}
use Rattle.mends.proofs.Front.{front_bytes}
use Rattle.mends.proofs.changes.put_symbols.Goals as goal
use Rattle.mends.proofs.changes.put_symbols.Goals.{After-width_of-w}

-- the bytes fit the buffer
room : (c : After-width_of-w) → let a = c.args in length a.new.now * c.width_of-w.result.bytes ≤ length a.symbols.now
room c =
    let (low, few, long) = c.requires in
    rw (c.width_of-w.ensures, long) (mul-le-mul_right _ few)

pub write_symbols-requires : goal.write_symbols-requires
write_symbols-requires c =
    let (low, few, long) = c.requires in
    (rw c.width_of-w.ensures (symbols_fit _ c.args.code.sound _ low), length-take-le _ _ (room (goal.at.write_symbols-requires c).After-width_of-w))

pub returns : goal.returns
returns c =
    let a = c.args in
    let wide = c.width_of-w in
    front_bytes (width a.code.header) (length a.new.now) wide.result.bytes _ a.new.now _ c.write_symbols.ensures wide.ensures refl
