-- `encode_accepted` meets its contract: the message is of the code that the generator holds.
use mathlib.Core.Path.{refl, ◌∙◌}
use Rattle.layout.proofs.LaneParts.{lanes_long}
use Rattle.generator.specs.Records.{width}
use Rattle.generator.proofs.Answered.{done_is}
use Rattle.encode.proofs.Accepts.{encode_accepts}
use Rattle.encode.proofs.encode_accepted.Goals as goal

pub invariant_of-message : goal.invariant_of-message
invariant_of-message c =
    let h = c.args.code.header in
    let none = done_is _ _ c.in_ok-encode_fault.ensures in
    let message = (encode_accepts h c.args.code.sound c.args.lanes _ c.args.message.now none).0 in
    rw (c.new-generator.ensures, c.width_of.ensures) record { rows = record { wide = refl; bytes = message.bytes ∙ lanes_long (width h) h.k c.args.lanes; symbol_rows = message.symbol_rows } }
