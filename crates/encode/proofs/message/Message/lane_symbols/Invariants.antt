-- `lane_symbols` meets its contract. The loop's invariant: the symbols of the rows below r are read.
use Rattle.lists.proofs.Fill.{Filled}
use Rattle.layout.specs.Layout.{row_after_row, held}
use Rattle.encode.specs.Inner.Encoded.{message_symbols}
use Rattle.encode.proofs.message.Message.lane_symbols.Given as goal

abbrev pub invariant-loop-r : goal.invariant-loop-r
invariant-loop-r l = Filled 255 l.k (λ i. held row_after_row l.k l.self.lanes (message_symbols l.self) i l.t) l.r l.out
