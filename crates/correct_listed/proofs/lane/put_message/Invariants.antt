-- `put_message` meets its contract. Invariant: the rows before r are written.
use mathlib.Core.Path.{◌≡◌}
use lib.ListN.{length, get_or}
use Rattle.layout.specs.Layout.{row_after_row}
use Rattle.layout.specs.Width.{symbols_of, bytes_of}
use Rattle.layout.proofs.Rewritten.{rewritten}
use Rattle.correct_listed.proofs.lane.put_message.Given as goal

abbrev pub invariant-loop-r : goal.invariant-loop-r
invariant-loop-r l =
    l.message ≡ bytes_of l.w.bytes (rewritten row_after_row (length l.symbols) l.lanes l.t (λ i. get_or l.symbols i 0) (symbols_of l.w.bytes l.initial.message) l.r)
