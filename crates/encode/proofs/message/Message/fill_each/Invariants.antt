-- `fill_each` meets its contract. The loop's invariant: the lanes below t are filled, and the others are to come.
use mathlib.Core.List.{List}
use Prim.Native.Nat.{ℕ, ◌-◌, ◌*◌}
use Rattle.lists.specs.Rows.{rows_from}
use Rattle.lists.proofs.Fill.{Fills}
use Rattle.layout.specs.Layout.{lane_after_lane, lane_of}
use Rattle.layout.specs.Width.{bytes_of}
use Rattle.blocks.specs.Blocks.{shares_of}
use Rattle.encode.specs.Inner.Encoded.{record_header, message_symbols}
use Rattle.encode.proofs.message.Message.fill_each.Given as goal

abbrev pub invariant-loop-t : goal.invariant-loop-t
invariant-loop-t l =
    let m = l.self in
    let h = record_header m in
    let lane : ℕ → List ℕ = λ q. bytes_of m.width.bytes (lane_of lane_after_lane h.n m.lanes q (shares_of lane_after_lane h m.lanes (message_symbols m))) in
    Fills l.initial.out l.out (l.t * (m.width.bytes * h.n)) (rows_from lane l.t (m.lanes - l.t)) (rows_from lane 0 m.lanes)
