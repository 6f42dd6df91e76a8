-- `fields` meets its contract. Invariant: the fields before x are written; the others and the line feed are to come.
use Prim.Native.Nat.{◌+◌, ◌*◌, ◌≤◌}
use mathlib.Core.List.{map}
use lib.ListN.{drop}
use Rattle.text.specs.Text.{fields}
use Rattle.text.specs.Inner.Writer.{room}
use Rattle.text.proofs.Written.{Writing}
use Rattle.text.proofs.Writer.fields.Given as goal

abbrev pub invariant-loop-x : goal.invariant-loop-x
invariant-loop-x g l = record {
  text : Writing l.initial.self l.self (fields (map g.N.Number.value (drop l.x-index l.xs))) (fields (map g.N.Number.value l.xs));
  room : room l.initial.self ≤ room l.self + (g.N.Number.digits + 1) * l.x-index;
}
