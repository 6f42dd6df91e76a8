-- `nodes_where` meets its contract. Invariant: the nodes below j that pass are listed, and those from j on are to come.
use mathlib.Core.Bool.{Bool}
use mathlib.Core.List.{◌++◌}
use mathlib.Core.Path.{◌≡◌}
use Prim.Native.Nat.{ℕ, ◌-◌, ◌≤◌, ◌<◌}
use lib.ListN.{length}
use Rattle.lists.specs.Counting.{passing_from}
use Rattle.node_lists.proofs.nodes_where.Given as goal

abbrev pub invariant-loop-j : goal.invariant-loop-j
invariant-loop-j g l = record {
  few : length l.nodes.items ≤ l.j;
  listed : (q : ℕ → Bool) → ((j : ℕ) (b : Bool) → j < l.n → goal.F-post g l.test j b → b ≡ q j) → l.nodes.items ++ passing_from (l.n - l.j) l.j q ≡ passing_from l.n 0 q;
}
