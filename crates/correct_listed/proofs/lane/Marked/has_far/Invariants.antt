-- `has_far` meets its contract. Invariant: the search from 0 on is the search from t on.
use mathlib.Core.Path.{◌≡◌}
use mathlib.Core.Bool.{Bool}
use mathlib.Core.List.{List}
use Prim.Native.Nat.{ℕ, ◌-◌}
use Rattle.lists.specs.Search.{first_false}
use Rattle.generator.specs.declared.Header.{Header}
use Rattle.near_message.specs.Nearest.{has_near_message}
use Rattle.correct_listed.specs.Inner.Lanes.{lane_listed}
use Rattle.correct_listed.proofs.lane.Marked.has_far.Given as goal

-- lane t has a message near enough
abbrev pub near : Header → List ℕ → ℕ → List ℕ → ℕ → Bool
near h nodes l shares t = has_near_message h nodes (lane_listed h nodes l shares t)

abbrev pub invariant-loop-t : goal.invariant-loop-t
invariant-loop-t l =
    let m = l.self in
    let p = near m.rows.code.header m.nodes.now m.lanes m.shares.now in
    first_false m.lanes 0 p ≡ first_false (m.lanes - l.t) l.t p
