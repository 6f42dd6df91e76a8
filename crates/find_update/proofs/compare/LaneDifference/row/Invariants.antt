-- `row` meets its contract. Invariant: the search from 0 on is the search from r on.
use mathlib.Core.Path.{◌≡◌}
use mathlib.Core.Bool.{Bool, not}
use mathlib.Core.List.{List}
use Prim.Native.Nat.{ℕ, ◌-◌}
use lib.ListN.{get_or}
use Rattle.lists.specs.Search.{first_false}
use Rattle.generator.specs.declared.Header.{Header}
use Rattle.generator.specs.Shifts.{firsts}
use Rattle.find_update.specs.Inner.Starts.{begins_at, row_starting}
use Rattle.find_update.proofs.compare.LaneDifference.row.Given as goal

abbrev pub other : Header → List ℕ → ℕ → Bool
other h difference r = not (begins_at h.k difference (get_or (firsts h) r 0))

abbrev pub invariant-loop-r : goal.invariant-loop-r
invariant-loop-r l =
    let h = l.fn.self.codec.code.header in
    row_starting h l.self.symbols.now ≡ first_false (h.k - l.r) l.r (other h l.self.symbols.now)
