-- `is_multiple` meets its contract. Invariant: the search from 0 on is the search from j on.
use mathlib.Core.Path.{◌≡◌}
use mathlib.Core.Bool.{Bool}
use mathlib.Core.List.{List}
use Prim.Native.Nat.{ℕ, ◌-◌}
use lib.Dec.{eqb}
use lib.ListN.{get_or}
use Rattle.lists.specs.Search.{first_false}
use Rattle.field.specs.Fields.{mul}
use Rattle.generator.specs.declared.Header.{Header}
use Rattle.generator.specs.Records.{modulus_of}
use Rattle.generator.specs.Generator.{entry}
use Rattle.find_update.specs.Inner.Starts.{first_other}
use Rattle.find_update.proofs.compare.LaneDifference.is_multiple.Given as goal

-- the comparison at node j
abbrev pub same : Header → List ℕ → ℕ → ℕ → ℕ → Bool
same h difference row x j = eqb (get_or difference j 0) (mul (modulus_of h) x (entry h row j))

abbrev pub invariant-loop-j : goal.invariant-loop-j
invariant-loop-j l =
    let h = l.fn.self.codec.code.header in
    first_other h l.self.symbols.now l.row l.x ≡ first_false (l.n - l.j) l.j (same h l.self.symbols.now l.row l.x)
