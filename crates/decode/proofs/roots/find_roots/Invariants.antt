-- `find_roots` meets its contract. Invariant: x is the point of node j, a symbol, the roots below j are listed, and those from j on are to come.
use mathlib.Core.Path.{◌≡◌}
use mathlib.Core.Bool.{Bool}
use mathlib.Core.List.{List, ◌++◌}
use Prim.Native.Nat.{ℕ, ◌-◌, ◌≤◌, ◌<◌}
use lib.Dec.{eqb}
use lib.ListN.{length}
use Rattle.lists.specs.Counting.{passing_from}
use Rattle.field.specs.Fields.{size_of, power}
use Rattle.field.specs.Kinds.{modulus}
use Rattle.generator.specs.Codewords.{poly_at}
use Rattle.decode.proofs.roots.find_roots.Given as goal

-- the polynomial vanishes at node j
abbrev pub vanishes : ℕ → ℕ → List ℕ → ℕ → Bool
vanishes p root cs j = eqb (poly_at p cs (power p root j)) 0

abbrev pub invariant-loop-j : goal.invariant-loop-j
invariant-loop-j l =
    let p = modulus l.field.field in
    let is = vanishes p l.root l.polynomial.coefficients.now in
    record {
      few : length l.nodes.items ≤ l.j;
      symbol : l.x < size_of p;
      point : l.x ≡ power p l.root l.j;
      listed : l.nodes.items ++ passing_from (l.n - l.j) l.j is ≡ passing_from l.n 0 is;
    }
