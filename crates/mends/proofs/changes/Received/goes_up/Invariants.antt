-- `goes_up` meets its contract. Invariant: the pairs from e on are left, and the search from 0 on is the search from e on.
use mathlib.Core.Path.{◌≡◌}
use mathlib.Core.Bool.{Bool}
use mathlib.Core.List.{List}
use Prim.Native.Nat.{ℕ, ◌+◌, ◌-◌, ◌≤◌, ◌<◌}
use lib.Dec.{eqb}
use lib.ListN.{length, get_or, drop}
use Rattle.std.specs.Slice.Iter.{windows_rest, windows_size}
use Rattle.lists.specs.Search.{first_false}
use Rattle.field.specs.Fields.{mul}
use Rattle.field.specs.Kinds.{modulus}
use Rattle.mends.specs.Inner.BySums.{first_off}
use Rattle.mends.proofs.changes.Received.goes_up.Given as goal

-- the test at place e
abbrev pub step : ℕ → ℕ → List ℕ → ℕ → Bool
step p c sums e = eqb (get_or sums (e + 1) 0) (mul p c (get_or sums e 0))

abbrev pub invariant-loop-pair : goal.invariant-loop-pair
invariant-loop-pair l =
    let sums = l.self.sums.now in
    let rest = windows_rest l.pair-iterator in
    let e = length sums - length rest in
    let p = modulus l.self.powers.codec.field.field in
    (windows_size l.pair-iterator ≡ 2) × (length rest ≤ length sums) × (rest ≡ drop e sums) × (0 < length rest) × (first_off p l.c sums ≡ first_false (length sums - 1 - e) e (step p l.c sums))
