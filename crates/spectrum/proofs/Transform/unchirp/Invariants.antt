-- `unchirp` meets its contract: each exponent is below n, and the power of its negative is read from the table. Invariant: the pairs from j on are left.
use mathlib.Core.List.{List}
use Prim.Native.Nat.{ℕ}
use lib.ListN.{length, get_or}
use Rattle.std.specs.Iterator.Adapters.{enumerate_count, enumerate_source, zip_first, zip_second}
use Rattle.std.specs.Slice.Iter.{iter_rest}
use Rattle.lists.proofs.Fill.{Filled}
use Rattle.lists.proofs.Paired.{Paired}
use Rattle.field.specs.Fields.{mul}
use Rattle.field.specs.Kinds.{modulus}
use Rattle.generator.specs.Shifts.{negative}
use Rattle.spectrum.proofs.Transform.unchirp.Given as goal

-- a symbol over its power, as it is read
abbrev pub read : ℕ → ℕ → List ℕ → List ℕ → List ℕ → ℕ → ℕ
read p n powers exponents symbols j = mul p (get_or symbols j 0) (get_or powers (negative n (get_or exponents j 0)) 0)

abbrev pub invariant-loop-j : goal.invariant-loop-j
invariant-loop-j l =
    let j = enumerate_count l.j-iterator in
    let pairs = enumerate_source l.j-iterator in
    Paired l.symbols l.exponents j (iter_rest (zip_first pairs)) (iter_rest (zip_second pairs)) × Filled 255 (length l.symbols) (read (modulus l.field.field) l.n l.powers l.exponents l.symbols) j l.out
