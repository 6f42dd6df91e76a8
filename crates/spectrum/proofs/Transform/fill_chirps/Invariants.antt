-- `fill_chirps` meets its contract. Invariant: the powers below x are written.
use mathlib.Core.List.{List}
use Prim.Native.Nat.{ℕ}
use lib.ListN.{length, get_or}
use Rattle.lists.proofs.Parts.{Valued}
use Rattle.spectrum.proofs.Transform.fill_chirps.Given as goal

-- a power, as it is read
abbrev pub read : List ℕ → List ℕ → ℕ → ℕ
read powers exponents x = get_or powers (get_or exponents x 0) 0

abbrev pub invariant-loop-x : goal.invariant-loop-x
invariant-loop-x l = Valued (read l.powers l.exponents) (length l.initial.row) l.initial.row l.row l.x
