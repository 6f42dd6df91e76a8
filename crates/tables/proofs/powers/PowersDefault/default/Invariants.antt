-- `default` meets its contract. Invariant: the powers at exponents below e are made.
use mathlib.Core.Path.{◌≡◌}
use Prim.Native.Nat.{ℕ, ◌<◌}
use lib.ListN.{length, get_or}
use Rattle.field.specs.Fields.{power}
use Rattle.tables.proofs.powers.PowersDefault.default.Given as goal

abbrev pub invariant-loop-e : goal.invariant-loop-e
invariant-loop-e l = record { size : length l.powers ≡ 255; made : (k : ℕ) → k < l.e → get_or l.powers k 0 ≡ power 0 2 k }
