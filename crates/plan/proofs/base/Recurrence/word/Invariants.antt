-- `Recurrence::word` meets its contract. Invariant: the entries up to place-index are written, x is root^(place-index + k − 1), and `entry` is p(x), the last of them.
use mathlib.Core.Path.{◌≡◌}
use Prim.Native.Nat.{◌+◌, ◌-◌}
use Rattle.lists.specs.Padded.{zeros}
use Rattle.lists.specs.Rows.{from}
use Rattle.lists.proofs.Fill.{Fills}
use Rattle.field.specs.Fields.{power}
use Rattle.generator.specs.Records.{modulus_of, distance}
use Rattle.generator.specs.Generator.{base_at, entry_at}
use Rattle.plan.proofs.base.Recurrence.word.Given as goal

abbrev pub invariant-loop-place : goal.invariant-loop-place
invariant-loop-place l =
    let h = l.self.codec.code.header in
    (l.x ≡ power (modulus_of h) h.root (l.place-index + (h.k - 1)))
    × (l.entry ≡ base_at h l.x)
    × Fills (zeros l.last) l.place-items l.place-index (from (entry_at h 0) (l.place-index + 1) (distance h - (l.place-index + 1))) (from (entry_at h 0) 1 (distance h - 1))
