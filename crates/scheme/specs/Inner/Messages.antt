-- A message with one symbol changed.
use Rattle.std.specs.Prelude.{◌≢◌}
use Prim.Native.Nat.{ℕ, Fin}
use Rattle.scheme.specs.Messages.{Message}

-- two messages differ at symbol r, whatever they do elsewhere
abbrev pub Changed {ℓ} : {S : Type ℓ} {k : ℕ} → Message S k → Message S k → Fin k → Type ℓ
Changed m u r = m r ≢ u r
