-- Messages of k symbols, and changes of their symbols.
use Rattle.std.specs.Prelude.{◌≡◌, ◌≢◌, List, [], ◌∷◌}
use Prim.Native.Nat.{ℕ, zero, suc, zero-le, suc-le-suc, Fin}

-- a message: k symbols of the alphabet S, numbered from 0
abbrev pub Message {ℓ} : Type ℓ → ℕ → Type ℓ
Message S k = Fin k → S

-- its symbols in order, as a list
unfoldable pub symbols {ℓ} : {S : Type ℓ} (k : ℕ) → Message S k → List S
symbols zero m = []
symbols (suc k) m = m (zero, suc-le-suc zero-le) ∷ symbols k (λ i. m (native.Mathlib.Fin.succ i))

-- a change of symbol r: two messages that differ at that symbol alone
pub record Change {ℓ} {S : Type ℓ} {k : ℕ} (r : Fin k) (m m' : Message S k) : Type ℓ where
  pub there : m r ≢ m' r
  pub elsewhere : (i : Fin k) → i ≢ r → m i ≡ m' i
