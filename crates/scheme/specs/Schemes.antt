-- Schemes: what n nodes hold for a message of k symbols, so that any k nodes fix the message.
use Rattle.std.specs.Prelude.{◌≡◌, ◌≢◌, true, List, length}
use Prim.Native.Nat.{ℕ, Fin}
use Rattle.lists.specs.Numbers.{all_below, is_in, distinct}
use Rattle.scheme.specs.Messages.{Message, Change}

-- a fixed rule that gives each message of k symbols what each of n nodes holds, the contents of node j being of the kind C j.
-- That any two symbols are equal or different is not asked: the bounds hold without it
pub record Scheme {ℓ κ} (k n : ℕ) (S : Type ℓ) (C : Fin n → Type κ) : Type (ℓ ⊔ κ) where
  pub holds : Message S k → (j : Fin n) → C j
  -- any two contents of one node are equal or different
  pub same : (j : Fin n) (a b : C j) → Dec (a ≡ b)
  -- any k nodes fix the message: if each of some k different nodes holds the same for two messages, the two are equal
  pub fixes : (m m' : Message S k) (js : List ℕ) → length js ≡ k → all_below n js ≡ true → distinct js ≡ true → ((j : Fin n) → is_in j.0 js ≡ true → holds m j ≡ holds m' j) → m ≡ m'

module _ {ℓ κ} {k n : ℕ} {S : Type ℓ} {C : Fin n → Type κ} (scheme : Scheme k n S C) where
  -- two messages alter node j: it holds different things for the two
  abbrev pub Altered : Message S k → Message S k → Fin n → Type κ
  Altered m m' j = scheme.holds m j ≢ scheme.holds m' j

  -- node j depends on symbol r: for some message, changing that symbol alone changes what the node holds
  abbrev pub DependsOn : Fin n → Fin k → Type (ℓ ⊔ κ)
  DependsOn j r = (m : Message S k) × (m' : Message S k) × Change r m m' × Altered m m' j
