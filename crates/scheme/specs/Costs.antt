-- What a scheme costs: nodes written at a change, and symbols that a node depends on. In comments d is n − k + 1.
use Rattle.std.specs.Prelude.{◌≡◌, ◌≢◌, ◌⊎◌, true, List, length}
use Prim.Native.Nat.{ℕ, ◌+◌, ◌-◌, ◌*◌, ◌/◌, ◌≤◌, Fin}
use Rattle.lists.specs.Numbers.{all_below, is_in, distinct}
use Rattle.scheme.specs.Messages.{Message, Change}
use Rattle.scheme.specs.Schemes.{Scheme, Altered, DependsOn}

-- at least c of the numbers below n have P: a list of different ones
pub record AtLeast {ℓ} (c n : ℕ) (P : Fin n → Type ℓ) : Type ℓ where
  pub which : List ℕ
  pub below : all_below n which ≡ true
  pub different : distinct which ≡ true
  pub many : c ≤ length which
  pub each : (i : Fin n) → is_in i.0 which ≡ true → P i

-- at most c of them: no list of different ones is longer
abbrev pub AtMost {ℓ} : (c n : ℕ) → (Fin n → Type ℓ) → Type ℓ
AtMost c n P = (is : List ℕ) → all_below n is ≡ true → distinct is ≡ true → ((i : Fin n) → is_in i.0 is ≡ true → P i) → length is ≤ c

abbrev pub Exactly {ℓ} : (c n : ℕ) → (Fin n → Type ℓ) → Type ℓ
Exactly c n P = AtLeast c n P × AtMost c n P

-- a / b rounded down and up
abbrev pub floor : ℕ → ℕ → ℕ
floor a b = a / b

abbrev pub ceil : ℕ → ℕ → ℕ
ceil a b = (a + (b - 1)) / b

-- c is a / b, rounded down or up
abbrev pub Rounded : ℕ → ℕ → ℕ → Type 0
Rounded a b c = (c ≡ floor a b) ⊎ (c ≡ ceil a b)

module _ {ℓ κ} {k n : ℕ} {S : Type ℓ} {C : Fin n → Type κ} (scheme : Scheme k n S C) where
  -- what no scheme can spare
  pub record Price : Type (ℓ ⊔ κ) where
    -- each change of one symbol alters at least d nodes
    pub writes : (r : Fin k) (m m' : Message S k) → Change r m m' → AtLeast (n - k + 1) n (Altered scheme m m')
    -- some node depends on at least k · d / n symbols, if the alphabet has two
    pub reads : (x x' : S) → x ≢ x' → (j : Fin n) × (c : ℕ) × (k * (n - k + 1) ≤ n * c) × AtLeast c k (DependsOn scheme j)
    -- so, a count being whole, on at least k · d / n rounded up
    pub reads_up : (x x' : S) → x ≢ x' → (j : Fin n) × AtLeast (ceil (k * (n - k + 1)) n) k (DependsOn scheme j)

  -- a scheme at the least price, shared out as evenly as whole numbers allow
  pub record Tight : Type (ℓ ⊔ κ) where
    -- each change of one symbol alters exactly d nodes
    pub writes : (r : Fin k) (m m' : Message S k) → Change r m m' → Exactly (n - k + 1) n (Altered scheme m m')
    -- each node depends on exactly k · d / n symbols, rounded down or up
    pub reads : (j : Fin n) → Exactly (floor (k * (n - k + 1)) n) k (DependsOn scheme j) ⊎ Exactly (ceil (k * (n - k + 1)) n) k (DependsOn scheme j)
    -- some node has the lower number, and some node the upper
    pub lower_node : (j : Fin n) × Exactly (floor (k * (n - k + 1)) n) k (DependsOn scheme j)
    pub upper_node : (j : Fin n) × Exactly (ceil (k * (n - k + 1)) n) k (DependsOn scheme j)

  -- a scheme that costs no more than the least price
  pub record Frugal : Type (ℓ ⊔ κ) where
    -- each change of one symbol alters at most d nodes
    pub writes : (r : Fin k) (m m' : Message S k) → Change r m m' → AtMost (n - k + 1) n (Altered scheme m m')
    -- each node depends on at most k · d / n symbols, rounded up
    pub reads : (j : Fin n) → AtMost (ceil (k * (n - k + 1)) n) k (DependsOn scheme j)

-- a scheme costs at least as much as another: each of its changes alters at least as many nodes as any change of the other does,
-- and some node of it depends on at least as many symbols as any node of the other does
pub record CostsAtLeast {ℓ κ ℓ' κ'} {k n : ℕ} {S : Type ℓ} {C : Fin n → Type κ} {S' : Type ℓ'} {C' : Fin n → Type κ'} (scheme : Scheme k n S C) (scheme' : Scheme k n S' C') : Type (ℓ ⊔ κ ⊔ ℓ' ⊔ κ') where
  pub writes : (r r' : Fin k) (m m' : Message S k) (m₂ m₂' : Message S' k) → Change r m m' → Change r' m₂ m₂' → (c : ℕ) → AtLeast c n (Altered scheme' m₂ m₂') → AtLeast c n (Altered scheme m m')
  pub reads : (j : Fin n) × ((j' : Fin n) (c : ℕ) → AtLeast c k (DependsOn scheme' j') → AtLeast c k (DependsOn scheme j))
