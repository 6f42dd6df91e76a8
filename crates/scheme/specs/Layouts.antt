-- Layouts of a store as schemes: the figures by which two layouts are compared, and the plain layout.
use Rattle.std.specs.Prelude.{◌≡◌, ◌↔◌, ltb}
use Prim.Native.Nat.{ℕ, Fin}
use Rattle.lists.specs.Choice.{pick}
use Rattle.scheme.specs.Messages.{Message, Change}
use Rattle.scheme.specs.Schemes.{Scheme, Altered, DependsOn}
use Rattle.scheme.specs.Costs.{AtLeast, AtMost, Exactly}

module _ {ℓ κ} {k n : ℕ} {S : Type ℓ} {C : Fin n → Type κ} (scheme : Scheme k n S C) where
  -- the figures of a scheme: the nodes that a change of one symbol alters, and the least and the greatest number of symbols that a node depends on
  pub record HasFigures (writes least greatest : ℕ) : Type (ℓ ⊔ κ) where
    -- each change of one symbol alters exactly `writes` nodes
    pub alters : (r : Fin k) (m m' : Message S k) → Change r m m' → Exactly writes n (Altered scheme m m')
    -- every node depends on at least `least` symbols, and some node on exactly so many
    pub at_least : (j : Fin n) → AtLeast least k (DependsOn scheme j)
    pub least_node : (j : Fin n) × Exactly least k (DependsOn scheme j)
    -- every node depends on at most `greatest` symbols, and some node on exactly so many
    pub at_most : (j : Fin n) → AtMost greatest k (DependsOn scheme j)
    pub greatest_node : (j : Fin n) × Exactly greatest k (DependsOn scheme j)

  -- the plain layout: the first k nodes hold the message. Node r holds the same for two messages exactly if they have the same symbol r.
  -- These nodes are the data nodes, and the nodes from k on the parity nodes
  abbrev pub Plain : Type (ℓ ⊔ κ)
  Plain = (j : Fin n) (r : Fin k) → j.0 ≡ r.0 → (m m' : Message S k) → (scheme.holds m j ≡ scheme.holds m' j) ↔ (m r ≡ m' r)

-- the greatest number of symbols that a node of a plain layout depends on: a parity node depends on all k, a data node on one
abbrev pub plain_reads : ℕ → ℕ → ℕ
plain_reads k n = pick (ltb k n) k 1
