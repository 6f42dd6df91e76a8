-- When a scheme costs no more than it must: a table says which symbol's change alters which node, its rows and columns filled as evenly as whole numbers allow.
use mathlib.Core.Path.{◌≡◌, sym}
use mathlib.Core.Logic.{◌≢◌, ◌↔◌, inl, inr, ⊎_elim}
use mathlib.Core.Bool.{Bool, true}
use Prim.Native.Nat.{ℕ, ◌+◌, ◌-◌, ◌*◌, ◌≤◌, Fin}
use native.Mathlib.Nat.{le_trans, le_of_eq}
use native.Mathlib.Omega.{arith}
use Rattle.lists.specs.Counting.{count_from}
use Rattle.scheme.specs.Messages.{Message, Change}
use Rattle.scheme.specs.Schemes.{Scheme, Altered, DependsOn}
use Rattle.scheme.specs.Costs.{Exactly, floor, ceil, Rounded, Tight, Frugal, CostsAtLeast}
use Rattle.scheme.proofs.Sums.{busiest, idlest, floor_ceil, lower_column, upper_column}
use Rattle.scheme.proofs.Deciding.{exactly, fewer, more, least_most}
use Rattle.scheme.proofs.Bounds.{put, put_change, price, reads_up}

module _ {ℓ κ} {k n : ℕ} {S : Type ℓ} {C : Fin n → Type κ} (s : Scheme k n S C) (x y : S) (two : x ≢ y) (some : 1 ≤ k) (small : k ≤ n) where
  -- rows of d = n − k + 1, and columns of k · d / n rounded down or up
  pub tight : (table : ℕ → ℕ → Bool) → ((r : Fin k) (m u : Message S k) → Change r m u → (j : Fin n) → (table r.0 j.0 ≡ true) ↔ Altered s m u j) → ((r : Fin k) → count_from n 0 (table r.0) ≡ n - k + 1) → ((j : Fin n) → Rounded (k * (n - k + 1)) n (count_from k 0 (λ r. table r j.0))) → Tight s
  tight table means rows columns =
      let nodes : 1 ≤ n = le_trans some small in
      let (low, low_node, few) = idlest k n (n - k + 1) table nodes (omega arith) (λ r row. le_of_eq (rows (r, row))) in
      let (high, high_node, many) = busiest k n (n - k + 1) table nodes (λ r row. le_of_eq (sym (rows (r, row)))) in
      record {
        writes = λ r m u c. rw (rows r) at (exactly n (table r.0) (Altered s m u) (means r m u c));
        reads = λ j. ⊎_elim (λ e. inl (column j e)) (λ e. inr (column j e)) (columns j);
        lower_node = ((low, low_node), column (low, low_node) (lower_column _ n _ nodes (columns (low, low_node)) few));
        upper_node = ((high, high_node), column (high, high_node) (upper_column _ n _ nodes (columns (high, high_node)) many));
      }
    where
      depends : (j : Fin n) (r : Fin k) → (table r.0 j.0 ≡ true) ↔ DependsOn s j r
      depends j r =
          let m : Message S k = λ i. x in
          let c = put_change m r y two in
          (λ t. (m, put m r.0 y, c, (means r m (put m r.0 y) c j).0 t), λ d. (means r d.0 d.1 d.2 j).1 d.3)

      column : (j : Fin n) {c : ℕ} → count_from k 0 (λ r. table r j.0) ≡ c → Exactly c k (DependsOn s j)
      column j e = rw e at (exactly k (λ r. table r j.0) (DependsOn s j) (depends j))

-- a tight scheme is frugal
pub frugal {ℓ κ} : {k n : ℕ} {S : Type ℓ} {C : Fin n → Type κ} (t : Scheme k n S C) → 1 ≤ n → Tight t → Frugal t
frugal {k = k} {n = n} t l h = record {
  writes = λ r m u c. (h.writes r m u c).1;
  reads = λ j. ⊎_elim (λ (e : Exactly (floor (k * (n - k + 1)) n) k (DependsOn t j)). more e.1 (floor_ceil (k * (n - k + 1)) n l)) (λ (e : Exactly (ceil (k * (n - k + 1)) n) k (DependsOn t j)). e.1) (h.reads j);
}

module _ {ℓ κ ℓ' κ'} {k n : ℕ} {S : Type ℓ} {C : Fin n → Type κ} {S' : Type ℓ'} {C' : Fin n → Type κ'} (s : Scheme k n S C) (t : Scheme k n S' C') where
  -- every scheme costs at least as much as a frugal one
  pub least : 1 ≤ k → k ≤ n → (x y : S) → x ≢ y → Frugal t → CostsAtLeast s t
  least l₁ l x y ne h =
      let b = reads_up s l₁ l x y ne in
      record {
        writes = λ r i m u m' u' c c' a many. fewer ((price s l₁ l).writes r m u c) (least_most many (h.writes i m' u' c'));
        reads = (b.0, λ i c many. fewer b.1 (least_most many (h.reads i)));
      }

  -- every scheme costs at least as much as a tight one
  pub tight_least : 1 ≤ k → k ≤ n → (x y : S) → x ≢ y → Tight t → CostsAtLeast s t
  tight_least l₁ l x y ne h = least l₁ l x y ne (frugal t (le_trans l₁ l) h)
