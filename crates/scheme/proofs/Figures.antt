-- The figures of a tight scheme, and the bounds that no scheme's figures beat.
use mathlib.Core.Logic.{◌≢◌, ⊎_elim}
use Prim.Native.Nat.{ℕ, ◌+◌, ◌-◌, ◌*◌, ◌≤◌, Fin}
use Rattle.scheme.specs.Messages.{Message}
use Rattle.scheme.specs.Schemes.{Scheme, DependsOn}
use Rattle.scheme.specs.Costs.{Exactly, floor, ceil, Tight}
use Rattle.scheme.specs.Layouts.{HasFigures}
use Rattle.scheme.proofs.Sums.{floor_ceil}
use Rattle.scheme.proofs.Deciding.{fewer, least_most}
use Rattle.scheme.proofs.Bounds.{put, put_change, price}
use Rattle.scheme.proofs.Tightness.{frugal}

module _ {ℓ κ} {k n : ℕ} {S : Type ℓ} {C : Fin n → Type κ} (s : Scheme k n S C) where
  -- each change of a tight scheme alters n − k + 1 nodes, each node depends on k · (n − k + 1) / n symbols, rounded down or up
  pub tight_figures : 1 ≤ n → Tight s → HasFigures s (n - k + 1) (floor (k * (n - k + 1)) n) (ceil (k * (n - k + 1)) n)
  tight_figures l h =
      let rounded = floor_ceil (k * (n - k + 1)) n l in
      record {
        alters = h.writes;
        at_least = λ j. ⊎_elim (λ (e : Exactly (floor (k * (n - k + 1)) n) k (DependsOn s j)). e.0) (λ (e : Exactly (ceil (k * (n - k + 1)) n) k (DependsOn s j)). fewer e.0 rounded) (h.reads j);
        least_node = h.lower_node;
        at_most = (frugal s l h).reads;
        greatest_node = h.upper_node;
      }

  -- no figures lie below the price line
  pub figures_bound : 1 ≤ k → k ≤ n → (x y : S) → x ≢ y → (w l g : ℕ) → HasFigures s w l g → (n - k + 1 ≤ w) × (ceil (k * (n - k + 1)) n ≤ g)
  figures_bound some small x y two w l g h =
      let p = price s some small in
      let m : Message S k = λ i. x in
      let r : Fin k = (0, some) in
      let c = put_change m r y two in
      let (j, many) = p.reads_up x y two in
      (least_most (p.writes r m (put m 0 y) c) (h.alters r m (put m 0 y) c).1, least_most many (h.at_most j))
