-- Sums of products, from the end.
use mathlib.Core.Path.{◌≡◌, ap}
use mathlib.Core.List.{List}
use Prim.Native.Nat.{ℕ, ◌-◌, ◌≤◌, ◌<◌}
use lib.ListN.{length, get_or, drop}
use lib.Seq.{drop-length}
use Rattle.lists.proofs.Front.{drop_before}
use Rattle.field.specs.Fields.{add, mul}
use Rattle.field.specs.Inner.Sums.{dot}

module _ (p : ℕ) where
  pub dot_before : (ys ws : List ℕ) (i : ℕ) → 0 < i → i ≤ length ys → i ≤ length ws → dot p (drop (i - 1) ys) (drop (i - 1) ws) ≡ add p (mul p (get_or ys (i - 1) 0) (get_or ws (i - 1) 0)) (dot p (drop i ys) (drop i ws))
  unfolding dot
  dot_before ys ws i pos h k = rw (drop_before ys i 0 pos h, drop_before ws i 0 pos k)

  pub dot_none : (ys ws : List ℕ) → dot p (drop (length ys) ys) ws ≡ 0
  unfolding dot
  dot_none ys ws = ap (λ (l : List ℕ). dot p l ws) (drop-length ys)
