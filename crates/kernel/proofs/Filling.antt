-- A loop that changes every lane, from the front.
use Rattle.std.proofs.Common.{◌≡◌, ℕ, ◌+◌, ◌-◌, ◌<◌, ◌≤◌, List, length, get_or, set}
use native.Mathlib.Nat.{sub-zero}
use Rattle.lists.specs.Rows.{from}
use Rattle.lists.proofs.Rows.{from_next, from_end}
use Rattle.lists.proofs.Fill.{Fills, fills_start, fills_next, fills_put, fills_all}
use Rattle.kernel.specs.Inner.Lanes.{lanewise}

-- the lanes below t are changed, those from t on are as at the start
abbrev pub Changed : (ℕ → ℕ → ℕ) → List ℕ → List ℕ → ℕ → Type 0
Changed f start now t = Fills start now t (from (λ t. f t (get_or start t 0)) t (length start - t)) (lanewise f start)

module _ (f : ℕ → ℕ → ℕ) (start : List ℕ) where
  pub changed_none : Changed f start start 0
  unfolding lanewise
  changed_none = rw sub-zero (fills_start start (from (λ t. f t (get_or start t 0)) 0 (length start)))

  -- one lane more
  pub changed_lane : {now : List ℕ} {t : ℕ} → Changed f start now t → t < length start → Changed f start (set now t (f t (get_or now t 0))) (t + 1)
  changed_lane {now} {t} a h =
      rw (fills_next a 0) (fills_put (rw (from_next (λ t. f t (get_or start t 0)) (length start) t h) at a) h)

  pub changed_all : {now : List ℕ} {t : ℕ} → Changed f start now t → length start ≤ t → now ≡ lanewise f start
  changed_all {now} {t} a h = fills_all (rw (from_end (λ t. f t (get_or start t 0)) (length start) t h) at a) h
