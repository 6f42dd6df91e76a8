-- Lists of points: their length, and that they are symbols.
use mathlib.Core.Path.{◌≡◌, refl}
use mathlib.Core.Bool.{true}
use mathlib.Core.List.{List, [], ◌∷◌}
use Prim.Native.Nat.{ℕ, ◌+◌, ◌≤◌, ◌<◌}
use native.Mathlib.Omega.{arith}
use lib.ListN.{length, take, drop, length-map, length-take, length-drop}
use Rattle.lists.specs.Numbers.{all_below}
use Rattle.lists.proofs.Numbers.{cons_below, below_take, below_drop}
use Rattle.field.specs.Fields.{is_field, size_of, power}
use Rattle.field.proofs.Bounds.{power_below}
use Rattle.interpolation.specs.Inner.Points.{SymbolList, points_of}

module _ (p root e : ℕ) where
  pub length_points : (js : List ℕ) → length (points_of p root e js) ≡ length js
  unfolding points_of
  length_points js = length-map js (λ j. power p root (j + e))

  pub points_below : is_field p ≡ true → root < size_of p → (js : List ℕ) → all_below (size_of p) (points_of p root e js) ≡ true
  unfolding points_of all_below
  points_below v l [] = refl
  points_below v l (j ∷ js) = cons_below (size_of p) (power p root (j + e)) (points_of p root e js) (power_below p v (j + e) l) (points_below v l js)

-- parts of a list of symbols
module _ {p : ℕ} {xs : List ℕ} (s : SymbolList p xs) where
  pub symbols_take : (i : ℕ) → SymbolList p (take i xs)
  symbols_take i = record { below = below_take _ i xs s.below; short = simp length-take (omega (arith, s.short)) }

  pub symbols_drop : (i : ℕ) → SymbolList p (drop i xs)
  symbols_drop i = record { below = below_drop _ i xs s.below; short = simp length-drop (omega (arith, s.short)) }

-- points are symbols of the field
pub points_symbols : (p root e : ℕ) (js : List ℕ) → is_field p ≡ true → root < size_of p → length js ≤ 255 → SymbolList p (points_of p root e js)
points_symbols p root e js v low short = record { below = points_below p root e v low js; short = omega (arith, length_points p root e js) }
