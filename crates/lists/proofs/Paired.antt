-- A loop over two lists side by side, by `zip` under `enumerate`: what is left of each, and where a turn's pair stands.
use mathlib.Core.Path.{◌≡◌, sym, ap, ◌∙◌}
use mathlib.Core.List.{List, [], ◌∷◌}
use mathlib.Core.Logic.{◌⊎◌, inl, inr}
use Prim.Native.Nat.{ℕ, ◌+◌, ◌≤◌, ◌<◌}
use native.Mathlib.Omega.{arith}
use lib.ListN.{length, get_or, drop, length-drop}
use lib.Seq.{get_or-drop, drop-drop}

-- the element in front is the one at place i
at_front : (xs left : List ℕ) (i x : ℕ) → x ∷ left ≡ drop i xs → (i < length xs) × (x ≡ get_or xs i 0) × (left ≡ drop (i + 1) xs)
at_front xs left i x front =
    let none : i + 0 ≡ i = omega arith in (
      omega (arith, ap length front, length-drop i xs),
      ap (λ (l : List ℕ). get_or l 0 0) front ∙ get_or-drop i xs 0 0 ∙ ap (λ (n : ℕ). get_or xs n 0) none,
      ap (drop 1) front ∙ drop-drop 1 i xs,
    )

-- the pairs from place i on are left
pub record Paired (xs ys : List ℕ) (i : ℕ) (left right : List ℕ) : Type 0 where
  pub first : left ≡ drop i xs
  pub second : right ≡ drop i ys

-- the pair of a turn stands at one place of both, and those after it are left
pub record PairedTurn (xs ys : List ℕ) (i x y : ℕ) (left right : List ℕ) : Type 0 where
  pub inside : i < length xs
  pub other_inside : i < length ys
  pub is : x ≡ get_or xs i 0
  pub other_is : y ≡ get_or ys i 0
  pub next : Paired xs ys (i + 1) left right

module _ {xs ys : List ℕ} {i : ℕ} {left right : List ℕ} (now : Paired xs ys i left right) where
  pub paired_turn : {x y : ℕ} {after other : List ℕ} → (left ≡ x ∷ after) × (right ≡ y ∷ other) → PairedTurn xs ys i x y after other
  paired_turn steps =
      let a = at_front xs _ i _ (sym steps.0 ∙ now.first) in
      let b = at_front ys _ i _ (sym steps.1 ∙ now.second) in
      record { inside = a.0; other_inside = b.0; is = a.1; other_is = b.1; next = record { first = a.2; second = b.2 } }

  -- nothing is left of one of two lists of one length
  pub paired_end : length ys ≡ length xs → (left ≡ []) ⊎ (right ≡ []) → length xs ≤ i
  paired_end same (inl none) = omega (arith, ap length (sym none ∙ now.first), length-drop i xs)
  paired_end same (inr none) = omega (arith, ap length (sym none ∙ now.second), length-drop i ys)
