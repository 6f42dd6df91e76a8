-- Sums of products of symbols are symbols.
use mathlib.Core.Path.{◌≡◌}
use mathlib.Core.Bool.{true}
use mathlib.Core.List.{List, [], ◌∷◌}
use Prim.Native.Nat.{ℕ, ◌<◌}
use Rattle.lists.specs.Numbers.{all_below}
use Rattle.lists.proofs.Numbers.{below_cons}
use Rattle.field.specs.Fields.{is_field, size_of}
use Rattle.field.specs.Inner.Sums.{dot}
use Rattle.field.proofs.Bounds.{add_below, mul_below}
use Rattle.field.proofs.FieldOf.{size_pos}

pub dot_below : (p : ℕ) → is_field p ≡ true → (ys ws : List ℕ) → all_below (size_of p) ys ≡ true → all_below (size_of p) ws ≡ true → dot p ys ws < size_of p
unfolding dot
dot_below p v [] ws a b = size_pos p v
dot_below p v (y ∷ ys) [] a b = size_pos p v
dot_below p v (y ∷ ys) (w ∷ ws) a b =
    let c = below_cons (size_of p) y ys a in
    let d = below_cons (size_of p) w ws b in
    add_below p v (mul_below p v c.0 d.0) (dot_below p v ys ws c.1 d.1)
