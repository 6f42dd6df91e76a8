-- Products of (z − x) over parts of a list of points: one factor more, and parts that are joined.
use mathlib.Core.Path.{◌≡◌, refl, sym, ap, ◌∙◌}
use mathlib.Core.Bool.{true}
use mathlib.Core.List.{List, [], ◌∷◌}
use Prim.Native.Nat.{ℕ, zero, suc, ◌+◌, ◌-◌, ◌*◌, ◌<◌}
use native.Mathlib.Nat.{zero-add, sub_self}
use native.Mathlib.Numerals.{add-one}
use native.Mathlib.Omega.{arith}
use lib.ListN.{length, get_or, take, drop}
use lib.Seq.{drop-drop}
use Rattle.lists.specs.Numbers.{all_below}
use Rattle.lists.proofs.Front.{drop_next}
use Rattle.lists.proofs.Numbers.{below_cons, below_take, below_drop}
use Rattle.field.specs.Fields.{is_field, size_of, sub, mul}
use Rattle.field.proofs.Bounds.{one_below, sub_below}
use Rattle.field.proofs.BothKinds.{arithmetic}
use Rattle.interpolation.specs.Inner.Lagrange.{product_at}
use Rattle.interpolation.proofs.Values.{product_at_below}

-- the product over m points from number i on
abbrev pub stretch : ℕ → List ℕ → ℕ → ℕ → ℕ → ℕ
stretch p xs z i m = product_at p (take m (drop i xs)) z

-- the product over all points from number i on
abbrev pub tail : ℕ → List ℕ → ℕ → ℕ → ℕ
tail p xs z i = product_at p (drop i xs) z

module _ (p : ℕ) (xs : List ℕ) (z i : ℕ) (inside : i < length xs) where
  pub stretch_next : (m : ℕ) → stretch p xs z i (m + 1) ≡ mul p (sub p z (get_or xs i 0)) (stretch p xs z (i + 1) m)
  unfolding product_at
  stretch_next m = rw (drop_next xs i 0 inside, add-one m) refl

  pub tail_next : tail p xs z i ≡ mul p (sub p z (get_or xs i 0)) (tail p xs z (i + 1))
  unfolding product_at
  tail_next = rw (drop_next xs i 0 inside) refl

module _ (p : ℕ) (xs : List ℕ) (z : ℕ) where
  -- no points
  pub stretch_none : (i m : ℕ) → 1 ≡ stretch p xs z i (m - m)
  unfolding product_at
  stretch_none i m = rw sub_self refl

  -- a product with one factor more, in a loop that goes down
  pub stretch_before : (i at m k : ℕ) {x old : ℕ} → at + 1 ≡ i → k ≡ m + 1 → at < length xs → x ≡ mul p (sub p z (get_or xs at 0)) old → old ≡ stretch p xs z i m → x ≡ stretch p xs z at k
  stretch_before i at m k e f inside is was =
      is ∙ ap (mul p (sub p z (get_or xs at 0))) (was ∙ ap (λ (j : ℕ). stretch p xs z j m) (sym e)) ∙ sym (stretch_next p xs z at inside m) ∙ ap (stretch p xs z at) (sym f)

  pub tail_before : (i at : ℕ) {x old : ℕ} → at + 1 ≡ i → at < length xs → x ≡ mul p (sub p z (get_or xs at 0)) old → old ≡ tail p xs z i → x ≡ tail p xs z at
  tail_before i at e inside is was =
      is ∙ ap (mul p (sub p z (get_or xs at 0))) (was ∙ ap (tail p xs z) (sym e)) ∙ sym (tail_next p xs z at inside)

module _ (p : ℕ) (v : is_field p ≡ true) (z : ℕ) (l : z < size_of p) where
  parts : (xs : List ℕ) (m : ℕ) → all_below (size_of p) xs ≡ true → product_at p xs z ≡ mul p (product_at p (take m xs) z) (product_at p (drop m xs) z)
  unfolding product_at
  parts xs zero h = sym ((arithmetic p v).mul_comm 1 _ (one_below p v) (product_at_below p v xs z h l) ∙ (arithmetic p v).mul-one _ (product_at_below p v xs z h l))
  parts [] (suc m) h = sym ((arithmetic p v).mul-one 1 (one_below p v))
  parts (x ∷ xs) (suc m) h =
      let b = below_cons (size_of p) x xs h in
      ap (mul p (sub p z x)) (parts xs m b.1)
      ∙ sym ((arithmetic p v).mul_assoc _ _ _ (sub_below p v l b.0) (product_at_below p v (take m xs) z (below_take (size_of p) m xs b.1) l) (product_at_below p v (drop m xs) z (below_drop (size_of p) m xs b.1) l))

  -- the product from i on is that over m points, times that over those after them
  pub joined : (xs : List ℕ) (i m : ℕ) → all_below (size_of p) xs ≡ true → tail p xs z i ≡ mul p (stretch p xs z i m) (tail p xs z (i + m))
  joined xs i m h = parts (drop i xs) m (below_drop (size_of p) i xs h) ∙ rw (drop-drop) refl

  -- four parts of one size, the last with what is left
  pub joined_four : (xs : List ℕ) (m : ℕ) → all_below (size_of p) xs ≡ true → mul p (mul p (stretch p xs z 0 m) (stretch p xs z m m)) (mul p (stretch p xs z (2 * m) m) (tail p xs z (3 * m))) ≡ product_at p xs z
  joined_four xs m h =
      let A = arithmetic p v in
      let s : (i : ℕ) → stretch p xs z i m < size_of p = λ i. product_at_below p v _ z (below_take (size_of p) m (drop i xs) (below_drop (size_of p) i xs h)) l in
      let t : (i : ℕ) → tail p xs z i < size_of p = λ i. product_at_below p v _ z (below_drop (size_of p) i xs h) l in
      let third : mul p (stretch p xs z (2 * m) m) (tail p xs z (3 * m)) ≡ tail p xs z (2 * m) = let e : 2 * m + m ≡ 3 * m = omega arith in sym (rw e at (joined xs (2 * m) m h)) in
      let second : mul p (stretch p xs z m m) (tail p xs z (2 * m)) ≡ tail p xs z m = let e : m + m ≡ 2 * m = omega arith in sym (rw e at (joined xs m m h)) in
      let first : mul p (stretch p xs z 0 m) (tail p xs z m) ≡ tail p xs z 0 = sym (rw zero-add at (joined xs 0 m h)) in
      rw third (A.mul_assoc _ _ _ (s 0) (s m) (t (2 * m)) ∙ rw second first)
