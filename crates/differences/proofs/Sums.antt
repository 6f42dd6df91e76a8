-- Sums of a few symbols times weights: one symbol, and two with the weights 1 and 1 or 1 and −1.
use mathlib.Core.Path.{◌≡◌, sym, ap, ap₂, ◌∙◌}
use mathlib.Core.Bool.{true}
use mathlib.Core.List.{[], ◌∷◌}
use Prim.Native.Nat.{ℕ, ◌<◌}
use Rattle.field.specs.Fields.{is_field, size_of, add, sub, mul}
use Rattle.field.specs.Inner.Sums.{dot}
use Rattle.field.proofs.Arithmetic.{Arithmetic, zero_below, add_back, sub_is, mul-zero}
use Rattle.field.proofs.BothKinds.{arithmetic}

module _ (p : ℕ) (v : is_field p ≡ true) where
  abbrev laws : Arithmetic (size_of p) (add p) (sub p) (mul p)
  laws = arithmetic p v

  -- one symbol
  pub dot_one : (x c : ℕ) → x < size_of p → c < size_of p → dot p (x ∷ []) (c ∷ []) ≡ mul p x c
  unfolding dot
  dot_one x c hx hc = laws.add-zero (mul p x c) (laws.mul_below x c hx hc)

  -- two, the first as it is
  dot_two : (x y c : ℕ) → x < size_of p → y < size_of p → c < size_of p → dot p (x ∷ y ∷ []) (1 ∷ c ∷ []) ≡ add p x (mul p y c)
  unfolding dot
  dot_two x y c hx hy hc = ap₂ (add p) (laws.mul-one x hx) (laws.add-zero (mul p y c) (laws.mul_below y c hy hc))

  pub dot_sum : (x y : ℕ) → x < size_of p → y < size_of p → dot p (x ∷ y ∷ []) (1 ∷ 1 ∷ []) ≡ add p x y
  dot_sum x y hx hy = dot_two x y 1 hx hy laws.one_below ∙ ap (add p x) (laws.mul-one y hy)

  -- −1 is a symbol, and with it a symbol becomes its opposite
  pub minus_below : sub p 0 1 < size_of p
  minus_below = laws.sub_below 0 1 (zero_below laws) laws.one_below

  times_minus : (y : ℕ) → y < size_of p → mul p y (sub p 0 1) ≡ sub p 0 y
  times_minus y hy =
      let z = mul p y (sub p 0 1) in
      let hz : z < size_of p = laws.mul_below y (sub p 0 1) hy minus_below in
      let opposite : sub p 0 y < size_of p = laws.sub_below 0 y (zero_below laws) hy in
      let none : add p z y ≡ 0 =
      ap (add p z) (sym (laws.mul-one y hy))
      ∙ sym (laws.mul-add y (sub p 0 1) 1 hy minus_below laws.one_below)
      ∙ ap (mul p y) (laws.sub_add 0 1 (zero_below laws) laws.one_below)
      ∙ mul-zero laws y hy in
      sym (add_back laws z y hz hy)
      ∙ ap (λ (x : ℕ). add p x (sub p 0 y)) none
      ∙ laws.add_comm 0 (sub p 0 y) (zero_below laws) opposite
      ∙ laws.add-zero (sub p 0 y) opposite

  pub dot_less : (x y : ℕ) → x < size_of p → y < size_of p → dot p (x ∷ y ∷ []) (1 ∷ sub p 0 1 ∷ []) ≡ sub p x y
  dot_less x y hx hy = dot_two x y (sub p 0 1) hx hy minus_below ∙ ap (add p x) (times_minus y hy) ∙ sym (sub_is laws x y hx hy)
