-- The check sums of a lane whose symbol at one node is changed.
use mathlib.Core.Path.{◌≡◌, sym, ap, ap₂, ◌∙◌}
use mathlib.Core.Bool.{true}
use mathlib.Core.List.{List, [], ◌∷◌}
use Prim.Native.Nat.{ℕ, zero, suc, ◌+◌, ◌*◌, ◌%◌, ◌<◌}
use native.Mathlib.Nat.{add-zero}
use native.Mathlib.Omega.{arith}
use lib.ListN.{length, get_or, set}
use Rattle.lists.specs.Numbers.{all_below}
use Rattle.lists.proofs.Numbers.{below_cons}
use Rattle.field.specs.Fields.{add, sub, mul, power}
use Rattle.field.proofs.Arithmetic.{Arithmetic, zero_below, add_back, sub_is}
use Rattle.field.proofs.BothKinds.{arithmetic}
use Rattle.field.proofs.Bounds.{power_below}
use Rattle.generator.specs.declared.Header.{Header}
use Rattle.generator.specs.Records.{modulus_of, size, Sound}
use Rattle.generator.specs.Codewords.{check_from}
use Rattle.generator.proofs.Bounds.{check_from_below}

module _ (h : Header) (s : Sound h) where
  abbrev p : ℕ
  p = modulus_of h

  abbrev laws : Arithmetic (size h) (add p) (sub p) (mul p)
  laws = arithmetic p s.field

  -- a − b = c just where c + b = a
  pub sub_unique : (a b c : ℕ) → a < size h → b < size h → c < size h → add p c b ≡ a → sub p a b ≡ c
  sub_unique a b c ha hb hc e = sub_is laws a b ha hb ∙ ap (λ (x : ℕ). add p x (sub p 0 b)) (sym e) ∙ add_back laws c b hc hb

  -- (a − b) + c = (a + c) − b
  sub_add_right : (a b c : ℕ) → a < size h → b < size h → c < size h → add p (sub p a b) c ≡ sub p (add p a c) b
  sub_add_right a b c ha hb hc =
      let d = sub p a b in
      let hd = laws.sub_below a b ha hb in
      sym (sub_unique (add p a c) b (add p d c) (laws.add_below a c ha hc) hb (laws.add_below d c hd hc)
      (laws.add_assoc d c b hd hc hb ∙ ap (add p d) (laws.add_comm c b hc hb) ∙ sym (laws.add_assoc d b c hd hb hc) ∙ ap (λ (x : ℕ). add p x c) (laws.sub_add a b ha hb)))

  -- c + (a − b) = (c + a) − b
  add_sub_left : (c a b : ℕ) → c < size h → a < size h → b < size h → add p c (sub p a b) ≡ sub p (add p c a) b
  add_sub_left c a b hc ha hb =
      laws.add_comm c (sub p a b) hc (laws.sub_below a b ha hb) ∙ sub_add_right a b c ha hb hc ∙ ap (λ (x : ℕ). sub p x b) (laws.add_comm a c ha hc)

  -- (a − b)·c = a·c − b·c
  sub_mul : (a b c : ℕ) → a < size h → b < size h → c < size h → mul p (sub p a b) c ≡ sub p (mul p a c) (mul p b c)
  sub_mul a b c ha hb hc =
      let d = sub p a b in
      let hd = laws.sub_below a b ha hb in
      sym (sub_unique (mul p a c) (mul p b c) (mul p d c) (laws.mul_below a c ha hc) (laws.mul_below b c hb hc) (laws.mul_below d c hd hc)
      (ap₂ (add p) (laws.mul_comm d c hd hc) (laws.mul_comm b c hb hc) ∙ sym (laws.mul-add c d b hc hd hb) ∙ ap (mul p c) (laws.sub_add a b ha hb) ∙ laws.mul_comm c a hc ha))

  -- a difference is zero just where the two are equal
  pub sub-zero : (a b : ℕ) → a < size h → b < size h → sub p a b ≡ 0 → a ≡ b
  sub-zero a b ha hb e = sym (laws.sub_add a b ha hb) ∙ ap (λ (x : ℕ). add p x b) e ∙ laws.add_comm 0 b (zero_below laws) hb ∙ laws.add-zero b hb

  pub zero-sub : (a b : ℕ) → a < size h → b < size h → a ≡ b → sub p a b ≡ 0
  zero-sub a b ha hb e = sub_unique a b 0 ha hb (zero_below laws) (laws.add_comm 0 b (zero_below laws) hb ∙ laws.add-zero b hb ∙ sym e)

  -- a less what b is less than a is b
  pub sub_back : (a b : ℕ) → a < size h → b < size h → sub p a (sub p a b) ≡ b
  sub_back a b ha hb =
      let hd = laws.sub_below a b ha hb in
      sub_unique a (sub p a b) b ha hd hb (laws.add_comm b (sub p a b) hb hd ∙ laws.sub_add a b ha hb)

  -- node j's factor in check sum e
  abbrev pub factor : ℕ → ℕ → ℕ
  factor e j = power p h.root (j * e % h.n)

  pub factor_below : (e j : ℕ) → factor e j < size h
  factor_below e j = power_below p s.field (j * e % h.n) s.root_below

  -- y taken away from the symbol at place i, that of node j + i, takes y times its factor from check sum e
  pub check_change : (e y : ℕ) → y < size h → (j : ℕ) (ws : List ℕ) → all_below (size h) ws ≡ true → (i : ℕ) → i < length ws → check_from h e j (set ws i (sub p (get_or ws i 0) y)) ≡ sub p (check_from h e j ws) (mul p y (factor e (j + i)))
  unfolding check_from
  check_change e y hy j [] low i inside = absurd (omega arith)
  check_change e y hy j (w ∷ ws) low zero inside =
      let (hw, rest) = below_cons (size h) w ws low in
      let f = factor e j in
      let hf = factor_below e j in
      let r = check_from h e (j + 1) ws in
      let hr = check_from_below h s e (j + 1) ws rest in
      ap (λ (x : ℕ). add p x r) (sub_mul w y f hw hy hf)
      ∙ sub_add_right (mul p w f) (mul p y f) r (laws.mul_below w f hw hf) (laws.mul_below y f hy hf) hr
      ∙ ap (λ (x : ℕ). sub p (add p (mul p w f) r) (mul p y (factor e x))) (sym (add-zero j))
  check_change e y hy j (w ∷ ws) low (suc i) inside =
      let (hw, rest) = below_cons (size h) w ws low in
      let f = factor e j in
      let r = check_from h e (j + 1) ws in
      let next : j + 1 + i ≡ j + suc i = omega arith in
      ap (add p (mul p w f)) (check_change e y hy (j + 1) ws rest i (omega arith))
      ∙ add_sub_left (mul p w f) r (mul p y (factor e (j + 1 + i))) (laws.mul_below w f hw (factor_below e j)) (check_from_below h s e (j + 1) ws rest) (laws.mul_below y _ hy (factor_below e (j + 1 + i)))
      ∙ ap (λ (x : ℕ). sub p (add p (mul p w f) r) (mul p y (factor e x))) next
