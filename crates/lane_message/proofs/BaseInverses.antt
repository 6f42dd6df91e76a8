-- The inverses of the coefficients of the base polynomial, from the highest down.
use mathlib.Core.Path.{◌≡◌, sym, ap, ap₂, ◌∙◌}
use mathlib.Core.List.{List, [], ◌∷◌, ◌++◌}
use Prim.Native.Nat.{ℕ, suc, ◌+◌, ◌-◌, ◌%◌, ◌≤◌, ◌<◌}
use native.Mathlib.Nat.{mod-eq_of_lt}
use native.Mathlib.Omega.{arith}
use lib.ListN.{length, get_or, drop, set, drop_of_length-le}
use Rattle.lists.specs.Padded.{zeros, padded}
use Rattle.std.proofs.lemmas.List.{get_or-map}
use Rattle.lists.proofs.Numbers.{below_get_or}
use Rattle.lists.proofs.Fill.{back_start, back_put}
use Rattle.lists.proofs.Front.{drop_next}
use Rattle.algebra.specs.Powers.{pow}
use Rattle.algebra.proofs.Ring.{one-mul, mul_nonzero, sub-zero}
use Rattle.algebra.proofs.Powers.{pow_nonzero, order_nonzero, pow_one}
use Rattle.algebra.proofs.BasePolynomial.{base, leading_base, base_nonzero}
use Rattle.field.specs.Fields.{sub, mul, power, inverse}
use Rattle.field.specs.Symbols.{Symbol}
use Rattle.field.proofs.Symbols.{get_or_numbers}
use Rattle.field.proofs.FieldOf.{size_pos, number_sub, number_pow}
use Rattle.generator.specs.declared.Header.{Header}
use Rattle.generator.specs.Records.{modulus_of, size, Sound}
use Rattle.generator.proofs.Sound.{field_for, root_for, root_order}
use Rattle.interpolation.specs.Inner.Polynomials.{base_of, inverses_of}
use Rattle.interpolation.proofs.Bridge.{base_of_is}
use Rattle.interpolation.proofs.Coefficients.{length_base_of, length_inverses_of, base_of_below, inverses_of_below}
use Rattle.node_weights.specs.Inner.Rows.{base_inverses}
use Rattle.lane_message.specs.Inner.Rows.{step_ratio}
use Rattle.lane_message.proofs.BaseSteps.{inverse_below}

-- an array of zeros in which the inverses from c on are written, and the last one that was
pub record Written (h : Header) (c value : ℕ) (out : List ℕ) : Type 0 where
  pub inside : c < h.k
  pub value_is : value ≡ get_or (base_inverses h) c 0
  pub out_is : out ≡ zeros c ++ (drop c (base_inverses h) ++ zeros (255 - h.k))

module _ (h : Header) (s : Sound h) where
  abbrev p : ℕ
  p = modulus_of h

  abbrev coefficient : ℕ → Symbol (size h)
  coefficient c = get_or (base (field_for h s) (root_for h s) (h.k - 1)) c (field_for h s).0f

  pub length_inverses : length (base_inverses h) ≡ h.k
  unfolding base_inverses
  length_inverses = omega (arith, length_inverses_of p (base_of p h.root (h.k - 1)), length_base_of p h.root (h.k - 1), s.some)

  inverse_at : (c : ℕ) → c < h.k → get_or (base_inverses h) c 0 ≡ ((field_for h s).inv (coefficient c)).0
  unfolding base_inverses inverses_of
  inverse_at c inside =
      get_or-map (inverse p) (base_of p h.root (h.k - 1)) c 0 0 (omega (arith, length_base_of p h.root (h.k - 1)))
      ∙ ap (inverse p) (ap (λ (l : List ℕ). get_or l c 0) (base_of_is p s.field (root_for h s) (h.k - 1)) ∙ get_or_numbers (size h) (size_pos p s.field) (base (field_for h s) (root_for h s) (h.k - 1)) c)

  -- the highest is 1
  pub highest : get_or (base_inverses h) (h.k - 1) 0 ≡ 1
  highest =
      let F = field_for h s in
      inverse_at (h.k - 1) (omega (arith, s.some))
      ∙ ap (λ (x : Symbol (size h)). (F.inv x).0) (leading_base F (root_for h s) (h.k - 1))
      ∙ ap (λ (x : Symbol (size h)). x.0) (sym (one-mul F (F.inv F.1f)) ∙ F.mul_inv F.1f F.one_not_zero)

  -- each from the one above it
  module _ (c : ℕ) (inside : suc c < h.k) where
    top_is : ((field_for h s).mul (root_for h s) (pow (field_for h s) (root_for h s) (h.k - 1))).0 ≡ power p h.root h.k
    top_is =
        let more : suc (h.k - 1) ≡ h.k = omega (arith, s.some) in
        number_pow p s.field (root_for h s) (suc (h.k - 1)) ∙ ap (power p h.root) more

    not_one : (field_for h s).mul (pow (field_for h s) (root_for h s) (h.k - 1)) ((field_for h s).add (field_for h s).1f ((field_for h s).neg (pow (field_for h s) (root_for h s) (suc c)))) ≡ (field_for h s).0f → ⊥
    not_one =
        let F = field_for h s in
        let a = root_for h s in
        let o = root_order h s in
        mul_nonzero F (pow F a (h.k - 1)) (F.add F.1f (F.neg (pow F a (suc c)))) (pow_nonzero F a (order_nonzero F a h.n o) (h.k - 1))
        (λ z.
        let rest = pow_one F a h.n o (suc c) (sym (sub-zero F F.1f (pow F a (suc c)) z)) in
        let low : suc c % h.n ≡ suc c = mod-eq_of_lt (omega (arith, s.fits)) in
        absurd (omega arith))

    pub inverse_step : get_or (base_inverses h) c 0 ≡ mul p (step_ratio p (power p h.root h.k) (power p h.root (h.k - 1)) (power p h.root (suc c))) (get_or (base_inverses h) (suc c) 0)
    unfolding step_ratio
    inverse_step =
        let F = field_for h s in
        let a = root_for h s in
        let o = root_order h s in
        let y = pow F a (suc c) in
        let some : h.k - 1 < h.n = omega (arith, s.some, s.fits) in
        inverse_at c (omega arith)
        ∙ ap (λ (x : Symbol (size h)). x.0) (inverse_below F a (h.k - 1) c not_one (base_nonzero F a h.n o (h.k - 1) some (suc c) (omega arith)) (base_nonzero F a h.n o (h.k - 1) some c (omega arith)))
        ∙ ap₂ (mul p)
        (ap₂ (mul p) (number_sub p s.field (F.mul a (pow F a (h.k - 1))) y ∙ ap₂ (sub p) top_is (number_pow p s.field a (suc c)))
        (ap (inverse p) (ap₂ (mul p) (number_pow p s.field a (h.k - 1)) (number_sub p s.field F.1f y ∙ ap (sub p 1) (number_pow p s.field a (suc c))))))
        (sym (inverse_at (suc c) inside))

  tail_is : (c : ℕ) → c < h.k → drop c (base_inverses h) ≡ get_or (base_inverses h) c 0 ∷ drop (c + 1) (base_inverses h)
  tail_is c low = drop_next (base_inverses h) c 0 (omega (arith, length_inverses))

  -- before the first step ..
  pub written_first : h.k ≤ 255 → (c : ℕ) → c ≡ h.k - 1 → Written h c 1 (set (zeros 255) c 1)
  written_first few c e =
      let end : h.k - 1 + 1 ≡ h.k = omega (arith, s.some) in
      let last : drop (h.k - 1) (base_inverses h) ≡ 1 ∷ [] = tail_is (h.k - 1) (omega (arith, s.some)) ∙ ap₂ ◌∷◌ highest (ap (λ (i : ℕ). drop i (base_inverses h)) end ∙ drop_of_length-le (base_inverses h) {i = h.k} (omega (arith, length_inverses))) in
      rw e
      record {
        inside = omega (arith, s.some);
        value_is = sym highest;
        out_is = ap (λ (l : List ℕ). set l (h.k - 1) 1) (back_start 255 h.k few) ∙ back_put h.k 1 (zeros (255 - h.k)) s.some ∙ ap (λ (l : List ℕ). zeros (h.k - 1) ++ (l ++ zeros (255 - h.k))) (sym last);
      }

  -- .. one step ..
  pub written_next : {c value : ℕ} {out : List ℕ} → Written h c value out → 0 < c → (x : ℕ) → x ≡ mul p (step_ratio p (power p h.root h.k) (power p h.root (h.k - 1)) (power p h.root c)) value → Written h (c - 1) x (set out (c - 1) x)
  written_next {c} {value} {out} w pos x e =
      let up : suc (c - 1) ≡ c = omega arith in
      let next : c - 1 + 1 ≡ c = omega arith in
      let is : x ≡ get_or (base_inverses h) (c - 1) 0 = e ∙ ap (λ (y : ℕ). mul p (step_ratio p (power p h.root h.k) (power p h.root (h.k - 1)) (power p h.root c)) y) w.value_is ∙ sym (rw up at (inverse_step (c - 1) (omega (arith, w.inside)))) in
      record {
        inside = omega (arith, w.inside);
        value_is = is;
        out_is =
            ap (λ (l : List ℕ). set l (c - 1) x) w.out_is
            ∙ back_put c x (drop c (base_inverses h) ++ zeros (255 - h.k)) pos
            ∙ ap (λ (l : List ℕ). zeros (c - 1) ++ (l ++ zeros (255 - h.k))) (sym (tail_is (c - 1) (omega (arith, w.inside)) ∙ ap₂ ◌∷◌ (sym is) (ap (λ (i : ℕ). drop i (base_inverses h)) next)));
      }

  -- .. and after the last
  pub written_all : {c value : ℕ} {out : List ℕ} → Written h c value out → c ≡ 0 → out ≡ padded 255 (base_inverses h)
  unfolding zeros padded
  written_all {c} {value} {out} w e = rw e at w.out_is ∙ ap (λ (l : ℕ). base_inverses h ++ zeros (255 - l)) (sym length_inverses)

  -- the inverses are symbols
  pub inverses_below : (c : ℕ) → get_or (base_inverses h) c 0 < size h
  unfolding base_inverses
  inverses_below c = below_get_or (size h) (base_inverses h) (size_pos p s.field) (inverses_of_below p s.field (base_of p h.root (h.k - 1)) (base_of_below p s.field h.root (h.k - 1) s.root_below)) c
