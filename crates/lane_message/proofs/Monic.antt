-- Points that come in rounds: their product is a polynomial in x^g, of which only every g-th coefficient is not zero.
use mathlib.Core.Path.{◌≡◌, refl, sym, ap, ap₂, ◌∙◌}
use mathlib.Core.List.{List, [], ◌∷◌, ◌++◌}
use Prim.Native.Nat.{ℕ, zero, suc, ◌+◌, ◌*◌, ◌/◌, ◌%◌, ◌≤◌, ◌<◌}
use native.Mathlib.Nat.{zero-add, add-zero, zero-mod, zero-div, mod-eq_of_lt, add-mod_left, add-div_left}
use native.Mathlib.Numerals.{add-one}
use native.Mathlib.Omega.{arith}
use borrow.Author.Tests.{ne_eqb}
use lib.Dec.{eqb}
use lib.ListN.{length, get_or, replicate}
use Rattle.lists.specs.Choice.{pick}
use Rattle.lists.specs.Rows.{from}
use Rattle.lists.proofs.All.{All, Distinct, All-imp, All-both}
use Rattle.lists.proofs.Rows.{from_append, from_move, from_ext}
use Rattle.algebra.specs.Field.{Field}
use Rattle.algebra.specs.Powers.{pow}
use Rattle.algebra.proofs.Ring.{one-mul, no_divisors, sub-zero, zero-add as zero_plus, mul-zero as times_zero}
use Rattle.algebra.proofs.Poly.{eval, newton, quotient, eval_quotient, length_quotient, newton_quotient}
use Rattle.algebra.proofs.Product.{product}

module _ (F : Field) where
  infixl 70 ◌⊕◌
  infixl 80 ◌⊗◌
  infix 90 ⊖◌
  open F use {Carrier, 0f, 1f, add as ◌⊕◌, mul as ◌⊗◌, neg as ⊖◌}
  open F use {add-zero as plus_zero, mul_assoc}

  -- division by x − a keeps the leading coefficient
  leading_quotient : (a : Carrier) (cs : List Carrier) (n : ℕ) → length cs ≡ suc n → get_or (quotient F a cs) n 0f ≡ get_or cs n 0f
  unfolding quotient eval
  leading_quotient a [] n long = absurd (omega arith)
  leading_quotient a (c ∷ []) zero long = ap (λ z. c ⊕ z) (times_zero F a) ∙ plus_zero c
  leading_quotient a (c ∷ d ∷ cs) zero long = absurd (omega arith)
  leading_quotient a (c ∷ cs) (suc n) long = leading_quotient a cs n (omega arith)

  -- another root of (x − a)·q(x) is one of q
  other_root : (a c : Carrier) (cs : List Carrier) (y : Carrier) → eval F (c ∷ cs) a ≡ 0f → (a ≡ y → ⊥) → eval F (c ∷ cs) y ≡ 0f → eval F (quotient F a cs) y ≡ 0f
  other_root a c cs y here n there =
      no_divisors F (y ⊕ ⊖ a) (eval F (quotient F a cs) y) (λ z. n (sym (sub-zero F y a z)))
      (sym (zero_plus F ((y ⊕ ⊖ a) ⊗ eval F (quotient F a cs) y)) ∙ ap (λ z. z ⊕ (y ⊕ ⊖ a) ⊗ eval F (quotient F a cs) y) (sym here) ∙ sym (eval_quotient F a c cs y) ∙ there)

  -- a polynomial with the leading coefficient 1 that vanishes at as many distinct points as its degree is the product over them
  pub monic_product : (xs ds : List Carrier) → Distinct xs → length ds ≡ suc (length xs) → get_or ds (length xs) 0f ≡ 1f → All (λ x. eval F ds x ≡ 0f) xs → ds ≡ product F xs
  unfolding product
  monic_product [] [] d long lead v = absurd (omega arith)
  monic_product [] (c ∷ []) d long lead v = ap (λ z. z ∷ []) lead
  monic_product [] (c ∷ e ∷ cs) d long lead v = absurd (omega arith)
  monic_product (x ∷ xs) [] d long lead v = absurd (omega arith)
  monic_product (x ∷ xs) (c ∷ cs) d long lead v =
      let size : length cs ≡ suc (length xs) = omega arith in
      let rest : All (λ y. eval F (quotient F x cs) y ≡ 0f) xs =
      All-imp (λ y. (x ≡ y → ⊥) × (eval F (c ∷ cs) y ≡ 0f)) (λ y. eval F (quotient F x cs) y ≡ 0f) (λ y both. other_root x c cs y v.0 both.0 both.1) xs
      (All-both (λ y. x ≡ y → ⊥) (λ y. eval F (c ∷ cs) y ≡ 0f) xs d.0 v.1) in
      sym (newton_quotient F x c cs v.0)
      ∙ ap (newton F x 0f) (monic_product xs (quotient F x cs) d.1 (length_quotient F x cs ∙ size) (leading_quotient x cs (length xs) size ∙ lead) rest)

  -- q(x^g), by its coefficients
  unfoldable pub spread : ℕ → ℕ → List Carrier → List Carrier
  spread g t qs = from (λ j. pick (eqb (j % g) 0) (get_or qs (j / g) 0f) 0f) 0 (g * t + 1)

  eval_shifted : (m : ℕ) (cs : List Carrier) (x : Carrier) → eval F (replicate m 0f ++ cs) x ≡ pow F x m ⊗ eval F cs x
  unfolding eval
  eval_shifted zero cs x = sym (one-mul F (eval F cs x))
  eval_shifted (suc m) cs x = zero_plus F (x ⊗ eval F (replicate m 0f ++ cs) x) ∙ ap (λ z. x ⊗ z) (eval_shifted m cs x) ∙ sym (mul_assoc x (pow F x m) (eval F cs x))

  from_nothing : (f : ℕ → Carrier) (i n : ℕ) → ((j : ℕ) → i ≤ j → j < i + n → f j ≡ 0f) → from f i n ≡ replicate n 0f
  unfolding from
  from_nothing f i zero none = refl
  from_nothing f i (suc n) none = ap₂ ◌∷◌ (none i (omega arith) (omega arith)) (from_nothing f (i + 1) n (λ j a b. none j (omega arith) (omega arith)))

  module _ (m : ℕ) where
    abbrev g : ℕ
    g = suc m

    abbrev at : List Carrier → ℕ → Carrier
    at qs j = pick (eqb (j % g) 0) (get_or qs (j / g) 0f) 0f

    first : (c : Carrier) (qs : List Carrier) → at (c ∷ qs) 0 ≡ c
    first c qs = rw (zero-mod g, zero-div g)

    -- one round more
    spread_more : (t : ℕ) (c : Carrier) (qs : List Carrier) → spread g (suc t) (c ∷ qs) ≡ c ∷ (replicate m 0f ++ spread g t qs)
    unfolding spread from
    spread_more t c qs =
        let size : g * suc t + 1 ≡ g + (g * t + 1) = omega arith in
        ap (from (at (c ∷ qs)) 0) size
        ∙ from_append (at (c ∷ qs)) 0 g (g * t + 1)
        ∙ ap₂ ◌++◌
        (ap₂ ◌∷◌ (first c qs) (from_nothing (at (c ∷ qs)) (0 + 1) m (λ j a b. rw (mod-eq_of_lt {n = j} {m = g} (omega arith), ne_eqb j 0 (λ e. omega arith)))))
        (sym (from_move (at (c ∷ qs)) (0 + g) 0 (g * t + 1) ∙ ap (λ i. from (at (c ∷ qs)) i (g * t + 1)) (add-zero (0 + g)))
        ∙ from_ext (λ j. at (c ∷ qs) (0 + g + j)) (at qs) 0 (g * t + 1)
        (λ j a b.
        let less : (0 + g + j) % g ≡ j % g = ap (λ i. i % g) (ap (λ i. i + j) (zero-add g)) ∙ add-mod_left g j in
        let more : (0 + g + j) / g ≡ suc (j / g) = ap (λ i. i / g) (ap (λ i. i + j) (zero-add g)) ∙ add-div_left j {k = g} (omega arith) ∙ add-one (j / g) in
        rw (less, more)))

    spread_one : (c : Carrier) → spread g 0 (c ∷ []) ≡ c ∷ []
    unfolding spread from
    spread_one c = let size : g * 0 + 1 ≡ 1 = omega arith in ap (from (at (c ∷ [])) 0) size ∙ ap (λ z. z ∷ []) (first c [])

    pub eval_spread : (t : ℕ) (qs : List Carrier) (x : Carrier) → length qs ≡ suc t → eval F (spread g t qs) x ≡ eval F qs (pow F x g)
    unfolding eval
    eval_spread t [] x long = absurd (omega arith)
    eval_spread zero (c ∷ []) x long = ap (λ l. eval F l x) (spread_one c) ∙ ap (λ z. c ⊕ z) (times_zero F x ∙ sym (times_zero F (pow F x g)))
    eval_spread zero (c ∷ d ∷ qs) x long = absurd (omega arith)
    eval_spread (suc t) (c ∷ qs) x long =
        ap (λ l. eval F l x) (spread_more t c qs)
        ∙ ap (λ z. c ⊕ z) (ap (λ z. x ⊗ z) (eval_shifted m (spread g t qs) x) ∙ sym (mul_assoc x (pow F x m) (eval F (spread g t qs) x)) ∙ ap (λ z. pow F x g ⊗ z) (eval_spread t qs x (omega arith)))
