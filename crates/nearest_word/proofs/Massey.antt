-- The Berlekamp–Massey algorithm: for any sequence s a list v ≠ 0 of length at most t + 1 with Σ_i v_i·s_(e+i) = 0 for each e < t.
use mathlib.Core.Path.{◌≡◌, refl, sym, ap, ap₂, ◌∙◌}
use mathlib.Core.List.{List, [], ◌∷◌}
use Prim.Native.Nat.{ℕ, zero, suc, ◌+◌, ◌-◌, ◌≤◌, ◌<◌}
use native.Mathlib.Decide.{dec_lt}
use native.Mathlib.Omega.{arith}
use lib.ListN.{length, get_or, length-map, get_or-eq_default}
use Rattle.algebra.specs.Field.{Field}
use Rattle.lists.proofs.All.{All}
use Rattle.algebra.proofs.Ring.{zero-add, mul-zero, inv_mul}
use Rattle.nearest_word.proofs.Recurrence.{plus}
use Rattle.algebra.proofs.Poly.{scale}
use Rattle.nearest_word.proofs.Recurrence.{discrepancy, shift, discrepancy_plus, discrepancy_scale, discrepancy_shift, discrepancy_zeros, get_or_plus, get_or_scale, get_or_shift, get_or_zeros, length_plus, length_shift}

module _ (F : Field) where
  infixl 70 ◌⊕◌
  infixl 80 ◌⊗◌
  infix 90 ⊖◌
  open F use {Carrier, 0f, 1f, add as ◌⊕◌, mul as ◌⊗◌, neg as ⊖◌, inv, decide}
  open F use {add-zero, add_neg, mul-one, one_not_zero}

  -- v is not zero, has length at most t + 1, and no discrepancy below t.
  pub record Locator (s : ℕ → Carrier) (t : ℕ) (v : List Carrier) : Type 0 where
    pub short : length v ≤ suc t
    pub nonzero : All (λ c. c ≡ 0f) v → ⊥
    pub recurs : (e : ℕ) → e < t → discrepancy F v s e ≡ 0f

  -- What the algorithm holds: a list of degree `degree` with no discrepancy below `order`, and the list before the last growth.
  pub record State : Type 0 where
    pub degree : ℕ
    pub order : ℕ
    pub now : List Carrier
    pub past : List Carrier

  -- w has degree l and no discrepancy below q.
  pub record Now (s : ℕ → Carrier) (l q : ℕ) (w : List Carrier) : Type 0 where
    pub short : length w ≤ suc l
    pub leads : get_or w l 0f ≡ 0f → ⊥
    pub recurs : (e : ℕ) → e < q → discrepancy F w s e ≡ 0f

  -- v has degree at most q, no discrepancy below l − 1, and the discrepancy 1 at l − 1.
  pub record Past (s : ℕ → Carrier) (l q : ℕ) (v : List Carrier) : Type 0 where
    pub short : length v ≤ suc q
    pub recurs : (e : ℕ) → suc e < l → discrepancy F v s e ≡ 0f
    pub breaks : (e : ℕ) → suc e ≡ l → discrepancy F v s e ≡ 1f

  -- x^i·w − δ·x^j·v
  abbrev pub amend : Carrier → ℕ → List Carrier → ℕ → List Carrier → List Carrier
  amend δ i w j v = plus F (shift F i w) (scale F (⊖ δ) (shift F j v))

  discrepancy_amend : (δ : Carrier) (i : ℕ) (w : List Carrier) (j : ℕ) (v : List Carrier) (s : ℕ → Carrier) (e : ℕ) → discrepancy F (amend δ i w j v) s e ≡ discrepancy F w s (i + e) ⊕ ⊖ δ ⊗ discrepancy F v s (j + e)
  discrepancy_amend δ i w j v s e =
      discrepancy_plus F (shift F i w) (scale F (⊖ δ) (shift F j v)) s e
      ∙ ap₂ ◌⊕◌ (discrepancy_shift F i w s e) (discrepancy_scale F (⊖ δ) (shift F j v) s e ∙ ap (λ y. ⊖ δ ⊗ y) (discrepancy_shift F j v s e))

  -- The two discrepancies are zero, or the second undoes the first.
  both_zero : (δ x y : Carrier) → x ≡ 0f → y ≡ 0f → x ⊕ ⊖ δ ⊗ y ≡ 0f
  both_zero δ x y h k = ap₂ (λ x y. x ⊕ ⊖ δ ⊗ y) h k ∙ zero-add F (⊖ δ ⊗ 0f) ∙ mul-zero F (⊖ δ)

  undone : (δ x y : Carrier) → x ≡ δ → y ≡ 1f → x ⊕ ⊖ δ ⊗ y ≡ 0f
  undone δ x y h k = ap₂ (λ x y. x ⊕ ⊖ δ ⊗ y) h k ∙ ap (λ y. δ ⊕ y) (mul-one (⊖ δ)) ∙ add_neg δ

  module _ (s : ℕ → Carrier) (l q : ℕ) (w v : List Carrier) (n : Now s l q w) (p : Past s l q v) where
    -- x^i·w − δ·x^j·v with the discrepancy δ of w at q has degree l + i = q + 1 + j and no discrepancy below q + 1 − i = l − j.
    pub amended : (i j l' q' : ℕ) → i + l ≡ l' → j + suc q ≡ l' → i + q' ≡ suc q → j + q' ≡ l → Now s l' q' (amend (discrepancy F w s q) i w j v)
    amended i j l' q' a b c d =
        record {
          short =
              length_plus F (shift F i w) (scale F minus (shift F j v)) (suc l') (omega (arith, length_shift F i w))
              (omega (arith, length-map (shift F j v) (λ c. minus ⊗ c), length_shift F j v));
          leads = λ z. n.leads (sym top ∙ z);
          recurs = λ e h. discrepancy_amend (discrepancy F w s q) i w j v s e ∙ vanish e h (dec_lt (suc e) q');
        }
      where
        minus : Carrier
        minus = ⊖ discrepancy F w s q

        top : get_or (amend (discrepancy F w s q) i w j v) l' 0f ≡ get_or w l 0f
        top =
            get_or_plus F (shift F i w) (scale F minus (shift F j v)) l'
            ∙ ap₂ ◌⊕◌ (ap (λ k. get_or (shift F i w) k 0f) (sym a) ∙ get_or_shift F i w l)
            (get_or_scale F minus (shift F j v) l' ∙ ap (λ y. minus ⊗ y) (get_or-eq_default (shift F j v) 0f (omega (arith, length_shift F j v))) ∙ mul-zero F minus)
            ∙ add-zero (get_or w l 0f)

        vanish : (e : ℕ) → e < q' → Dec (suc e < q') → discrepancy F w s (i + e) ⊕ minus ⊗ discrepancy F v s (j + e) ≡ 0f
        vanish e h (yes k) = both_zero (discrepancy F w s q) (discrepancy F w s (i + e)) (discrepancy F v s (j + e)) (n.recurs (i + e) (omega arith)) (p.recurs (j + e) (omega arith))
        vanish e h (no k) =
            let g : i + e ≡ q = omega arith in
            undone (discrepancy F w s q) (discrepancy F w s (i + e)) (discrepancy F v s (j + e)) (ap (discrepancy F w s) g) (p.breaks (j + e) (omega arith))

    -- Where w has no discrepancy at q either, it stays.
    pub kept : discrepancy F w s q ≡ 0f → Now s l (suc q) w × Past s l (suc q) v
    kept z = (
      record { short = n.short; leads = n.leads; recurs = λ e h. again e h (dec_lt e q) },
      record { short = omega (arith, p.short); recurs = p.recurs; breaks = p.breaks },
    )
      where
        again : (e : ℕ) → e < suc q → Dec (e < q) → discrepancy F w s e ≡ 0f
        again e h (yes k) = n.recurs e k
        again e h (no k) = let g : e ≡ q = omega arith in ap (discrepancy F w s) g ∙ z

    -- Where it has one at q < l, v mends it.
    pub mended : q < l → Now s l (suc q) (amend (discrepancy F w s q) 0 w (l - suc q) v) × Past s l (suc q) v
    mended h = (
      amended 0 (l - suc q) l (suc q) (omega arith) (omega arith) (omega arith) (omega arith),
      record { short = omega (arith, p.short); recurs = p.recurs; breaks = p.breaks },
    )

    -- Where it has one at q ≥ l, the degree grows to q + 1, and w, made to have the discrepancy 1, takes the place of v.
    pub grown : l ≤ q → (discrepancy F w s q ≡ 0f → ⊥) → Now s (suc q) l (amend (discrepancy F w s q) (suc q - l) w 0 v) × Past s (suc q) l (scale F (inv (discrepancy F w s q)) w)
    grown h k = (
      amended (suc q - l) 0 (suc q) l (omega arith) (omega arith) (omega arith) (omega arith),
      record {
        short = omega (arith, n.short, length-map w (λ c. inv (discrepancy F w s q) ⊗ c));
        recurs = λ e g. discrepancy_scale F (inv (discrepancy F w s q)) w s e ∙ ap (λ y. inv (discrepancy F w s q) ⊗ y) (n.recurs e (omega arith)) ∙ mul-zero F (inv (discrepancy F w s q));
        breaks = λ e g. let d : e ≡ q = omega arith in discrepancy_scale F (inv (discrepancy F w s q)) w s e ∙ ap (λ e. inv (discrepancy F w s q) ⊗ discrepancy F w s e) d ∙ inv_mul F (discrepancy F w s q) k;
      },
    )

  -- One step, by the discrepancy δ at the order.
  abbrev pub next : (c : State) (δ : Carrier) → Dec (δ ≡ 0f) → Dec (c.order < c.degree) → State
  next c δ (yes z) d = record { degree = c.degree; order = suc c.order; now = c.now; past = c.past }
  next c δ (no z) (yes d) = record { degree = c.degree; order = suc c.order; now = amend δ 0 c.now (c.degree - suc c.order) c.past; past = c.past }
  next c δ (no z) (no d) = record { degree = suc c.order; order = c.degree; now = amend δ (suc c.order - c.degree) c.now 0 c.past; past = scale F (inv δ) c.now }

  abbrev pub step : (ℕ → Carrier) → State → State
  step s c = let δ = discrepancy F c.now s c.order in next c δ (decide δ 0f) (dec_lt c.order c.degree)

  -- m steps, from the constant 1.
  abbrev pub run : (ℕ → Carrier) → ℕ → State
  run s zero = record { degree = 0; order = 0; now = 1f ∷ []; past = [] }
  run s (suc m) = step s (run s m)

  -- The list found: the one at hand, or the one before if the degree has grown too high.
  abbrev pub chosen : (c : State) (t : ℕ) → Dec (t < c.degree) → List Carrier
  chosen c t (yes h) = c.past
  chosen c t (no h) = c.now

  abbrev pub locator : (ℕ → Carrier) → ℕ → List Carrier
  locator s t = chosen (run s (t + t)) t (dec_lt t (run s (t + t)).degree)

  -- A state after m steps.
  pub record After (s : ℕ → Carrier) (m : ℕ) (c : State) : Type 0 where
    pub steps : c.degree + c.order ≡ m
    pub at_hand : Now s c.degree c.order c.now
    pub before : Past s c.degree c.order c.past

  next_after : (s : ℕ → Carrier) (m : ℕ) (c : State) → After s m c → let δ = discrepancy F c.now s c.order in (z : Dec (δ ≡ 0f)) (d : Dec (c.order < c.degree)) → After s (suc m) (next c δ z d)
  next_after s m c h (yes z) d =
      let k = kept s c.degree c.order c.now c.past h.at_hand h.before z in
      record { steps = omega (arith, h.steps); at_hand = k.0; before = k.1 }
  next_after s m c h (no z) (yes d) =
      let k = mended s c.degree c.order c.now c.past h.at_hand h.before d in
      record { steps = omega (arith, h.steps); at_hand = k.0; before = k.1 }
  next_after s m c h (no z) (no d) =
      let k = grown s c.degree c.order c.now c.past h.at_hand h.before (omega arith) z in
      record { steps = omega (arith, h.steps); at_hand = k.0; before = k.1 }

  -- The steps keep what the algorithm holds.
  pub run_after : (s : ℕ → Carrier) (m : ℕ) → After s m (run s m)
  run_after s zero =
      record {
        steps = refl;
        at_hand = record { short = omega arith; leads = one_not_zero; recurs = λ e h. absurd (omega arith) };
        before = record { short = omega arith; recurs = λ e h. absurd (omega arith); breaks = λ e h. absurd (omega arith) };
      }
  run_after s (suc m) = next_after s m (run s m) (run_after s m) (decide (discrepancy F (run s m).now s (run s m).order) 0f) (dec_lt (run s m).order (run s m).degree)

  -- After 2t steps the list chosen is a locator.
  pub chosen_locates : (s : ℕ → Carrier) (t : ℕ) (c : State) → After s (t + t) c → (d : Dec (t < c.degree)) → Locator s t (chosen c t d)
  chosen_locates s t c h (yes d) =
      let b = h.before in
      let g = h.steps in
      let f : suc (c.degree - 1) ≡ c.degree = omega arith in
      record {
        short = omega (arith, b.short);
        nonzero = λ z. one_not_zero (sym (b.breaks (c.degree - 1) f) ∙ discrepancy_zeros F c.past s (c.degree - 1) z);
        recurs = λ e k. b.recurs e (omega arith);
      }
  chosen_locates s t c h (no d) =
      let b = h.at_hand in
      let g = h.steps in
      record {
        short = omega (arith, b.short);
        nonzero = λ z. b.leads (get_or_zeros F c.now c.degree z);
        recurs = λ e k. b.recurs e (omega arith);
      }

  -- The algorithm finds what it is to find, for every sequence.
  pub locates : (s : ℕ → Carrier) (t : ℕ) → Locator s t (locator s t)
  locates s t = chosen_locates s t (run s (t + t)) (run_after s (t + t)) (dec_lt t (run s (t + t)).degree)
