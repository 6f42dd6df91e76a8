-- The numbers of Berlekamp and Massey's algorithm as symbols of the field that p names.
use mathlib.Core.Path.{◌≡◌, refl, sym, ap, ap₂, ◌∙◌}
use mathlib.Core.Bool.{true}
use mathlib.Core.List.{List}
use Prim.Native.Nat.{ℕ, zero, suc, ◌+◌, ◌-◌, ◌≤◌, ◌<◌}
use native.Mathlib.Nat.{mod-eq_of_lt}
use native.Mathlib.Decide.{dec_lt}
use native.Mathlib.Omega.{arith}
use lib.ListN.{length, get_or, take, replicate, length-replicate, get_or-replicate, get_or-append, get_or-eq_default}
use lib.Seq.{take_all}
use Rattle.lists.specs.Rows.{from}
use Rattle.lists.specs.Padded.{padded}
use Rattle.algebra.specs.Field.{Field}
use Rattle.algebra.proofs.Ring.{neg_mul}
use Rattle.algebra.proofs.Poly.{scale}
use Rattle.field.specs.Fields.{is_field, size_of, add, sub, mul}
use Rattle.field.specs.Symbols.{Symbol}
use Rattle.field.proofs.Symbols.{symbol_below, residue}
use Rattle.field.proofs.FieldOf.{field_of, size_pos, number_sub}
use Rattle.nearest_word.proofs.Recurrence.{discrepancy, shift, discrepancy_take, get_or_plus, get_or_scale, get_or_shift}
use Rattle.nearest_word.proofs.Massey.{amend}
use Rattle.decode.specs.Inner.Locating.{Below, partial, shifted, amended_at}
use Rattle.decode.proofs.Arrays.{shifted_low, shifted_high, filled_at, filled_past}

module _ (p : ℕ) (v : is_field p ≡ true) where
  abbrev pub F : Field
  F = field_of p v

  -- the terms of a sequence
  abbrev pub term : List ℕ → ℕ → Symbol (size_of p)
  term s i = residue (size_of p) (size_pos p v) (get_or s i 0)

  pub term_number : (s : List ℕ) → Below (size_of p) s → (i : ℕ) → (term s i).0 ≡ get_or s i 0
  term_number s b i = mod-eq_of_lt (b i)

  -- coefficient x of a list of symbols, as a number
  abbrev pub number : List (Symbol (size_of p)) → ℕ → ℕ
  number W x = (get_or W x F.0f).0

  -- the numbers w are the coefficients of W, with zeros after them
  abbrev pub Holds : List ℕ → List (Symbol (size_of p)) → Type 0
  Holds w W = (x : ℕ) → get_or w x 0 ≡ number W x

  pub holds_below : (w : List ℕ) (W : List (Symbol (size_of p))) → Holds w W → Below (size_of p) w
  holds_below w W h x = rw (h x) (symbol_below (size_of p) (get_or W x F.0f))

  -- an array that was filled with the coefficients of W holds W
  pub holds_filled : (u : List ℕ) (W : List (Symbol (size_of p))) (n m : ℕ) (g : ℕ → ℕ) → u ≡ padded n (from g 0 m) → length W ≤ m → ((x : ℕ) → x < m → g x ≡ number W x) → Holds u W
  holds_filled u W n m g e b h x = ap (λ (l : List ℕ). get_or l x 0) e ∙ go (dec_lt x m)
    where
      go : Dec (x < m) → get_or (padded n (from g 0 m)) x 0 ≡ number W x
      go (yes k) = filled_at n m g x k ∙ h x k
      go (no k) = filled_past n m g x (omega arith) ∙ ap (λ (a : Symbol (size_of p)). a.0) (sym (get_or-eq_default W F.0f {n = x} (omega arith)))

  -- the sum that the program forms is the discrepancy
  pub partial_take : (w s : List ℕ) (W : List (Symbol (size_of p))) → Holds w W → Below (size_of p) s → (e m : ℕ) → partial p w s e m ≡ (discrepancy F (take m W) (term s) e).0
  unfolding partial
  partial_take w s W h b e zero = refl
  partial_take w s W h b e (suc m) =
      ap₂ (add p) (partial_take w s W h b e m) (ap₂ (mul p) (h m) (sym (mod-eq_of_lt (b (e + m)))))
      ∙ ap (λ (a : Symbol (size_of p)). a.0) (sym (discrepancy_take F m W (term s) e))

  pub partial_discrepancy : (w s : List ℕ) (W : List (Symbol (size_of p))) → Holds w W → Below (size_of p) s → (e m : ℕ) → length W ≤ m → partial p w s e m ≡ (discrepancy F W (term s) e).0
  partial_discrepancy w s W h b e m l = partial_take w s W h b e m ∙ ap (λ U. (discrepancy F U (term s) e).0) (take_all m W l)

  -- coefficients of x^i·w
  shifted_number : (w : List ℕ) (W : List (Symbol (size_of p))) → Holds w W → (i x : ℕ) → shifted w i x ≡ number (shift F i W) x
  shifted_number w W h i x = go (dec_lt x i)
    where
      zeros : List (Symbol (size_of p))
      zeros = replicate i F.0f

      go : Dec (x < i) → shifted w i x ≡ number (shift F i W) x
      go (yes l) =
          shifted_low w i x l
          ∙ ap (λ (a : Symbol (size_of p)). a.0) (sym (get_or-append zeros W F.0f x (omega (arith, length-replicate i F.0f)) ∙ get_or-replicate i x F.0f F.0f l))
      go (no l) =
          let k : i + (x - i) ≡ x = omega arith in
          shifted_high w i x (omega arith) ∙ h (x - i) ∙ ap (λ (a : Symbol (size_of p)). a.0) (sym (get_or_shift F i W (x - i))) ∙ ap (number (shift F i W)) k

  -- coefficients of x^i·w − δ·x^j·v
  pub amended_at_number : (w u : List ℕ) (W U : List (Symbol (size_of p))) → Holds w W → Holds u U → (δ : Symbol (size_of p)) (i j x : ℕ) → amended_at p δ.0 w i u j x ≡ number (amend F δ i W j U) x
  unfolding amended_at
  amended_at_number w u W U h g δ i j x =
      let a = get_or (shift F i W) x F.0f in
      let b = get_or (shift F j U) x F.0f in
      ap₂ (λ y z. sub p y (mul p δ.0 z)) (shifted_number w W h i x) (shifted_number u U g j x)
      ∙ sym (number_sub p v a (F.mul δ b))
      ∙ ap (λ (c : Symbol (size_of p)). c.0)
      (ap (F.add a) (sym (neg_mul F δ b) ∙ sym (get_or_scale F (F.neg δ) (shift F j U) x)) ∙ sym (get_or_plus F (shift F i W) (scale F (F.neg δ) (shift F j U)) x))

  -- coefficients of ε·w
  pub scaled_number : (w : List ℕ) (W : List (Symbol (size_of p))) → Holds w W → (ε : Symbol (size_of p)) (x : ℕ) → mul p ε.0 (get_or w x 0) ≡ number (scale F ε W) x
  scaled_number w W h ε x = ap (mul p ε.0) (h x) ∙ ap (λ (c : Symbol (size_of p)). c.0) (sym (get_or_scale F ε W x))
