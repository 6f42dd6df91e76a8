-- What the arrays of Berlekamp and Massey's algorithm hold, and that each step keeps it.
use mathlib.Core.Path.{◌≡◌, refl, sym, ap, ◌∙◌}
use mathlib.Core.Bool.{true}
use mathlib.Core.List.{List, [], ◌∷◌}
use Prim.Native.Nat.{ℕ, zero, suc, ◌+◌, ◌-◌, ◌≤◌, ◌<◌}
use native.Mathlib.Numerals.{add-one}
use native.Mathlib.Omega.{arith}
use lib.ListN.{length, get_or, get_or-eq_default}
use Rattle.lists.specs.Rows.{from}
use Rattle.lists.specs.Padded.{zeros, padded}
use Rattle.lists.proofs.All.{All-of}
use Rattle.lists.proofs.Padding.{get_or_zeros}
use Rattle.algebra.proofs.Poly.{scale}
use Rattle.field.specs.Fields.{is_field, size_of, mul, inverse}
use Rattle.field.specs.Symbols.{Symbol}
use Rattle.field.proofs.Symbols.{symbol_path}
use Rattle.nearest_word.proofs.Recurrence.{discrepancy}
use Rattle.nearest_word.proofs.Massey.{Locator, Now, Past, State, After, amend, kept, mended, grown, chosen_locates}
use Rattle.decode.specs.Inner.Locating.{Below, partial, amended_at, Locates}
use Rattle.decode.proofs.Bridge.{F, term, Holds, holds_below, holds_filled, partial_discrepancy, amended_at_number, scaled_number}

module _ (p : ℕ) (field : is_field p ≡ true) (s : List ℕ) where
  -- w and v hold the lists of the algorithm at degree l and order q
  pub record Held (w v : List ℕ) (l q : ℕ) : Type 0 where
    pub now_list : List (Symbol (size_of p))
    pub past_list : List (Symbol (size_of p))
    pub now : Now (F p field) (term p field s) l q now_list
    pub past : Past (F p field) (term p field s) l q past_list
    pub holds_now : Holds p field w now_list
    pub holds_past : Holds p field v past_list

  -- at the start
  pub held_start : (m k : ℕ) → Held (1 ∷ zeros m) (zeros k) 0 0
  held_start m k =
      record {
        now_list = (F p field).1f ∷ [];
        past_list = [];
        now = record { short = omega arith; leads = (F p field).one_not_zero; recurs = λ e h. absurd (omega arith) };
        past = record { short = omega arith; recurs = λ e h. absurd (omega arith); breaks = λ e h. absurd (omega arith) };
        holds_now = first;
        holds_past = get_or_zeros k;
      }
    where
      first : Holds p field (1 ∷ zeros m) ((F p field).1f ∷ [])
      first zero = refl
      first (suc x) = get_or_zeros m x

  module _ (b : Below (size_of p) s) (w v : List ℕ) (l q : ℕ) (h : Held w v l q) where
    -- the discrepancy at q, and the number that the program has for it
    abbrev δ : Symbol (size_of p)
    δ = discrepancy (F p field) h.now_list (term p field s) q

    discrepancy_number : partial p w s q (l + 1) ≡ δ.0
    discrepancy_number = partial_discrepancy p field w s h.now_list h.holds_now b q (l + 1) (omega (arith, h.now.short))

    pub held_kept : partial p w s q (l + 1) ≡ 0 → Held w v l (q + 1)
    held_kept z =
        let k = kept (F p field) (term p field s) l q h.now_list h.past_list h.now h.past (symbol_path (size_of p) (sym discrepancy_number ∙ z)) in
        rw (add-one q)
        (record { now_list = h.now_list; past_list = h.past_list; now = k.0; past = k.1; holds_now = h.holds_now; holds_past = h.holds_past })

    -- the array that the program forms holds x^i·w − δ·x^j·v
    holds_amend : (u : List ℕ) (d i j m : ℕ) → d ≡ partial p w s q (l + 1) → u ≡ padded 255 (from (amended_at p d w i v j) 0 m) → length (amend (F p field) δ i h.now_list j h.past_list) ≤ m → Holds p field u (amend (F p field) δ i h.now_list j h.past_list)
    holds_amend u d i j m e g k =
        holds_filled p field u (amend (F p field) δ i h.now_list j h.past_list) 255 m (amended_at p d w i v j) g k
        (λ x a. ap (λ y. amended_at p y w i v j x) (e ∙ discrepancy_number) ∙ amended_at_number p field w v h.now_list h.past_list h.holds_now h.holds_past δ i j x)

    pub held_mended : (u : List ℕ) (d : ℕ) → d ≡ partial p w s q (l + 1) → u ≡ padded 255 (from (amended_at p d w 0 v (l - (q + 1))) 0 (l + 1)) → q < l → Held u v l (q + 1)
    held_mended u d e g a =
        let k = mended (F p field) (term p field s) l q h.now_list h.past_list h.now h.past a in
        rw (add-one q)
        (record {
          now_list = amend (F p field) δ 0 h.now_list (l - suc q) h.past_list;
          past_list = h.past_list;
          now = k.0;
          past = k.1;
          holds_now = holds_amend u d 0 (l - suc q) (l + 1) e (rw (add-one q) at g) (omega (arith, k.0.short));
          holds_past = h.holds_past;
        })

    pub held_grown : (u z : List ℕ) (d e : ℕ) → d ≡ partial p w s q (l + 1) → (d ≡ 0 → ⊥) → e ≡ inverse p d → u ≡ padded 255 (from (amended_at p d w (q + 1 - l) v 0) 0 (q + 2)) → z ≡ padded 255 (from (λ x. mul p e (get_or w x 0)) 0 (l + 1)) → l ≤ q → Held u z (q + 1) l
    held_grown u z d e g n r gu gz a =
        let o : δ ≡ (F p field).0f → ⊥ = λ y. n (g ∙ discrepancy_number ∙ ap (λ (c : Symbol (size_of p)). c.0) y) in
        let t = grown (F p field) (term p field s) l q h.now_list h.past_list h.now h.past a o in
        rw (add-one q)
        (record {
          now_list = amend (F p field) δ (suc q - l) h.now_list 0 h.past_list;
          past_list = scale (F p field) ((F p field).inv δ) h.now_list;
          now = t.0;
          past = t.1;
          holds_now = holds_amend u d (suc q - l) 0 (q + 2) g (rw (add-one q) at gu) (omega (arith, t.0.short));
          holds_past =
              holds_filled p field z (scale (F p field) ((F p field).inv δ) h.now_list) 255 (l + 1) (λ x. mul p e (get_or w x 0)) gz (omega (arith, t.1.short))
              (λ x y. ap (λ c. mul p c (get_or w x 0)) (r ∙ ap (inverse p) (g ∙ discrepancy_number)) ∙ scaled_number p field w h.now_list h.holds_now ((F p field).inv δ) x);
        })

  -- numbers that hold a locator locate
  locates_numbers : Below (size_of p) s → (t : ℕ) (w : List ℕ) (W : List (Symbol (size_of p))) → length w ≡ 255 → Holds p field w W → Locator (F p field) (term p field s) t W → Locates p t s w
  locates_numbers b t w W l h k =
      record {
        long = l;
        below = holds_below p field w W h;
        short = λ x g. h x ∙ ap (λ (a : Symbol (size_of p)). a.0) (get_or-eq_default W (F p field).0f {n = x} (omega (arith, k.short)));
        nonzero = λ z. k.nonzero (All-of (λ c. c ≡ (F p field).0f) (F p field).0f W (λ i g. symbol_path (size_of p) (sym (h i) ∙ z i)));
        recurs = λ e g. partial_discrepancy p field w s W h b e (suc t) k.short ∙ ap (λ (a : Symbol (size_of p)). a.0) (k.recurs e g);
      }

  module _ (b : Below (size_of p) s) (t : ℕ) (w v : List ℕ) (l q : ℕ) (h : Held w v l q) (steps : l + q ≡ t + t) where
    state : State (F p field)
    state = record { degree = l; order = q; now = h.now_list; past = h.past_list }

    after : After (F p field) (term p field s) (t + t) state
    unfolding state
    after = record { steps = steps; at_hand = h.now; before = h.past }

    -- after 2t steps w locates, or v if l has grown past t
    pub held_now : length w ≡ 255 → l ≤ t → Locates p t s w
    unfolding state
    held_now e c = locates_numbers b t w h.now_list e h.holds_now (chosen_locates (F p field) (term p field s) t state after (no (λ k. omega arith)))

    pub held_past : length v ≡ 255 → t < l → Locates p t s v
    unfolding state
    held_past e c = locates_numbers b t v h.past_list e h.holds_past (chosen_locates (F p field) (term p field s) t state after (yes c))
