-- The error at one place, from the syndromes and a polynomial that vanishes at every other place that is wrong: the word near enough without interpolation.
use mathlib.Core.Path.{◌≡◌, sym, ap, fun_ext, ◌∙◌}
use mathlib.Core.List.{List, map}
use Prim.Native.Nat.{ℕ, zero, suc, ◌+◌, ◌≤◌, ◌<◌}
use native.Mathlib.Nat as Nat
use native.Mathlib.Decide.{ℕ_discrete}
use native.Mathlib.Omega.{arith}
use lib.ListN.{length}
use Rattle.algebra.specs.Field.{Field}
use Rattle.lists.proofs.All.{All}
use Rattle.lists.specs.Rows.{from, range}
use Rattle.algebra.proofs.Ring.{mul-zero, zero-mul, add_cancel_right, sub_add, sub_cancel}
use Rattle.algebra.proofs.Combinations.{comb, comb_map, comb_range}
use Rattle.algebra.proofs.Sums.{sum, sum_one}
use Rattle.algebra.proofs.Poly.{eval}
use Rattle.algebra.specs.Powers.{pow, Order}
use Rattle.algebra.proofs.Powers.{pow_nonzero, order_nonzero}
use Rattle.algebra.proofs.Vandermonde.{moment}
use Rattle.nearest_word.proofs.Recurrence.{discrepancy}
use Rattle.nearest_word.proofs.Errors.{value, syndrome, error, wrong, syndrome_errors, discrepancy_agree, discrepancy_moment, comb_keep}

-- What holds of all consecutive numbers holds of each.
pub range_at : (P : ℕ → Type 0) (s n : ℕ) → All P (range s n) → (i : ℕ) → s ≤ i → i < s + n → P i
unfolding from
range_at P s zero h i l b = absurd (omega arith)
range_at P s (suc n) h i l b = go (range_at P (s + 1) n h.1 i) (ℕ_discrete s i)
  where
    go : (s + 1 ≤ i → i < s + 1 + n → P i) → Dec (s ≡ i) → P i
    go f (yes e) = rw (← e) h.0
    go f (no e) = f (omega arith) (omega arith)

module _ (F : Field) where
  infixl 70 ◌⊕◌
  infixl 80 ◌⊗◌
  infix 90 ⊖◌
  open F use {Carrier, 0f, add as ◌⊕◌, mul as ◌⊗◌, neg as ⊖◌, inv, decide}
  open F use {add_neg, mul_assoc, mul_comm, mul-one, mul_inv}

  -- A sum with one term that is not zero.
  comb_single : (g p : ℕ → Carrier) (j n : ℕ) → j < n → ((l : ℕ) → l < n → (l ≡ j → ⊥) → p l ⊗ g l ≡ 0f) → comb F g (map p (range 0 n)) (range 0 n) ≡ p j ⊗ g j
  comb_single g p j n b h =
      comb_range F p g 0 n
      ∙ ap (sum F n) (fun_ext (λ i. ap (λ k. p k ⊗ g k) (Nat.zero-add i)))
      ∙ sum_one F n (λ i. p i ⊗ g i) j b h

  neg_back : (y u : Carrier) → y ⊕ ⊖ (y ⊕ ⊖ u) ≡ u
  neg_back y u =
      add_cancel_right F (y ⊕ ⊖ (y ⊕ ⊖ u)) u (y ⊕ ⊖ u) (sub_add F y (y ⊕ ⊖ u) ∙ sym (sub_cancel F u y))

  -- A product divided by both factors, one after the other.
  divided : (e x z : Carrier) → (x ≡ 0f → ⊥) → (z ≡ 0f → ⊥) → e ⊗ (x ⊗ z) ⊗ inv x ⊗ inv z ≡ e
  divided e x z hx hz =
      ap (λ y. y ⊗ inv x ⊗ inv z) (ap (λ y. e ⊗ y) (mul_comm x z) ∙ sym (mul_assoc e z x))
      ∙ ap (λ y. y ⊗ inv z) (mul_assoc (e ⊗ z) x (inv x) ∙ ap (λ y. e ⊗ z ⊗ y) (mul_inv x hx) ∙ mul-one (e ⊗ z))
      ∙ mul_assoc e z (inv z)
      ∙ ap (λ y. e ⊗ y) (mul_inv z hz)
      ∙ mul-one e

  module _ (a : Carrier) (n : ℕ) (o : Order F a n) (f : List Carrier) (y : ℕ → Carrier) where
    abbrev e : ℕ → Carrier
    e = error F a n o f y

    no_error : (j : ℕ) → y j ≡ value F a f j → e j ≡ 0f
    no_error j q = ap (λ x. x ⊕ ⊖ value F a f j) q ∙ add_neg (value F a f j)

    -- the discrepancies of a polynomial against the syndromes are sums over all places of the errors times its values
    pub discrepancy_errors : (N : List Carrier) (i : ℕ) → length N + i + length f ≤ n → discrepancy F N (syndrome F a n y) i ≡ comb F (λ j. value F a N j ⊗ pow F (pow F a j) (suc i)) (map e (range 0 n)) (range 0 n)
    discrepancy_errors N i l =
        let w = wrong F a n o f y in
        discrepancy_agree F N (syndrome F a n y) (λ i. moment F (map e w) (map (pow F a) w) (suc i)) i (length N + i) (omega arith) (λ i c. syndrome_errors F a n o f y i (omega arith))
        ∙ discrepancy_moment F N (map e w) (map (pow F a) w) i
        ∙ comb_map F (λ x. eval F N x ⊗ pow F x (suc i)) (pow F a) (map e w) w
        ∙ comb_keep F (λ i. y i ≡ value F a f i) (λ i. decide (y i) (value F a f i)) (λ j. value F a N j ⊗ pow F (pow F a j) (suc i)) e no_error (range 0 n)

    -- A polynomial N that vanishes at every wrong place other than j has the discrepancy (y_j − u_j)·N(a^j)·a^j.
    pub error_at : (j : ℕ) → j < n → (N : List Carrier) → length N + length f ≤ n → ((l : ℕ) → l < n → (l ≡ j → ⊥) → (y l ≡ value F a f l → ⊥) → value F a N l ≡ 0f) → discrepancy F N (syndrome F a n y) 0 ≡ e j ⊗ (value F a N j ⊗ pow F a j)
    error_at j b N l h =
        discrepancy_errors N 0 (omega arith)
        ∙ ap (λ g. comb F g (map e (range 0 n)) (range 0 n)) (fun_ext (λ j. ap (λ x. value F a N j ⊗ x) (mul-one (pow F a j))))
        ∙ comb_single (λ j. value F a N j ⊗ pow F a j) e j n b (λ i c d. zero i c d (decide (y i) (value F a f i)))
      where
        zero : (i : ℕ) → i < n → (i ≡ j → ⊥) → Dec (y i ≡ value F a f i) → e i ⊗ (value F a N i ⊗ pow F a i) ≡ 0f
        zero i c d (yes q) = ap (λ x. x ⊗ (value F a N i ⊗ pow F a i)) (no_error i q) ∙ zero-mul F (value F a N i ⊗ pow F a i)
        zero i c d (no q) = ap (λ x. e i ⊗ (x ⊗ pow F a i)) (h i c d q) ∙ ap (λ x. e i ⊗ x) (zero-mul F (pow F a i)) ∙ mul-zero F (e i)

    -- So the word has at place j what is left of y_j after that error, if N does not vanish at a^j.
    pub error_removed : (j : ℕ) → j < n → (N : List Carrier) → length N + length f ≤ n → ((l : ℕ) → l < n → (l ≡ j → ⊥) → (y l ≡ value F a f l → ⊥) → value F a N l ≡ 0f) → (value F a N j ≡ 0f → ⊥) → value F a f j ≡ y j ⊕ ⊖ (discrepancy F N (syndrome F a n y) 0 ⊗ inv (value F a N j) ⊗ inv (pow F a j))
    error_removed j b N l h m =
        sym
        (ap (λ d. y j ⊕ ⊖ (d ⊗ inv (value F a N j) ⊗ inv (pow F a j))) (error_at j b N l h)
        ∙ ap (λ d. y j ⊕ ⊖ d) (divided (e j) (value F a N j) (pow F a j) m (pow_nonzero F a (order_nonzero F a n o) j))
        ∙ neg_back (y j) (value F a f j))
