-- Repair by traces: the symbol of one node from one element of a subfield for each other node.
use mathlib.Core.Path.{◌≡◌, sym, ap, ap₂, fun_ext, ◌∙◌}
use mathlib.Core.List.{List}
use Prim.Native.Nat.{ℕ, zero, suc, ◌+◌, ◌-◌, ◌*◌, ◌^◌, ◌%◌, ◌≤◌, ◌<◌}
use native.Mathlib.Nat as Nat
use native.Mathlib.Decide.{dec_lt}
use native.Mathlib.Omega.{arith}
use lib.Pow as Pow
use lib.ListN.{length, get_or}
use Rattle.lists.specs.Rows.{range}
use Rattle.lists.proofs.Places.{length_range}
use Rattle.lists.proofs.Rows.{get_or_from}
use Rattle.algebra.specs.Field.{Field}
use Rattle.algebra.specs.Powers.{pow, Order}
use Rattle.algebra.proofs.Ring.{mul_left_comm, zero-add, zero-mul, mul-zero, one-mul, add-mul, neg_mul, sub_add, sub-zero, mul_inv_left}
use Rattle.algebra.proofs.Powers.{pow_add, pow_mul, pow_mod, pow_one}
use Rattle.algebra.proofs.Sums.{sum, sum_add, sum_scale, sum_agree, sum_one, sum_swap}
use Rattle.algebra.proofs.Combinations.{comb_sum}
use Rattle.algebra.proofs.Parity.{check}
use Rattle.traces.proofs.Frobenius.{Frobenius, trace, frobenius_sum, zero_pow, power_pos, inverse_term}

module _ (F : Field) where
  infixl 70 ◌⊕◌
  infixl 80 ◌⊗◌
  infix 90 ⊖◌
  open F use {Carrier, 0f, 1f, add as ◌⊕◌, mul as ◌⊗◌, neg as ⊖◌, inv, decide}
  open F use {add_assoc, add-zero, add_neg, mul_comm, mul_assoc, mul-one, mul-add}

  -- (y·s)·z and y·z apart: what a factor x = y + 1 makes
  moment_step : (s p y ym x : Carrier) → y ⊕ 1f ≡ x → s ⊗ p ⊗ (y ⊗ ym) ⊕ s ⊗ p ⊗ ym ≡ s ⊗ (x ⊗ p) ⊗ ym
  moment_step s p y ym x e =
      ap (λ z. s ⊗ p ⊗ (y ⊗ ym) ⊕ s ⊗ p ⊗ z) (sym (one-mul F ym))
      ∙ sym (mul-add (s ⊗ p) (y ⊗ ym) (1f ⊗ ym))
      ∙ ap (λ z. s ⊗ p ⊗ z) (sym (add-mul F y 1f ym) ∙ ap (λ z. z ⊗ ym) e)
      ∙ sym (mul_assoc (s ⊗ p) x ym)
      ∙ ap (λ z. z ⊗ ym) (mul_assoc s p x ∙ ap (λ z. s ⊗ z) (mul_comm p x))

  -- n symbols at points of which number t is 1 and no other, with zero sums Σ s·x^e for 0 < e ≤ R
  pub record Balanced (n R t : ℕ) (s x : ℕ → Carrier) : Type 0 where
    pub inside : t < n
    pub some : 1 ≤ R
    pub here : x t ≡ 1f
    pub others : (j : ℕ) → j < n → (j ≡ t → ⊥) → x j ≡ 1f → ⊥
    pub sums : (e : ℕ) → 0 < e → e ≤ R → sum F n (λ j. s j ⊗ pow F (x j) e) ≡ 0f

  module _ (n R t : ℕ) (s x : ℕ → Carrier) (b : Balanced n R t s x) where
    -- the sums Σ s·x^e·(x − 1)^m are zero for 0 < e and e + m ≤ R
    moment : (m e : ℕ) → 0 < e → e + m ≤ R → sum F n (λ j. s j ⊗ pow F (x j) e ⊗ pow F (x j ⊕ ⊖ 1f) m) ≡ 0f
    moment zero e p l = ap (sum F n) (fun_ext (λ j. mul-one (s j ⊗ pow F (x j) e))) ∙ b.sums e p (omega arith)
    moment (suc m) e p l =
        let f : ℕ → Carrier = λ j. s j ⊗ pow F (x j) e ⊗ pow F (x j ⊕ ⊖ 1f) (suc m) in
        let g : ℕ → Carrier = λ j. s j ⊗ pow F (x j) e ⊗ pow F (x j ⊕ ⊖ 1f) m in
        sym (add-zero (sum F n f))
        ∙ ap (λ z. sum F n f ⊕ z) (sym (moment m e p (omega arith)))
        ∙ sym (sum_add F n f g)
        ∙ ap (sum F n) (fun_ext (λ j. moment_step (s j) (pow F (x j) e) (x j ⊕ ⊖ 1f) (pow F (x j ⊕ ⊖ 1f) m) (x j) (sub_add F (x j) 1f)))
        ∙ moment m (suc e) (omega arith) (omega arith)

    -- the term of power q = r^i of node j's trace
    term : ℕ → ℕ → Carrier
    term q j = (x j ⊕ ⊖ 1f) ⊗ pow F (s j ⊗ x j ⊗ inv (x j ⊕ ⊖ 1f)) q

    -- power 1: the symbols of the other nodes, so the target's with the sign changed
    difference : ℕ → Carrier
    difference j = term 1 j ⊕ ⊖ 1f ⊗ (s j ⊗ x j)

    term_here : term 1 t ≡ 0f
    unfolding term
    term_here = ap (λ z. z ⊗ pow F (s t ⊗ x t ⊗ inv (x t ⊕ ⊖ 1f)) 1) (ap (λ z. z ⊕ ⊖ 1f) b.here ∙ add_neg 1f) ∙ zero-mul F (pow F (s t ⊗ x t ⊗ inv (x t ⊕ ⊖ 1f)) 1)

    term_there : (j : ℕ) → (x j ≡ 1f → ⊥) → term 1 j ≡ s j ⊗ x j
    unfolding term
    term_there j h =
        let y = x j ⊕ ⊖ 1f in
        ap (λ z. y ⊗ z) (mul-one (s j ⊗ x j ⊗ inv y) ∙ mul_comm (s j ⊗ x j) (inv y)) ∙ mul_inv_left F y (s j ⊗ x j) (λ z. h (sub-zero F (x j) 1f z))

    minus : (c : Carrier) → ⊖ 1f ⊗ c ≡ ⊖ c
    minus c = neg_mul F 1f c ∙ ap ⊖◌ (one-mul F c)

    first_sum : sum F n (term 1) ≡ ⊖ (s t)
    unfolding difference
    first_sum =
        sym (add-zero (sum F n (term 1)))
        ∙ ap (λ z. sum F n (term 1) ⊕ z) (sym (mul-zero F (⊖ 1f)) ∙ ap (λ z. ⊖ 1f ⊗ z) (sym (b.sums 1 (omega arith) b.some)) ∙ ap (λ z. ⊖ 1f ⊗ z) (ap (sum F n) (fun_ext (λ j. ap (λ z. s j ⊗ z) (mul-one (x j))))))
        ∙ ap (λ z. sum F n (term 1) ⊕ z) (sym (sum_scale F n (⊖ 1f) (λ j. s j ⊗ x j)))
        ∙ sym (sum_add F n (term 1) (λ j. ⊖ 1f ⊗ (s j ⊗ x j)))
        ∙ sum_one F n difference t b.inside (λ j l d. ap₂ ◌⊕◌ (term_there j (b.others j l d)) (minus (s j ⊗ x j)) ∙ add_neg (s j ⊗ x j))
        ∙ ap₂ ◌⊕◌ term_here (minus (s t ⊗ x t) ∙ ap ⊖◌ (ap (λ z. s t ⊗ z) b.here ∙ mul-one (s t)))
        ∙ zero-add F (⊖ (s t))

    module _ (r l : ℕ) (fr : Frobenius F r l) (enough : r ^ (l - 1) ≤ R) where
      -- the powers r^(l − i) − 1 are within reach
      reach : (i : ℕ) → 0 < i → i < l → (1 < r ^ (l - i)) × (1 + (r ^ (l - i) - 1) ≤ R)
      reach i p q =
          let pos : 0 < r = omega (arith, fr.two) in
          let low : r ^ 1 ≤ r ^ (l - i) = Nat.pow-le-pow_right pos (omega arith) in
          let one : r ^ 1 ≡ r = Nat.pow-suc r 0 ∙ ap (λ (m : ℕ). m * r) (Nat.pow-zero r) ∙ Nat.one-mul r in
          let high : r ^ (l - i) ≤ r ^ (l - 1) = Nat.pow-le-pow_right pos (omega arith) in
          let two : 2 ≤ r = fr.two in
          (omega arith, omega arith)

      -- each other power gives zero
      later_sum : (i : ℕ) → 0 < i → i < l → sum F n (term (r ^ i)) ≡ 0f
      unfolding term
      later_sum i p q =
          let Q : ℕ = r ^ (l - i) in
          let (big, fits) = reach i p q in
          let parts : l - i + i ≡ l = omega arith in
          let whole : Q * r ^ i ≡ r ^ l = sym (Pow.pow-add r (l - i) i) ∙ ap (λ (m : ℕ). r ^ m) parts in
          ap (sum F n) (fun_ext (λ j. inverse_term F r l fr (s j ⊗ x j) (x j ⊕ ⊖ 1f) (r ^ i) Q (power_pos F r l fr i) big whole))
          ∙ sym (frobenius_sum F r l fr i n (λ j. s j ⊗ x j ⊗ pow F (x j ⊕ ⊖ 1f) (Q - 1)))
          ∙ ap (λ z. pow F z (r ^ i))
          (ap (sum F n) (fun_ext (λ j. ap (λ z. s j ⊗ z ⊗ pow F (x j ⊕ ⊖ 1f) (Q - 1)) (sym (mul-one (x j))))) ∙ moment (Q - 1) 1 (omega arith) fits)
          ∙ zero_pow F (r ^ i) (power_pos F r l fr i)

      regroup : (x z s : Carrier) → x ⊗ z ⊗ s ≡ s ⊗ x ⊗ z
      regroup x z s = mul_comm (x ⊗ z) s ∙ sym (mul_assoc s x z)

      -- the target's symbol, with the sign changed, is a sum of multiples of the nodes' traces; the target's own term is zero
      pub repair : sum F n (λ j. (x j ⊕ ⊖ 1f) ⊗ trace F r l (x j ⊗ inv (x j ⊕ ⊖ 1f) ⊗ s j)) ≡ ⊖ (s t)
      unfolding trace term
      repair =
          ap (sum F n) (fun_ext (λ j. ap (λ z. (x j ⊕ ⊖ 1f) ⊗ trace F r l z) (regroup (x j) (inv (x j ⊕ ⊖ 1f)) (s j)) ∙ sym (sum_scale F l (x j ⊕ ⊖ 1f) (λ i. pow F (s j ⊗ x j ⊗ inv (x j ⊕ ⊖ 1f)) (r ^ i)))))
          ∙ sum_swap F n l (λ j i. term (r ^ i) j)
          ∙ sum_one F l (λ i. sum F n (term (r ^ i))) 0 fr.some (λ i q d. later_sum i (omega arith) q)
          ∙ ap (λ (q : ℕ). sum F n (term q)) (Nat.pow-zero r)
          ∙ first_sum

  -- the points of the nodes seen from node t, as powers of a
  abbrev pub ratios : Carrier → ℕ → ℕ → ℕ → Carrier
  ratios a n t j = pow F a ((j + (n - t)) % n)

  module _ (a : Carrier) (n : ℕ) (o : Order F a n) where
    -- a check of a word is a sum over the nodes
    check_is : (ws : List Carrier) (e : ℕ) → length ws ≡ n → check F a e ws (range 0 n) ≡ sum F n (λ j. get_or ws j 0f ⊗ pow F a (j * e))
    check_is ws e l =
        comb_sum F (λ j. pow F a (j * e)) 0 ws (range 0 n) (l ∙ sym (length_range 0 n))
        ∙ ap (λ (m : ℕ). sum F m (λ i. get_or ws i 0f ⊗ pow F a (get_or (range 0 n) i 0 * e))) (length_range 0 n)
        ∙ sum_agree F n _ _ (λ i h. ap (λ (m : ℕ). get_or ws i 0f ⊗ pow F a (m * e)) (get_or_from (λ (m : ℕ). m) 0 n i 0 h ∙ Nat.zero-add i))

    turned : (t j e : ℕ) → pow F (ratios a n t j) e ≡ pow F a ((n - t) * e) ⊗ pow F a (j * e)
    turned t j e =
        ap (λ z. pow F z e) (pow_mod F a n o (j + (n - t)))
        ∙ sym (pow_mul F a (j + (n - t)) e)
        ∙ ap (pow F a) (Nat.add-mul j (n - t) e ∙ Nat.add_comm (j * e) ((n - t) * e))
        ∙ pow_add F a ((n - t) * e) (j * e)

    -- only node t is at 1
    only_here : (t j : ℕ) → t < n → j < n → ratios a n t j ≡ 1f → j ≡ t
    only_here t j ht hj e =
        let z : (j + (n - t)) % n ≡ 0 = sym (Nat.mod-mod (j + (n - t)) n) ∙ pow_one F a n o ((j + (n - t)) % n) e in
        cases z (dec_lt (j + (n - t)) n)
      where
        cases : (j + (n - t)) % n ≡ 0 → Dec (j + (n - t) < n) → j ≡ t
        cases z (yes h) = let same : (j + (n - t)) % n ≡ j + (n - t) = Nat.mod-eq_of_lt h in omega arith
        cases z (no h) =
            let split : j + (n - t) ≡ n + (j - t) = omega arith in
            let same : (n + (j - t)) % n ≡ j - t = Nat.add-mod_left n (j - t) ∙ Nat.mod-eq_of_lt (omega arith) in
            let zero_is : (n + (j - t)) % n ≡ 0 = rw split at z in
            omega arith

    -- a word that passes R checks, seen from node t
    pub word_balanced : (R t : ℕ) (ws : List Carrier) → t < n → 1 ≤ R → length ws ≡ n → ((e : ℕ) → 0 < e → e ≤ R → check F a e ws (range 0 n) ≡ 0f) → Balanced n R t (λ j. get_or ws j 0f) (ratios a n t)
    word_balanced R t ws ht some l h =
        record {
          inside = ht;
          some = some;
          here = pow_mod F a n o (t + (n - t)) ∙ ap (pow F a) (let e : t + (n - t) ≡ n = omega arith in e) ∙ o.returns;
          others = λ j hj d e. d (only_here t j ht hj e);
          sums = λ e p q.
              ap (sum F n) (fun_ext (λ j. ap (λ z. get_or ws j 0f ⊗ z) (turned t j e) ∙ mul_left_comm F (get_or ws j 0f) (pow F a ((n - t) * e)) (pow F a (j * e))))
              ∙ sum_scale F n (pow F a ((n - t) * e)) (λ j. get_or ws j 0f ⊗ pow F a (j * e))
              ∙ ap (λ z. pow F a ((n - t) * e) ⊗ z) (sym (check_is ws e l) ∙ h e p q)
              ∙ mul-zero F (pow F a ((n - t) * e));
        }
