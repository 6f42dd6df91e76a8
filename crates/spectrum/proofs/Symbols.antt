-- A symbol of a message from the check sums of its word, in the terms of the algebra.
use mathlib.Core.Path.{◌≡◌, sym, ap, ap₂, ◌∙◌}
use mathlib.Core.List.{List, map}
use Prim.Native.Nat.{ℕ, ◌-◌, ◌<◌}
use native.Mathlib.Omega.{arith}
use lib.ListN.{length, get_or}
use Rattle.std.proofs.lemmas.List.{get_or-map}
use Rattle.lists.specs.Rows.{range}
use Rattle.algebra.specs.Field.{Field}
use Rattle.algebra.specs.Powers.{pow}
use Rattle.algebra.proofs.Ring.{mul_left_comm, inv_mul_left}
use Rattle.algebra.proofs.Sums.{sum, sum_agree, sum_scale}
use Rattle.algebra.proofs.Poly.{eval}
use Rattle.algebra.proofs.LagrangeBasis.{others, basis, length_others}
use Rattle.algebra.proofs.Vandermonde.{get_or_weights}
use Rattle.algebra.proofs.BasePolynomial.{base}
use Rattle.algebra.proofs.Dilations.{unmix_mix}
use Rattle.algebra.proofs.ShiftedBasis.{Code, shifted, size_base, size_shifted}
use Rattle.algebra.proofs.Nodes.{node, message, length_message, nodes_values, node_spread}
use Rattle.algebra.proofs.Parity.{check}
use Rattle.spectrum.proofs.Inversion.{times, check_coefficient, times_nonzero}

module _ (F : Field) where
  infixl 80 ◌⊗◌
  open F use {Carrier, 0f, mul as ◌⊗◌, inv}
  open F use {mul_assoc, mul_comm}

  -- the scale and 1 over n taken out of a term
  scales_out : (s o q i w : Carrier) → s ⊗ o ⊗ (q ⊗ (i ⊗ w)) ≡ s ⊗ (i ⊗ (o ⊗ q ⊗ w))
  scales_out s o q i w = simp (mul_assoc, mul_left_comm F)

  module _ {a : Carrier} {n k m : ℕ} {ss : List ℕ} (code : Code F a n k m ss) (e : ℕ) (ms : List Carrier) (long : length ms ≡ k) where
    -- the points of the rows, the word, and its check sum n − c
    abbrev points : List Carrier
    points = shifted F a (pow F a e) ss

    abbrev sum_at : ℕ → Carrier
    sum_at c = check F a (n - c) (map (node F a m e ss ms) (range 0 n)) (range 0 n)

    -- a coefficient of the message's polynomial
    coefficient : (c : ℕ) → c < k → get_or (message F a m e ss ms) c 0f ≡ inv (times F n) ⊗ sum_at c
    coefficient c l =
        let f = message F a m e ss ms in
        let lf = length_message F code e ms in
        sym (inv_mul_left F (times F n) (get_or f c 0f) (times_nonzero F a n code.order))
        ∙ ap (λ y. inv (times F n) ⊗ y)
        (mul_comm (times F n) (get_or f c 0f)
        ∙ sym (check_coefficient F a n code.order f (omega (arith, code.bound)) c (omega arith))
        ∙ ap (λ l. check F a (n - c) l (range 0 n)) (sym (nodes_values F a m e ss ms (range 0 n))))

    -- symbol r
    pub symbol_sum : (r : ℕ) → r < k → let x = get_or points r 0f in
        get_or ms r 0f ≡ inv (eval F (others F points x) x) ⊗ (inv (times F n) ⊗ sum F k (λ c. get_or (others F points x) c 0f ⊗ inv (get_or (base F a m) c 0f) ⊗ sum_at c))
    unfolding basis
    symbol_sum r b =
        let p = base F a m in
        let f = message F a m e ss ms in
        let x = get_or points r 0f in
        let w : length points ≡ k = size_shifted F code (pow F a e) in
        let s = inv (eval F (others F points x) x) in
        let i = inv (times F n) in
        let term : ℕ → Carrier = λ c. get_or (others F points x) c 0f ⊗ inv (get_or p c 0f) ⊗ sum_at c in
        ap (λ l. get_or l r 0f) (sym (unmix_mix F p points (node_spread F code e) ms (long ∙ sym (size_base F code))))
        ∙ get_or_weights F points (λ c. inv (get_or p c 0f) ⊗ get_or f c 0f) r (omega arith)
        ∙ ap (λ n. sum F n (λ c. get_or (basis F points x) c 0f ⊗ (inv (get_or p c 0f) ⊗ get_or f c 0f))) w
        ∙ sum_agree F k (λ c. get_or (basis F points x) c 0f ⊗ (inv (get_or p c 0f) ⊗ get_or f c 0f)) (λ c. s ⊗ (i ⊗ term c))
        (λ c l.
        ap₂ (λ u v. u ⊗ (inv (get_or p c 0f) ⊗ v)) (get_or-map (λ y. s ⊗ y) (others F points x) c 0f 0f (omega (arith, length_others F points x))) (coefficient c l)
        ∙ scales_out s (get_or (others F points x) c 0f) (inv (get_or p c 0f)) i (sum_at c))
        ∙ sum_scale F k s (λ c. i ⊗ term c)
        ∙ ap (λ y. s ⊗ y) (sum_scale F k i term)
