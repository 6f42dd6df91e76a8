-- A message from the symbols of any k nodes, and any other node from them: the inverse of the encoding, by Lagrange's form.
use mathlib.Core.Path.{◌≡◌, sym, ap, ap₂, fun_ext, ◌∙◌}
use mathlib.Core.List.{List, map}
use Prim.Native.Nat.{ℕ, ◌≤◌, ◌<◌}
use native.Mathlib.Omega.{arith}
use lib.ListN.{length, get_or, length-map}
use Rattle.std.proofs.lemmas.List.{get_or-map}
use Rattle.lists.proofs.Places.{Places}
use Rattle.algebra.specs.Field.{Field}
use Rattle.algebra.specs.Powers.{pow}
use Rattle.algebra.proofs.Sums.{sum, sum_agree, sum_exchange}
use Rattle.algebra.proofs.Poly.{eval}
use Rattle.algebra.proofs.Powers.{Distinct-pow}
use Rattle.algebra.proofs.Vandermonde.{get_or_weights}
use Rattle.algebra.proofs.BasePolynomial.{base}
use Rattle.algebra.proofs.Dilations.{unmix_mix}
use Rattle.algebra.proofs.ShiftedBasis.{Code, shifted, size_base, size_shifted}
use Rattle.algebra.proofs.Nodes.{node, message, length_message, node_value, node_spread}
use Rattle.algebra.proofs.LagrangeBasis.{basis}
use Rattle.algebra.proofs.Lagrange.{lagrange_coefficients, lagrange_value}

module _ (F : Field) where
  infixl 80 ◌⊗◌
  open F use {Carrier, 0f, mul as ◌⊗◌, inv}
  open F use {mul_assoc}

  -- the basis polynomial of the i-th listed node, at the points a^j of the listed nodes
  abbrev pub node_basis : Carrier → List ℕ → ℕ → List Carrier
  node_basis a js i = basis F (map (pow F a) js) (pow F a (get_or js i 0))

  -- the basis polynomial of symbol r, at the points a^s·a^e of the shifts
  abbrev pub shift_basis : Carrier → ℕ → List ℕ → ℕ → List Carrier
  shift_basis a e ss r = basis F (shifted F a (pow F a e) ss) (pow F a (get_or ss r 0) ⊗ pow F a e)

  -- entry (r, i) of the inverse of the encoding at the listed nodes: Σ_c L_{r,c}·(1/p_c)·Λ_{i,c}
  abbrev pub inverse : Carrier → ℕ → ℕ → ℕ → List ℕ → List ℕ → ℕ → ℕ → Carrier
  inverse a k m e ss js r i = sum F k (λ c. get_or (shift_basis a e ss r) c 0f ⊗ inv (get_or (base F a m) c 0f) ⊗ get_or (node_basis a js i) c 0f)

  module _ {a : Carrier} {n k m : ℕ} {ss : List ℕ} (code : Code F a n k m ss) (e : ℕ) (js : List ℕ) (nodes : Places n k js) (ms ys : List Carrier) (long : length ms ≡ k) (held : map (node F a m e ss ms) js ≡ ys) where
    -- the listed symbols are values of the message's polynomial
    symbol_value : (i : ℕ) → i < k → eval F (message F a m e ss ms) (pow F a (get_or js i 0)) ≡ get_or ys i 0f
    symbol_value i l =
        sym (node_value F a m e ss ms (get_or js i 0))
        ∙ sym (get_or-map (node F a m e ss ms) js i 0 0f (omega (arith, nodes.size)))
        ∙ ap (λ l. get_or l i 0f) held

    -- a sum over the points of the nodes, in terms of what they hold
    node_sum : (g : Carrier → Carrier) → sum F (length (map (pow F a) js)) (λ i. eval F (message F a m e ss ms) (get_or (map (pow F a) js) i 0f) ⊗ g (get_or (map (pow F a) js) i 0f)) ≡ sum F k (λ i. get_or ys i 0f ⊗ g (pow F a (get_or js i 0)))
    node_sum g =
        let f = message F a m e ss ms in
        let xs = map (pow F a) js in
        ap (λ n. sum F n (λ i. eval F f (get_or xs i 0f) ⊗ g (get_or xs i 0f))) (length-map js (pow F a) ∙ nodes.size)
        ∙ sum_agree F k (λ i. eval F f (get_or xs i 0f) ⊗ g (get_or xs i 0f)) (λ i. get_or ys i 0f ⊗ g (pow F a (get_or js i 0)))
        (λ i l.
        ap (λ x. eval F f x ⊗ g x) (get_or-map (pow F a) js i 0 0f (omega (arith, nodes.size))) ∙ ap (λ y. y ⊗ g (pow F a (get_or js i 0))) (symbol_value i l))

    short : length (message F a m e ss ms) ≤ length (map (pow F a) js)
    short = omega (arith, length_message F code e ms, length-map js (pow F a), nodes.size)

    -- a rebuilt node: what the node t holds is Σ_i y_i·Λ_i(a^t)
    pub rebuild_node : (t : ℕ) → node F a m e ss ms t ≡ sum F k (λ i. get_or ys i 0f ⊗ eval F (node_basis a js i) (pow F a t))
    rebuild_node t =
        node_value F a m e ss ms t
        ∙ lagrange_value F (map (pow F a) js) (Distinct-pow F a n code.order k js nodes) (message F a m e ss ms) short (pow F a t)
        ∙ node_sum (λ x. eval F (basis F (map (pow F a) js) x) (pow F a t))

    -- coefficient c of the message's polynomial
    message_coefficient : (c : ℕ) → get_or (message F a m e ss ms) c 0f ≡ sum F k (λ i. get_or ys i 0f ⊗ get_or (node_basis a js i) c 0f)
    message_coefficient c =
        lagrange_coefficients F (map (pow F a) js) (Distinct-pow F a n code.order k js nodes) (message F a m e ss ms) short c ∙ node_sum (λ x. get_or (basis F (map (pow F a) js) x) c 0f)

    -- symbol r of the message is Σ_c L_{r,c}·(1/p_c)·Σ_i y_i·Λ_{i,c}
    pub recover_symbol : (r : ℕ) → r < k → get_or ms r 0f ≡ sum F k (λ c. get_or (shift_basis a e ss r) c 0f ⊗ inv (get_or (base F a m) c 0f) ⊗ sum F k (λ i. get_or ys i 0f ⊗ get_or (node_basis a js i) c 0f))
    recover_symbol r b =
        let p = base F a m in
        let f = message F a m e ss ms in
        let ts = shifted F a (pow F a e) ss in
        let w : length ts ≡ k = size_shifted F code (pow F a e) in
        ap (λ l. get_or l r 0f) (sym (unmix_mix F p ts (node_spread F code e) ms (long ∙ sym (size_base F code))))
        ∙ get_or_weights F ts (λ c. inv (get_or p c 0f) ⊗ get_or f c 0f) r (omega arith)
        ∙ ap₂ (λ n x. sum F n (λ c. get_or (basis F ts x) c 0f ⊗ (inv (get_or p c 0f) ⊗ get_or f c 0f))) w (get_or-map (λ s. pow F a s ⊗ pow F a e) ss r 0 0f (omega (arith, code.shifts.size)))
        ∙ ap (sum F k)
        (fun_ext
        (λ c.
        sym (mul_assoc (get_or (shift_basis a e ss r) c 0f) (inv (get_or p c 0f)) (get_or f c 0f)) ∙ ap (λ y. get_or (shift_basis a e ss r) c 0f ⊗ inv (get_or p c 0f) ⊗ y) (message_coefficient c)))

    -- the same as a row of the inverse matrix times the listed symbols
    pub recover_row : (r : ℕ) → r < k → get_or ms r 0f ≡ sum F k (λ i. get_or ys i 0f ⊗ inverse a k m e ss js r i)
    recover_row r b =
        recover_symbol r b
        ∙ sum_exchange F k k (λ c. get_or (shift_basis a e ss r) c 0f ⊗ inv (get_or (base F a m) c 0f)) (λ i. get_or ys i 0f) (λ c i. get_or (node_basis a js i) c 0f)
