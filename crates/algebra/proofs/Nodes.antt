-- Messages and nodes: node j holds Σ_r m_r·p(a^(j + s_r + e)), which is the value at a^j of the message's polynomial.
-- Any k nodes hold the symbols of exactly one message, and the words are the values of the polynomials of length k.
use mathlib.Core.Path.{◌≡◌, sym, ap, fun_ext, ◌∙◌}
use mathlib.Core.List.{List, map, map-map}
use mathlib.Core.Logic.{◌↔◌}
use Prim.Native.Nat.{ℕ, ◌+◌}
use native.Mathlib.Omega.{arith}
use lib.ListN.{length, length-map}
use Rattle.lists.proofs.All.{ExactlyOne}
use Rattle.lists.proofs.Places.{Places}
use Rattle.algebra.specs.Field.{Field}
use Rattle.algebra.specs.Powers.{pow}
use Rattle.algebra.proofs.Combinations.{comb, comb_map}
use Rattle.algebra.proofs.Poly.{eval, values}
use Rattle.algebra.proofs.Powers.{pow_add, pow_nonzero, order_nonzero, Distinct-pow}
use Rattle.algebra.proofs.BasePolynomial.{base}
use Rattle.algebra.proofs.Dilations.{mix, mixed, length_mix_from, eval_mix, Spread, any_values}
use Rattle.algebra.proofs.ShiftedBasis.{Code, shifted, size_base, shifted_spread, shifted_basis}

module _ (F : Field) where
  infixl 80 ◌⊗◌
  open F use {Carrier, 0f, mul as ◌⊗◌}

  -- what node j holds: Σ_r m_r·p(a^(j + s_r + e))
  unfoldable pub node : Carrier → ℕ → ℕ → List ℕ → List Carrier → ℕ → Carrier
  node a m e ss ms j = comb F (λ s. eval F (base F a m) (pow F a (j + s + e))) ms ss

  -- the polynomial of a message: Σ_r m_r·p(a^(s_r)·a^e·x)
  abbrev pub message : Carrier → ℕ → ℕ → List ℕ → List Carrier → List Carrier
  message a m e ss ms = mix F (base F a m) ms (shifted F a (pow F a e) ss)

  -- the exponent of a product of powers is the sum
  exponents : (a : Carrier) (e s j : ℕ) → pow F a (j + s + e) ≡ pow F a s ⊗ pow F a e ⊗ pow F a j
  exponents a e s j =
      let h : j + s + e ≡ s + e + j = omega arith in
      ap (pow F a) h ∙ pow_add F a (s + e) j ∙ ap (λ y. y ⊗ pow F a j) (pow_add F a s e)

  -- a node is the combination of the p(a^(s_r)·a^e·x) at a^j
  node_mixed : (a : Carrier) (m e : ℕ) (ss : List ℕ) (ms : List Carrier) (j : ℕ) → node a m e ss ms j ≡ mixed F (base F a m) ms (shifted F a (pow F a e) ss) (pow F a j)
  unfolding node
  node_mixed a m e ss ms j =
      ap (λ f. comb F f ms ss) (fun_ext (λ s. ap (eval F (base F a m)) (exponents a e s j)))
      ∙ sym (comb_map F (λ t. eval F (base F a m) (t ⊗ pow F a j)) (λ s. pow F a s ⊗ pow F a e) ms ss)

  nodes_mixed : (a : Carrier) (m e : ℕ) (ss : List ℕ) (ms : List Carrier) (js : List ℕ) → map (node a m e ss ms) js ≡ map (mixed F (base F a m) ms (shifted F a (pow F a e) ss)) (map (pow F a) js)
  nodes_mixed a m e ss ms js =
      ap (λ f. map f js) (fun_ext (node_mixed a m e ss ms)) ∙ sym (map-map (mixed F (base F a m) ms (shifted F a (pow F a e) ss)) (pow F a) js)

  -- node j holds the value of the message's polynomial at a^j
  pub node_value : (a : Carrier) (m e : ℕ) (ss : List ℕ) (ms : List Carrier) (j : ℕ) → node a m e ss ms j ≡ eval F (message a m e ss ms) (pow F a j)
  node_value a m e ss ms j = node_mixed a m e ss ms j ∙ sym (eval_mix F (base F a m) ms (shifted F a (pow F a e) ss) (pow F a j))

  -- so for a list of nodes
  pub nodes_values : (a : Carrier) (m e : ℕ) (ss : List ℕ) (ms : List Carrier) (js : List ℕ) → map (node a m e ss ms) js ≡ values F a (message a m e ss ms) js
  nodes_values a m e ss ms js = ap (λ f. map f js) (fun_ext (node_value a m e ss ms))

  module _ {a : Carrier} {n k m : ℕ} {ss : List ℕ} (code : Code F a n k m ss) (e : ℕ) where
    factor : pow F a e ≡ 0f → ⊥
    factor = pow_nonzero F a (order_nonzero F a n code.order) e

    -- the base polynomial has no zero coefficient, and the points a^(s_r)·a^e are distinct
    pub node_spread : Spread F (base F a m) (shifted F a (pow F a e) ss)
    node_spread = shifted_spread F code (pow F a e) factor

    -- the message's polynomial has k coefficients
    pub length_message : (ms : List Carrier) → length (message a m e ss ms) ≡ k
    length_message ms = length_mix_from F 0 (base F a m) ms (shifted F a (pow F a e) ss) ∙ size_base F code

    -- any k symbols on any k distinct nodes are of exactly one message
    pub any_nodes : (js : List ℕ) (ys : List Carrier) → Places n k js → length ys ≡ k → ExactlyOne (λ ms. (length ms ≡ k) × (map (node a m e ss ms) js ≡ ys))
    any_nodes js ys h l =
        let b = size_base F code in
        let v =
        any_values F (base F a m) (shifted F a (pow F a e) ss) node_spread (map (pow F a) js) ys (Distinct-pow F a n code.order k js h)
        (length-map js (pow F a) ∙ h.size ∙ sym b) (l ∙ sym b) in
        (v.0, (v.1.0 ∙ b, nodes_mixed a m e ss v.0 js ∙ v.1.1), λ us h. v.2 us (h.0 ∙ sym b, sym (nodes_mixed a m e ss us js) ∙ h.1))

    -- the words of messages are the values of the polynomials of length k at the powers of a
    pub words : (js : List ℕ) (ws : List Carrier) → ((ms : List Carrier) × (length ms ≡ k) × (map (node a m e ss ms) js ≡ ws)) ↔ ((f : List Carrier) × (length f ≡ k) × (values F a f js ≡ ws))
    words js ws = (to, from)
      where
        to : (ms : List Carrier) × (length ms ≡ k) × (map (node a m e ss ms) js ≡ ws) → (f : List Carrier) × (length f ≡ k) × (values F a f js ≡ ws)
        to (ms, l, h) = (message a m e ss ms, length_message ms, sym (nodes_values a m e ss ms js) ∙ h)

        from : (f : List Carrier) × (length f ≡ k) × (values F a f js ≡ ws) → (ms : List Carrier) × (length ms ≡ k) × (map (node a m e ss ms) js ≡ ws)
        from (f, l, h) =
            let (ms, v, q) = shifted_basis F code (pow F a e) factor f l in
            (ms, v.0, nodes_values a m e ss ms js ∙ ap (λ c. values F a c js) v.1 ∙ h)
