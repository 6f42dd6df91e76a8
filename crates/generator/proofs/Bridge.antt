-- The definitions on numbers are those of the algebra over the record's field.
use mathlib.Core.Path.{◌≡◌, refl, sym, ap, ap₂, ◌∙◌}
use mathlib.Core.List.{List, [], ◌∷◌, map}
use Prim.Native.Nat.{ℕ, zero, suc, ◌+◌, ◌-◌, ◌*◌, ◌%◌, ◌≤◌}
use native.Mathlib.Omega.{arith}
use lib.ListN.{length, get_or, drop}
use Rattle.lists.specs.Rows.{from, range}
use Rattle.lists.proofs.Front.{drop_next}
use Rattle.lists.proofs.Places.{map_range}
use Rattle.algebra.specs.Powers.{pow}
use Rattle.algebra.proofs.Combinations.{comb}
use Rattle.algebra.proofs.Poly.{eval, values}
use Rattle.algebra.proofs.Product.{eval_product, eval_product_nil}
use Rattle.algebra.proofs.Powers.{pow_mod}
use Rattle.algebra.proofs.BasePolynomial.{base}
use Rattle.algebra.proofs.Nodes.{node}
use Rattle.algebra.proofs.Parity.{check}
use Rattle.lists.proofs.Places.{below}
use Rattle.field.specs.Fields.{add, sub, mul, power}
use Rattle.field.specs.Symbols.{Symbol, numbers}
use Rattle.field.proofs.FieldOf.{number_sub, number_pow}
use Rattle.generator.specs.declared.Header.{Header}
use Rattle.generator.specs.Records.{modulus_of, size, distance, Sound}
use Rattle.generator.specs.Shifts.{shifts}
use Rattle.generator.specs.Generator.{base_from, base_at, entry_at, entry}
use Rattle.generator.specs.Codewords.{node_from, node_of, encoding, poly_at, values_of, check_from}
use Rattle.generator.proofs.Sound.{field_for, root_for, root_order, offset}

module _ (h : Header) (s : Sound h) where
  -- the number of a symbol
  abbrev number : Symbol (size h) → ℕ
  number x = x.0

  -- p(x), factor by factor
  pub base_from_is : (m : ℕ) (x : Symbol (size h)) → base_from m h x.0 ≡ (eval (field_for h s) (base (field_for h s) (root_for h s) m) x).0
  unfolding base_from base
  base_from_is zero x = sym (ap number (eval_product_nil (field_for h s) x))
  base_from_is (suc m) x =
      ap₂ (mul (modulus_of h)) (ap (sub (modulus_of h) x.0) (sym (number_pow (modulus_of h) s.field (root_for h s) m)) ∙ sym (number_sub (modulus_of h) s.field x (pow (field_for h s) (root_for h s) m))) (base_from_is m x)
      ∙ sym (ap number (eval_product (field_for h s) (pow (field_for h s) (root_for h s) m) (map (pow (field_for h s) (root_for h s)) (below m)) x))

  -- the entry at node j of a row with the shift t
  pub entry_at_is : (t j : ℕ) → entry_at h t j ≡ (eval (field_for h s) (base (field_for h s) (root_for h s) (h.k - 1)) (pow (field_for h s) (root_for h s) (j + t + (h.k - 1)))).0
  unfolding entry_at base_at
  entry_at_is t j =
      let F = field_for h s in
      let a = root_for h s in
      ap (base_from (h.k - 1) h) (sym (number_pow (modulus_of h) s.field a ((j + t + (h.n - distance h)) % h.n)))
      ∙ base_from_is (h.k - 1) (pow F a ((j + t + (h.n - distance h)) % h.n))
      ∙ ap (λ (x : Symbol (size h)). (eval F (base F a (h.k - 1)) x).0) (pow_mod F a h.n (root_order h s) (j + t + (h.n - distance h)) ∙ ap (λ (e : ℕ). pow F a (j + t + e)) (offset h s))

  -- what a node holds, from symbol r on
  node_from_is : (r : ℕ) (ms : List (Symbol (size h))) (j : ℕ) → r + length ms ≤ length (shifts h) → node_from r h (numbers (size h) ms) j ≡ (comb (field_for h s) (λ t. eval (field_for h s) (base (field_for h s) (root_for h s) (h.k - 1)) (pow (field_for h s) (root_for h s) (j + t + (h.k - 1)))) ms (drop r (shifts h))).0
  unfolding node_from comb entry
  node_from_is r [] j fits = refl
  node_from_is r (m ∷ ms) j fits =
      rw (drop_next (shifts h) r 0 (omega arith))
      (ap₂ (add (modulus_of h)) (ap (mul (modulus_of h) m.0) (entry_at_is (get_or (shifts h) r 0) j)) (node_from_is (r + 1) ms j (omega arith)))

  -- what node j holds for a message
  pub node_of_is : (ms : List (Symbol (size h))) (j : ℕ) → length ms ≤ length (shifts h) → node_of h (numbers (size h) ms) j ≡ (node (field_for h s) (root_for h s) (h.k - 1) (h.k - 1) (shifts h) ms j).0
  unfolding node_of node
  node_of_is ms j fits = node_from_is 0 ms j (omega arith)

  -- what a list of nodes holds
  pub nodes_are : (ms : List (Symbol (size h))) (js : List ℕ) → length ms ≤ length (shifts h) → map (node_of h (numbers (size h) ms)) js ≡ numbers (size h) (map (node (field_for h s) (root_for h s) (h.k - 1) (h.k - 1) (shifts h) ms) js)
  nodes_are ms [] fits = refl
  nodes_are ms (j ∷ js) fits = ap₂ ◌∷◌ (node_of_is ms j fits) (nodes_are ms js fits)

  -- the encoding is what all nodes hold
  pub encoding_map : (ms : List ℕ) → encoding h ms ≡ map (node_of h ms) (range 0 h.n)
  unfolding encoding
  encoding_map ms = sym (map_range (node_of h ms) 0 h.n)

  -- the value of a polynomial
  pub poly_at_is : (cs : List (Symbol (size h))) (x : Symbol (size h)) → poly_at (modulus_of h) (numbers (size h) cs) x.0 ≡ (eval (field_for h s) cs x).0
  unfolding poly_at eval
  poly_at_is [] x = refl
  poly_at_is (c ∷ cs) x = ap (λ (y : ℕ). add (modulus_of h) c.0 (mul (modulus_of h) x.0 y)) (poly_at_is cs x)

  -- its values at the powers of the root
  pub values_of_is : (cs : List (Symbol (size h))) → values_of h (numbers (size h) cs) ≡ numbers (size h) (values (field_for h s) (root_for h s) cs (range 0 h.n))
  unfolding values_of
  values_of_is cs =
      sym (map_range (λ j. poly_at (modulus_of h) (numbers (size h) cs) (power (modulus_of h) h.root j)) 0 h.n) ∙ go (range 0 h.n)
    where
      go : (js : List ℕ) → map (λ j. poly_at (modulus_of h) (numbers (size h) cs) (power (modulus_of h) h.root j)) js ≡ numbers (size h) (values (field_for h s) (root_for h s) cs js)
      go [] = refl
      go (j ∷ js) =
          ap₂ ◌∷◌
          (ap (poly_at (modulus_of h) (numbers (size h) cs)) (sym (number_pow (modulus_of h) s.field (root_for h s) j)) ∙ poly_at_is cs (pow (field_for h s) (root_for h s) j))
          (go js)

  -- a check sum
  pub check_from_is : (e j : ℕ) (ws : List (Symbol (size h))) → check_from h e j (numbers (size h) ws) ≡ (check (field_for h s) (root_for h s) e ws (range j (length ws))).0
  unfolding check_from comb from
  check_from_is e j [] = refl
  check_from_is e j (w ∷ ws) =
      ap₂ (add (modulus_of h))
      (ap (mul (modulus_of h) w.0) (sym (number_pow (modulus_of h) s.field (root_for h s) (j * e % h.n)) ∙ ap number (pow_mod (field_for h s) (root_for h s) h.n (root_order h s) (j * e))))
      (check_from_is e (j + 1) ws)
