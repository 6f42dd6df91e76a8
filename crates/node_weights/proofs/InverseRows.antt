-- A weight as a row computes it is an entry of the inverse of the encoding, in the terms of the algebra.
use mathlib.Core.Path.{◌≡◌, sym, ap, ap₂, ◌∙◌}
use mathlib.Core.Bool.{true}
use mathlib.Core.List.{List}
use Prim.Native.Nat.{ℕ, ◌<◌}
use native.Mathlib.Nat.{zero-add}
use native.Mathlib.Omega.{arith}
use lib.ListN.{length, get_or, drop}
use Rattle.std.proofs.lemmas.List.{get_or-map}
use Rattle.lists.proofs.Rows.{length_from, get_or_from}
use Rattle.algebra.proofs.Sums.{sum}
use Rattle.algebra.proofs.Poly.{eval}
use Rattle.algebra.proofs.LagrangeBasis.{others, basis, length_others}
use Rattle.algebra.proofs.Others.{basis_sum}
use Rattle.field.specs.Fields.{is_field, size_of, mul, inverse}
use Rattle.field.specs.Symbols.{Symbol, numbers}
use Rattle.field.proofs.Symbols.{length_numbers, get_or_numbers}
use Rattle.field.proofs.FieldOf.{field_of, size_pos}
use Rattle.field.specs.Inner.Sums.{dot}
use Rattle.interpolation.specs.Inner.Lagrange.{scales_of}
use Rattle.interpolation.specs.Inner.Polynomials.{product_of, quotient_of, termwise, inverses_of}
use Rattle.node_weights.specs.Inner.Rows.{weight_of, weights_of}
use Rattle.interpolation.proofs.Values.{get_or_scales}
use Rattle.interpolation.proofs.Coefficients.{length_termwise, get_or_termwise, length_inverses_of}
use Rattle.interpolation.proofs.Bridge.{scale_at_is, others_is, dot_is}

-- as many weights as points
pub length_weights_of : (p e : ℕ) (gs cs xs ds : List ℕ) → length (weights_of p e gs cs xs ds) ≡ length xs
unfolding weights_of
length_weights_of p e gs cs xs ds = length_from (λ i. weight_of p e gs cs (get_or xs i 0) (get_or ds i 0)) 0 (length xs)

-- weight i
pub get_or_weights_of : (p e : ℕ) (gs cs xs ds : List ℕ) (i : ℕ) → i < length xs → get_or (weights_of p e gs cs xs ds) i 0 ≡ weight_of p e gs cs (get_or xs i 0) (get_or ds i 0)
unfolding weights_of
get_or_weights_of p e gs cs xs ds i l =
    get_or_from (λ i. weight_of p e gs cs (get_or xs i 0) (get_or ds i 0)) 0 (length xs) i 0 l
    ∙ ap (λ (j : ℕ). weight_of p e gs cs (get_or xs j 0) (get_or ds j 0)) (zero-add i)

-- the terms of row r: the product over the rows' points but that of row r, by coefficients over those of the base polynomial
abbrev pub terms_of : ℕ → List ℕ → List ℕ → ℕ → List ℕ
terms_of p bs cs r = termwise p (quotient_of p (get_or bs r 0) (drop 1 (product_of p bs))) (inverses_of p cs)

module _ (p : ℕ) (v : is_field p ≡ true) (k : ℕ) (bs cs xs : List (Symbol (size_of p))) (lb : length bs ≡ k) (lc : length cs ≡ k) (lx : length xs ≡ k) (r i : ℕ) (hr : r < k) (hi : i < k) where
  abbrev at : List (Symbol (size_of p)) → ℕ → Symbol (size_of p)
  at l j = get_or l j (field_of p v).0f

  abbrev nums : List (Symbol (size_of p)) → List ℕ
  nums l = numbers (size_of p) l

  number_at : (l : List (Symbol (size_of p))) (j : ℕ) → get_or (nums l) j 0 ≡ (at l j).0
  number_at l j = get_or_numbers (size_of p) (size_pos p v) l j

  -- the scale of the basis polynomial of point j
  scale_is : (l : List (Symbol (size_of p))) (j : ℕ) → j < length l → get_or (scales_of p (nums l)) j 0 ≡ ((field_of p v).inv (eval (field_of p v) (others (field_of p v) l (at l j)) (at l j))).0
  scale_is l j b = get_or_scales p (nums l) j (omega (arith, length_numbers (size_of p) l)) ∙ scale_at_is p v l j b

  -- the product over the points but number j
  rest_is : (l : List (Symbol (size_of p))) (j : ℕ) → quotient_of p (get_or (nums l) j 0) (drop 1 (product_of p (nums l))) ≡ nums (others (field_of p v) l (at l j))
  rest_is l j = ap (λ (x : ℕ). quotient_of p x (drop 1 (product_of p (nums l)))) (number_at l j) ∙ others_is p v l (at l j)

  -- as many coefficients as points
  length_rest : (l : List (Symbol (size_of p))) (j : ℕ) → length (nums (others (field_of p v) l (at l j))) ≡ length l
  length_rest l j = length_numbers (size_of p) (others (field_of p v) l (at l j)) ∙ length_others (field_of p v) l (at l j)

  -- 1 over a coefficient of the base polynomial
  inverse_is : (c : ℕ) → c < k → get_or (inverses_of p (nums cs)) c 0 ≡ ((field_of p v).inv (at cs c)).0
  unfolding inverses_of
  inverse_is c b = get_or-map (inverse p) (nums cs) c 0 0 (omega (arith, length_numbers (size_of p) cs)) ∙ ap (inverse p) (number_at cs c)

  -- term c
  abbrev term : ℕ → Symbol (size_of p)
  term c = (field_of p v).mul (at (others (field_of p v) bs (at bs r)) c) ((field_of p v).inv (at cs c))

  pub length_terms : length (terms_of p (nums bs) (nums cs) r) ≡ k
  length_terms =
      let q = rest_is bs r in
      let n = length_rest bs r in
      let m = length_inverses_of p (nums cs) ∙ length_numbers (size_of p) cs in
      ap (λ (l : List ℕ). length (termwise p l (inverses_of p (nums cs)))) q ∙ length_termwise p (nums (others (field_of p v) bs (at bs r))) (inverses_of p (nums cs)) (omega arith) ∙ omega arith

  pub term_is : (c : ℕ) → c < k → get_or (terms_of p (nums bs) (nums cs) r) c 0 ≡ (term c).0
  term_is c b =
      let F = field_of p v in
      let o = others F bs (at bs r) in
      ap (λ (l : List ℕ). get_or (termwise p l (inverses_of p (nums cs))) c 0) (rest_is bs r)
      ∙ get_or_termwise p (nums o) (inverses_of p (nums cs)) c (omega (arith, length_rest bs r)) (omega (arith, length_inverses_of p (nums cs), length_numbers (size_of p) cs))
      ∙ ap₂ (mul p) (number_at o c) (inverse_is c b)

  -- the sum of the terms times the coefficients of the product over the other nodes' points
  sum_is : dot p (terms_of p (nums bs) (nums cs) r) (quotient_of p (get_or (nums xs) i 0) (drop 1 (product_of p (nums xs)))) ≡ (sum (field_of p v) k (λ c. (field_of p v).mul (term c) (at (others (field_of p v) xs (at xs i)) c))).0
  sum_is =
      let F = field_of p v in
      let o = others F xs (at xs i) in
      let gs = terms_of p (nums bs) (nums cs) r in
      let n = length_terms in
      ap (dot p gs) (rest_is xs i)
      ∙ dot_is p v gs (nums o) term (at o) (omega (arith, length_rest xs i)) (λ c l. term_is c (omega arith)) (λ c l. number_at o c)
      ∙ ap (λ (j : ℕ). (sum F j (λ c. F.mul (term c) (at o c))).0) n

  -- the weight
  pub weight_is : weight_of p (get_or (scales_of p (nums bs)) r 0) (terms_of p (nums bs) (nums cs) r) (drop 1 (product_of p (nums xs))) (get_or (nums xs) i 0) (get_or (scales_of p (nums xs)) i 0) ≡ (sum (field_of p v) k (λ c. (field_of p v).mul ((field_of p v).mul (at (basis (field_of p v) bs (at bs r)) c) ((field_of p v).inv (at cs c))) (at (basis (field_of p v) xs (at xs i)) c))).0
  unfolding weight_of
  weight_is =
      let F = field_of p v in
      ap₂ (mul p) (ap₂ (mul p) (scale_is bs r (omega arith)) (scale_is xs i (omega arith))) sum_is
      ∙ sym (ap (λ (x : Symbol (size_of p)). x.0) (basis_sum F k bs xs (at bs r) (at xs i) (λ c. F.inv (at cs c)) lb lx))
