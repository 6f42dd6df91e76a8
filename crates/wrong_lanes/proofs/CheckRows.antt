-- Sums with the weights of the checks: all are 0 where the other nodes hold what the first k give, and there the lane is a word.
use mathlib.Core.Path.{◌≡◌, refl, sym, ap, ap₂, ◌∙◌}
use native.Mathlib.Nat.{zero-add}
use mathlib.Core.Logic.{◌↔◌, by_cases}
use mathlib.Core.Bool.{true}
use mathlib.Core.List.{List, [], ◌∷◌, ◌++◌}
use Prim.Native.Nat.{ℕ, zero, suc, ◌+◌, ◌-◌, ◌≤◌, ◌<◌}
use native.Mathlib.Decide.{ℕ_discrete}
use native.Mathlib.Omega.{arith}
use borrow.Author.Tests.{eqb-true, eq-eqb}
use lib.Dec.{eqb}
use lib.ListN.{length, get_or, take, set, length-set}
use lib.Seq.{ext_get_or, get_or-take, length-take-le}
use Rattle.lists.specs.Numbers.{all_below}
use Rattle.lists.specs.Padded.{zeros, padded}
use Rattle.lists.specs.Rows.{from, range}
use Rattle.std.proofs.lemmas.Bool.{and_from, and_parts}
use Rattle.lists.proofs.Cases.{same_test}
use Rattle.lists.proofs.Numbers.{below_cons, below_take, below_set, below_at, below_get_or, at_below}
use Rattle.lists.proofs.Padding.{length_padded, below_padded, padded_past}
use Rattle.lists.proofs.Places.{map_range}
use Rattle.lists.proofs.Rows.{length_from, get_or_from}
use Rattle.field.specs.Fields.{is_field, size_of, add, sub, mul, power}
use Rattle.field.specs.Inner.Sums.{dot}
use Rattle.field.proofs.Arithmetic.{zero_below, add_neg, add_back, mul-zero}
use Rattle.field.proofs.BothKinds.{arithmetic}
use Rattle.field.proofs.Bounds.{one_below, sub_below, mul_below, power_below}
use Rattle.field.proofs.FieldOf.{size_pos}
use Rattle.field.proofs.Sums.{dot_below}
use Rattle.generator.specs.declared.Header.{Header}
use Rattle.generator.specs.Records.{modulus_of, size, Sound}
use Rattle.generator.specs.Codewords.{is_word}
use Rattle.generator.proofs.PlainLayout.{first_nodes}
use Rattle.interpolation.specs.Inner.Points.{SymbolList, points_of}
use Rattle.interpolation.proofs.Points.{symbols_take}
use Rattle.interpolation.specs.Inner.Lagrange.{basis_at}
use Rattle.interpolation.proofs.Values.{length_values, get_or_values, others_at_below, scale_at_below}
use Rattle.node_weights.specs.Inner.Weights.{Rebuilds}
use Rattle.node_weights.proofs.Rebuilding.{rebuilds}
use Rattle.check_sums.specs.Inner.Powers.{powers_of}
use Rattle.check_sums.proofs.Sums.{length_powers}
use Rattle.block_products.specs.Inner.Marks.{all_zero}
use Rattle.wrong_lanes.specs.Inner.Checks.{other_values, check_row}
use Rattle.wrong_lanes.proofs.FirstNodes.{words_rebuilt}

-- what comes after the shorter list plays no part
dot_take : (p n : ℕ) (xs ws : List ℕ) → length xs ≤ n → dot p xs (take n ws) ≡ dot p xs ws
unfolding dot
dot_take p n [] ws fits = refl
dot_take p zero (x ∷ xs) ws fits = absurd (omega arith)
dot_take p (suc n) (x ∷ xs) [] fits = refl
dot_take p (suc n) (x ∷ xs) (w ∷ ws) fits = ap (add p (mul p x w)) (dot_take p n xs ws (omega arith))

module _ (p : ℕ) (v : is_field p ≡ true) where
  -- sums with zeros
  dot_zeros : (xs : List ℕ) → all_below (size_of p) xs ≡ true → (n : ℕ) → dot p xs (zeros n) ≡ 0
  unfolding dot zeros
  dot_zeros [] below n = refl
  dot_zeros (x ∷ xs) below zero = refl
  dot_zeros (x ∷ xs) below (suc n) =
      let parts = below_cons (size_of p) x xs below in
      ap₂ (add p) (mul-zero (arithmetic p v) x parts.0) (dot_zeros xs parts.1 n) ∙ (arithmetic p v).add-zero 0 (zero_below (arithmetic p v))

  -- with k weights and zeros after them
  pub dot_first : (k : ℕ) (xs ws : List ℕ) → length ws ≡ k → all_below (size_of p) xs ≡ true → (n : ℕ) → dot p xs (ws ++ zeros n) ≡ dot p (take k xs) (ws ++ zeros n)
  unfolding dot
  dot_first zero xs [] e below n = dot_zeros xs below n
  dot_first zero xs (w ∷ ws) e below n = absurd (omega arith)
  dot_first (suc k) xs [] e below n = absurd (omega arith)
  dot_first (suc k) [] (w ∷ ws) e below n = refl
  dot_first (suc k) (x ∷ xs) (w ∷ ws) e below n = ap (add p (mul p x w)) (dot_first k xs ws (omega arith) (below_cons (size_of p) x xs below).1 n)

  -- with one weight more, where it was 0
  dot_set : (xs ws : List ℕ) (j m : ℕ) → all_below (size_of p) xs ≡ true → all_below (size_of p) ws ≡ true → m < size_of p → j < length xs → j < length ws → get_or ws j 0 ≡ 0 → dot p xs (set ws j m) ≡ add p (dot p xs ws) (mul p (get_or xs j 0) m)
  unfolding dot
  dot_set [] ws j m bx bw low a b none = absurd (omega arith)
  dot_set (x ∷ xs) [] j m bx bw low a b none = absurd (omega arith)
  dot_set (x ∷ xs) (w ∷ ws) zero m bx bw low a b none =
      let px = below_cons (size_of p) x xs bx in
      let d = dot p xs ws in
      let dl : d < size_of p = dot_below p v xs ws px.1 (below_cons (size_of p) w ws bw).1 in
      let A = arithmetic p v in
      A.add_comm (mul p x m) d (mul_below p v px.0 low) dl
      ∙ ap (λ (u : ℕ). add p u (mul p x m)) (sym (ap (λ (u : ℕ). add p u d) (ap (mul p x) none ∙ mul-zero A x px.0) ∙ A.add_comm 0 d (zero_below A) dl ∙ A.add-zero d dl))
  dot_set (x ∷ xs) (w ∷ ws) (suc j) m bx bw low a b none =
      let px = below_cons (size_of p) x xs bx in
      let pw = below_cons (size_of p) w ws bw in
      let inside : j < length xs = omega arith in
      ap (add p (mul p x w)) (dot_set xs ws j m px.1 pw.1 low inside (omega arith) none)
      ∙ sym ((arithmetic p v).add_assoc (mul p x w) (dot p xs ws) (mul p (get_or xs j 0) m) (mul_below p v px.0 pw.0) (dot_below p v xs ws px.1 pw.1) (mul_below p v (below_at (size_of p) xs px.1 j inside) low))

  -- d − x is 0 where x is d
  balance : (d x : ℕ) → d < size_of p → x < size_of p → (add p d (mul p x (sub p 0 1)) ≡ 0) ↔ (x ≡ d)
  balance d x dl xl =
      let A = arithmetic p v in
      let m = sub p 0 1 in
      let ml : m < size_of p = sub_below p v (zero_below A) (one_below p v) in
      let y = mul p x m in
      let yl : y < size_of p = mul_below p v xl ml in
      let none : add p x y ≡ 0 = ap (λ (u : ℕ). add p u y) (sym (A.mul-one x xl)) ∙ sym (A.mul-add x 1 m xl (one_below p v) ml) ∙ ap (mul p x) (add_neg A 1 (one_below p v)) ∙ mul-zero A x xl in
      (λ e. sym (add_back A x y xl yl) ∙ ap (λ (u : ℕ). add p u (sub p 0 y)) (none ∙ sym e) ∙ add_back A d y dl yl, λ e. ap (λ (u : ℕ). add p u y) (sym e) ∙ none)

-- all sums are 0
pub zero_each : (m : ℕ) (f : ℕ → ℕ) → all_zero m f ≡ true → (i : ℕ) → i < m → f i ≡ 0
unfolding all_zero
zero_each zero f t i low = absurd (omega arith)
zero_each (suc m) f t i low =
    by_cases (ℕ_discrete i m)
    (λ q. rw q (eqb-true _ 0 (and_parts _ (all_zero m f) t).0))
    (λ n. zero_each m f (and_parts (eqb (f m) 0) _ t).1 i (omega arith))

each_zero : (m : ℕ) (f : ℕ → ℕ) → ((i : ℕ) → i < m → f i ≡ 0) → all_zero m f ≡ true
unfolding all_zero
each_zero zero f z = refl
each_zero (suc m) f z = and_from _ _ (eq-eqb _ 0 (z m (omega arith))) (each_zero m f (λ i l. z i (omega arith)))

-- the value of a basis polynomial is a symbol
basis_at_below : (p : ℕ) → is_field p ≡ true → (xs : List ℕ) (i z : ℕ) → all_below (size_of p) xs ≡ true → i < length xs → z < size_of p → basis_at p xs i z < size_of p
unfolding basis_at
basis_at_below p v xs i z below inside low = mul_below p v (scale_at_below p v xs i below inside) (others_at_below p v xs i z below low)

-- the checks of nodes with the points xs
module _ (p : ℕ) (v : is_field p ≡ true) (k : ℕ) (xs : List ℕ) (points : SymbolList p xs) (i : ℕ) where
  values_long : length (other_values p k xs i) ≡ length (take k xs)
  values_long = length_values p (take k xs) (get_or xs (k + i) 0)

  values_below : all_below (size_of p) (padded 255 (other_values p k xs i)) ≡ true
  values_below =
      let z = get_or xs (k + i) 0 in
      below_padded (size_of p) 255 _ (size_pos p v)
      (at_below (size_of p) (other_values p k xs i)
      (λ j inside.
      let low : j < length (take k xs) = omega (arith, values_long) in
      rw (get_or_values p (take k xs) z j low) (basis_at_below p v (take k xs) j z (below_take (size_of p) k xs points.below) low (below_get_or (size_of p) xs (size_pos p v) points.below (k + i)))))

  array_long : length (padded 255 (other_values p k xs i)) ≡ 255
  array_long = length_padded 255 (other_values p k xs i) (omega (arith, values_long, (symbols_take points k).short))

  minus_low : sub p 0 1 < size_of p
  minus_low = sub_below p v (zero_below (arithmetic p v)) (one_below p v)

  pub row_long : length (set (padded 255 (other_values p k xs i)) (k + i) (sub p 0 1)) ≡ 255
  row_long = simp length-set array_long

  pub length_check_row : length (check_row p k xs i) ≡ length xs
  unfolding check_row
  length_check_row = length-take-le (length xs) _ (omega (arith, row_long, points.short))

  pub check_row_below : all_below (size_of p) (check_row p k xs i) ≡ true
  unfolding check_row
  check_row_below = below_take (size_of p) (length xs) _ (below_set (size_of p) (padded 255 (other_values p k xs i)) (k + i) (sub p 0 1) minus_low values_below)

  -- a sum is 0 where the node holds what the first k give
  module _ (ys : List ℕ) (long : length ys ≡ length xs) (below : all_below (size_of p) ys ≡ true) (other : k + i < length xs) where
    exact : length (other_values p k xs i) ≡ k
    exact = values_long ∙ length-take-le k xs (omega arith)

    check_sum : dot p ys (check_row p k xs i) ≡ add p (dot p (take k ys) (padded 255 (other_values p k xs i))) (mul p (get_or ys (k + i) 0) (sub p 0 1))
    unfolding padded check_row
    check_sum =
        dot_take p (length xs) ys _ (omega arith)
        ∙ dot_set p v ys (padded 255 (other_values p k xs i)) (k + i) (sub p 0 1) below values_below minus_low (omega arith) (omega (arith, array_long, points.short)) (padded_past 255 (other_values p k xs i) (k + i) (omega (arith, exact)))
        ∙ ap (λ (d : ℕ). add p d (mul p (get_or ys (k + i) 0) (sub p 0 1))) (dot_first p v k ys (other_values p k xs i) exact below (255 - length (other_values p k xs i)))

    pub check_zero : (dot p ys (check_row p k xs i) ≡ 0) ↔ (get_or ys (k + i) 0 ≡ dot p (take k ys) (padded 255 (other_values p k xs i)))
    check_zero = rw check_sum (balance p v _ _ (dot_below p v (take k ys) (padded 255 (other_values p k xs i)) (below_take (size_of p) k ys below) values_below) (below_at (size_of p) ys below (k + i) (omega arith)))

-- the weights of a check, as they are lent
pub row_taken : (p k : ℕ) (xs : List ℕ) (i : ℕ) → take (length xs) (set (padded 255 (other_values p k xs i)) (k + i) (sub p 0 1)) ≡ check_row p k xs i
unfolding check_row
row_taken p k xs i = refl

-- the points of all nodes
power_is : (h : Header) (j : ℕ) → j < h.n → get_or (powers_of h) j 0 ≡ power (modulus_of h) h.root j
unfolding powers_of
power_is h j low = rw zero-add at (get_or_from (power (modulus_of h) h.root) 0 h.n j 0 low)

pub powers_symbols : (h : Header) → Sound h → SymbolList (modulus_of h) (powers_of h)
powers_symbols h s =
    record {
      below = at_below (size h) (powers_of h) (λ j inside. rw (power_is h j (omega (arith, length_powers h))) (power_below (modulus_of h) s.field j s.root_below));
      short = omega (arith, length_powers h, s.byte);
    }

-- those of the first k
first_points : (h : Header) → Sound h → take h.k (powers_of h) ≡ points_of (modulus_of h) h.root 0 (range 0 h.k)
unfolding points_of
first_points h s =
    let f : ℕ → ℕ = λ j. power (modulus_of h) h.root (j + 0) in
    let long : length (take h.k (powers_of h)) ≡ h.k = length-take-le h.k _ (omega (arith, length_powers h, s.fits)) in
    ext_get_or 0 _ (from f 0 h.k) (long ∙ sym (length_from f 0 h.k))
    (λ j inside.
    let low : j < h.k = omega (arith, long) in
    let place : 0 + j + 0 ≡ j = omega arith in
    get_or-take h.k _ j 0 low ∙ power_is h j (omega (arith, s.fits)) ∙ sym (get_or_from f 0 h.k j 0 low ∙ ap (power (modulus_of h) h.root) place))
    ∙ sym (map_range f 0 h.k)

-- so all sums are 0 where the lane is a word
pub rows_word : (h : Header) (s : Sound h) (ws : List ℕ) → length ws ≡ h.n → all_below (size h) ws ≡ true → all_zero (h.n - h.k) (λ i. dot (modulus_of h) ws (check_row (modulus_of h) h.k (powers_of h) i)) ≡ is_word h ws
rows_word h s ws long below =
    let p = modulus_of h in
    let xs = powers_of h in
    let weights : ℕ → List ℕ = λ i. padded 255 (other_values p h.k xs i) in
    let gives : (i : ℕ) → i < h.n - h.k → Rebuilds h (range 0 h.k) (h.k + i) (weights i) =
    λ i low. rw (first_points h s, power_is h (h.k + i) (omega arith)) (rebuilds h s (range 0 h.k) (first_nodes h s) (h.k + i) (omega (arith, s.fits, s.byte))) in
    let both = words_rebuilt h s weights gives ws long below in
    let zero : (i : ℕ) → i < h.n - h.k → (dot p ws (check_row p h.k xs i) ≡ 0) ↔ (get_or ws (h.k + i) 0 ≡ dot p (take h.k ws) (weights i)) =
    λ i low. check_zero p s.field h.k xs (powers_symbols h s) i ws (long ∙ sym (length_powers h)) below (omega (arith, length_powers h)) in
    same_test _ _
    (λ t. both.1 (λ i low. (zero i low).0 (zero_each (h.n - h.k) _ t i low)))
    (λ t. each_zero (h.n - h.k) _ (λ i low. (zero i low).1 (both.0 t i low)))
