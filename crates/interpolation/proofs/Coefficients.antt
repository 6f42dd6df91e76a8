-- Polynomials by their coefficients: one step of each loop, lengths, and that the coefficients are symbols.
use mathlib.Core.Path.{◌≡◌, refl, sym, ap, ◌∙◌}
use mathlib.Core.Bool.{true}
use mathlib.Core.List.{List, [], ◌∷◌, ◌++◌, append_assoc}
use Prim.Native.Nat.{ℕ, zero, suc, ◌+◌, ◌-◌, ◌≤◌, ◌<◌}
use native.Mathlib.Numerals.{add-one}
use native.Mathlib.Omega.{arith}
use lib.ListN.{length, get_or, take, drop, set, length-map, length-append, drop_of_length-le}
use lib.Seq.{take_at, drop_at, drop-length}
use Rattle.lists.specs.Numbers.{all_below}
use Rattle.lists.specs.Padded.{zeros, padded}
use Rattle.lists.specs.Rows.{from}
use Rattle.lists.proofs.Fill.{zeros_next}
use Rattle.lists.proofs.Front.{drop_next, drop_before}
use Rattle.lists.proofs.Numbers.{below_cons, cons_below, below_append, below_get_or, below_drop}
use Rattle.lists.proofs.Images.{from_self}
use Rattle.lists.proofs.Padding.{length_padded}
use Rattle.lists.proofs.Rows.{from_ext}
use Rattle.field.specs.Fields.{is_field, size_of, add, sub, mul, power, inverse}
use Rattle.field.proofs.Arithmetic.{mul-zero}
use Rattle.field.proofs.BothKinds.{arithmetic}
use Rattle.field.proofs.Bounds.{one_below, add_below, sub_below, mul_below, power_below}
use Rattle.field.proofs.FieldOf.{size_pos}
use Rattle.field.proofs.Inverse.{inverse_below}
use Rattle.interpolation.specs.Inner.Points.{SymbolList}
use Rattle.interpolation.specs.Inner.Polynomials.{times_linear, carried, product_of, base_of, quotient_of, termwise, inverses_of}

-- a list with zeros after it, as far as one place more: the list and a 0; and what is left is zeros
pub one_more : (n m : ℕ) (cs : List ℕ) → length cs ≡ m → m < n → (take (m + 1) (padded n cs) ≡ cs ++ (0 ∷ [])) × (drop (m + 1) (padded n cs) ≡ zeros (n - (m + 1)))
unfolding padded
one_more n m cs e low =
    let next : zeros (n - m) ≡ 0 ∷ zeros (n - (m + 1)) = zeros_next n m low in
    let joined : padded n cs ≡ (cs ++ (0 ∷ [])) ++ zeros (n - (m + 1)) = rw (e, next) (sym (append_assoc cs (0 ∷ []) (zeros (n - (m + 1))))) in
    let long : length (cs ++ (0 ∷ [])) ≡ m + 1 = length-append cs (0 ∷ []) ∙ omega arith in
    (ap (take (m + 1)) joined ∙ take_at (cs ++ (0 ∷ [])) (zeros (n - (m + 1))) (m + 1) long, ap (drop (m + 1)) joined ∙ drop_at (cs ++ (0 ∷ [])) (zeros (n - (m + 1))) (m + 1) long)

-- the polynomial 1, with zeros after it
pub one_padded : set (zeros 256) 0 1 ≡ padded 256 (1 ∷ [])
unfolding zeros padded
one_padded = refl

module _ (p : ℕ) where
  -- the same in place
  pub carried_next : (a c : ℕ) (qs : List ℕ) (i : ℕ) → i < length qs → carried p a c (drop i qs) ≡ sub p c (mul p a (get_or qs i 0)) ∷ carried p a (get_or qs i 0) (drop (i + 1) qs)
  unfolding carried
  carried_next a c qs i h = ap (carried p a c) (drop_next qs i 0 h)

  pub carried_end : (a c : ℕ) (qs : List ℕ) (i : ℕ) → length qs ≤ i → carried p a c (drop i qs) ≡ []
  unfolding carried
  carried_end a c qs i h = ap (carried p a c) (drop_of_length-le qs h)

  nothing_taken : is_field p ≡ true → (c : ℕ) → c < size_of p → sub p c 0 ≡ c
  nothing_taken v c lc = sym ((arithmetic p v).add-zero (sub p c 0) ((arithmetic p v).sub_below c 0 lc (size_pos p v))) ∙ (arithmetic p v).sub_add c 0 lc (size_pos p v)

  -- with a 0 for the last coefficient it is (x − a)·q(x)
  pub carried_zero : is_field p ≡ true → (a c : ℕ) (qs : List ℕ) → a < size_of p → c < size_of p → all_below (size_of p) qs ≡ true → carried p a c (qs ++ (0 ∷ [])) ≡ times_linear p a c qs
  unfolding carried times_linear
  carried_zero v a c [] la lc b = ap (λ (x : ℕ). x ∷ []) (ap (sub p c) (mul-zero (arithmetic p v) a la) ∙ nothing_taken v c lc)
  carried_zero v a c (q ∷ qs) la lc b = let (lq, rest) = below_cons (size_of p) q qs b in ap (λ (l : List ℕ). sub p c (mul p a q) ∷ l) (carried_zero v a q qs la lq rest)

  pub length_times_linear : (a c : ℕ) (qs : List ℕ) → length (times_linear p a c qs) ≡ suc (length qs)
  unfolding times_linear
  length_times_linear a c [] = refl
  length_times_linear a c (q ∷ qs) = ap suc (length_times_linear a q qs)

  pub length_product_of : (xs : List ℕ) → length (product_of p xs) ≡ suc (length xs)
  unfolding product_of
  length_product_of [] = refl
  length_product_of (x ∷ xs) = length_times_linear x 0 (product_of p xs) ∙ ap suc (length_product_of xs)

  -- the base polynomial, one factor more
  pub base_of_next : (root m : ℕ) → base_of p root (m + 1) ≡ times_linear p (power p root m) 0 (base_of p root m)
  unfolding base_of
  base_of_next root m = ap (base_of p root) (add-one m)

  pub length_base_of : (root m : ℕ) → length (base_of p root m) ≡ suc m
  unfolding base_of
  length_base_of root zero = refl
  length_base_of root (suc m) = length_times_linear (power p root m) 0 (base_of p root m) ∙ ap suc (length_base_of root m)

  -- the quotient, from the highest coefficient down
  pub quotient_of_next : (a : ℕ) (cs : List ℕ) (i : ℕ) → 0 < i → i ≤ length cs → quotient_of p a (drop (i - 1) cs) ≡ add p (mul p a (get_or (quotient_of p a (drop i cs)) 0 0)) (get_or cs (i - 1) 0) ∷ quotient_of p a (drop i cs)
  unfolding quotient_of
  quotient_of_next a cs i pos h = ap (quotient_of p a) (drop_before cs i 0 pos h)

  -- its next coefficient
  pub quotient_first : (a : ℕ) (cs : List ℕ) (i : ℕ) → 0 < i → i ≤ length cs → get_or (quotient_of p a (drop (i - 1) cs)) 0 0 ≡ add p (mul p a (get_or (quotient_of p a (drop i cs)) 0 0)) (get_or cs (i - 1) 0)
  quotient_first a cs i pos h = ap (λ (l : List ℕ). get_or l 0 0) (quotient_of_next a cs i pos h)

  pub quotient_of_end : (a : ℕ) (cs : List ℕ) → quotient_of p a (drop (length cs) cs) ≡ []
  unfolding quotient_of
  quotient_of_end a cs = ap (quotient_of p a) (drop-length cs)

  -- the division, from the highest coefficient down: q is coefficient i of the quotient
  pub record Dividing (a : ℕ) (cs : List ℕ) (i q : ℕ) : Type 0 where
    pub some : i ≤ length cs
    pub first : q ≡ get_or (quotient_of p a (drop i cs)) 0 0

  pub dividing_start : (a : ℕ) (cs : List ℕ) → Dividing a cs (length cs) 0
  dividing_start a cs = record { some = omega arith; first = sym (ap (λ (l : List ℕ). get_or l 0 0) (quotient_of_end a cs)) }

  pub dividing_next : {a : ℕ} {cs : List ℕ} {i q r : ℕ} → Dividing a cs i q → 0 < i → r ≡ add p (mul p a q) (get_or cs (i - 1) 0) → Dividing a cs (i - 1) r
  dividing_next {a} {cs} {i} d pos e = record { some = omega (arith, d.some); first = e ∙ rw d.first (sym (quotient_first a cs i pos d.some)) }

  pub length_quotient_of : (a : ℕ) (cs : List ℕ) → length (quotient_of p a cs) ≡ length cs
  unfolding quotient_of
  length_quotient_of a [] = refl
  length_quotient_of a (c ∷ cs) = ap suc (length_quotient_of a cs)

  pub length_termwise : (cs ds : List ℕ) → length ds ≡ length cs → length (termwise p cs ds) ≡ length cs
  unfolding termwise
  length_termwise [] ds h = refl
  length_termwise (c ∷ cs) [] h = absurd (omega arith)
  length_termwise (c ∷ cs) (d ∷ ds) h = ap suc (length_termwise cs ds (omega arith))

  pub get_or_termwise : (cs ds : List ℕ) (i : ℕ) → i < length cs → i < length ds → get_or (termwise p cs ds) i 0 ≡ mul p (get_or cs i 0) (get_or ds i 0)
  unfolding termwise
  get_or_termwise [] ds i h k = absurd (omega arith)
  get_or_termwise (c ∷ cs) [] i h k = absurd (omega arith)
  get_or_termwise (c ∷ cs) (d ∷ ds) zero h k = refl
  get_or_termwise (c ∷ cs) (d ∷ ds) (suc i) h k = get_or_termwise cs ds i (omega arith) (omega arith)

  -- the products by index
  pub termwise_from : (cs ds : List ℕ) → length ds ≡ length cs → from (λ j. mul p (get_or cs j 0) (get_or ds j 0)) 0 (length cs) ≡ termwise p cs ds
  termwise_from cs ds h =
      from_ext _ (λ j. get_or (termwise p cs ds) j 0) 0 (length cs) (λ j low high. sym (get_or_termwise cs ds j (omega arith) (omega arith)))
      ∙ from_self (termwise p cs ds) (length cs) (length_termwise cs ds h)

  -- inverses
  pub length_inverses_of : (cs : List ℕ) → length (inverses_of p cs) ≡ length cs
  unfolding inverses_of
  length_inverses_of cs = length-map cs (inverse p)

  module _ (v : is_field p ≡ true) where
    abbrev Below : List ℕ → Type 0
    Below xs = all_below (size_of p) xs ≡ true

    pub times_linear_below : (a c : ℕ) (qs : List ℕ) → a < size_of p → c < size_of p → Below qs → Below (times_linear p a c qs)
    unfolding times_linear all_below
    times_linear_below a c [] la lc h = cons_below (size_of p) c [] lc refl
    times_linear_below a c (q ∷ qs) la lc h =
        let b = below_cons (size_of p) q qs h in
        cons_below (size_of p) (sub p c (mul p a q)) (times_linear p a q qs) (sub_below p v lc (mul_below p v la b.0)) (times_linear_below a q qs la b.0 b.1)

    one_list : Below (1 ∷ [])
    unfolding all_below
    one_list = cons_below (size_of p) 1 [] (one_below p v) refl

    pub product_of_below : (xs : List ℕ) → Below xs → Below (product_of p xs)
    unfolding product_of
    product_of_below [] h = one_list
    product_of_below (x ∷ xs) h =
        let b = below_cons (size_of p) x xs h in
        times_linear_below x 0 (product_of p xs) b.0 (size_pos p v) (product_of_below xs b.1)

    pub base_of_below : (root m : ℕ) → root < size_of p → Below (base_of p root m)
    unfolding base_of
    base_of_below root zero l = one_list
    base_of_below root (suc m) l = times_linear_below (power p root m) 0 (base_of p root m) (power_below p v m l) (size_pos p v) (base_of_below root m l)

    pub quotient_of_below : (a : ℕ) (cs : List ℕ) → a < size_of p → Below cs → Below (quotient_of p a cs)
    unfolding quotient_of
    quotient_of_below a [] la h = h
    quotient_of_below a (c ∷ cs) la h =
        let b = below_cons (size_of p) c cs h in
        let rest = quotient_of_below a cs la b.1 in
        cons_below (size_of p) (add p (mul p a (get_or (quotient_of p a cs) 0 0)) c) (quotient_of p a cs) (add_below p v (mul_below p v la (below_get_or (size_of p) (quotient_of p a cs) (size_pos p v) rest 0)) b.0) rest

    -- each of its coefficients is a symbol while it is made
    pub dividing_below : {a : ℕ} {cs : List ℕ} {i q : ℕ} → Dividing a cs i q → a < size_of p → Below cs → q < size_of p
    dividing_below {a} {cs} {i} d la h = rw d.first (below_get_or (size_of p) _ (size_pos p v) (quotient_of_below a (drop i cs) la (below_drop (size_of p) i cs h)) 0)

    pub termwise_below : (cs ds : List ℕ) → Below cs → Below ds → Below (termwise p cs ds)
    unfolding termwise
    termwise_below [] ds h k = h
    termwise_below (c ∷ cs) [] h k = k
    termwise_below (c ∷ cs) (d ∷ ds) h k =
        let a = below_cons (size_of p) c cs h in
        let b = below_cons (size_of p) d ds k in
        cons_below (size_of p) (mul p c d) (termwise p cs ds) (mul_below p v a.0 b.0) (termwise_below cs ds a.1 b.1)

    pub inverses_of_below : (cs : List ℕ) → Below cs → Below (inverses_of p cs)
    unfolding inverses_of
    inverses_of_below [] h = h
    inverses_of_below (c ∷ cs) h =
        let a = below_cons (size_of p) c cs h in
        cons_below (size_of p) (inverse p c) (inverses_of p cs) (inverse_below p v a.0) (inverses_of_below cs a.1)

    pub quotient_of_symbols : (a : ℕ) {cs : List ℕ} → SymbolList p cs → a < size_of p → SymbolList p (quotient_of p a cs)
    quotient_of_symbols a {cs} s low = record { below = quotient_of_below a cs low s.below; short = omega (arith, length_quotient_of a cs, s.short) }

-- a polynomial of m coefficients in an array, and one factor more in place
pub record Grows (p a m : ℕ) (cs out : List ℕ) : Type 0 where
  pub room : m + 1 ≤ 256
  pub long : length out ≡ 256
  pub part_long : length (take (m + 1) out) ≡ m + 1
  pub symbols : all_below (size_of p) (take (m + 1) out) ≡ true
  pub whole : (new : List ℕ) → new ≡ carried p a 0 (take (m + 1) out) → new ++ drop (m + 1) out ≡ padded 256 (times_linear p a 0 cs)

pub grows : (p : ℕ) (v : is_field p ≡ true) (a m : ℕ) (cs out : List ℕ) → out ≡ padded 256 cs → length cs ≡ m → m < 256 → all_below (size_of p) cs ≡ true → a < size_of p → Grows p a m cs out
unfolding padded all_below
grows p v a m cs out e size low below la =
    let (front, rest) = one_more 256 m cs size low in
    let grown : length (times_linear p a 0 cs) ≡ m + 1 = omega (arith, length_times_linear p a 0 cs) in
    rw e
    record {
      room = omega arith;
      long = length_padded 256 cs (omega arith);
      part_long = ap length front ∙ length-append cs (0 ∷ []) ∙ omega arith;
      symbols = rw front (below_append (size_of p) cs (0 ∷ []) below (cons_below (size_of p) 0 [] (size_pos p v) refl));
      whole = λ new is. rw (is, front, rest, carried_zero p v a 0 cs la (size_pos p v) below, grown);
    }
