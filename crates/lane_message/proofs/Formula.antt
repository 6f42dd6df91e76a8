-- A symbol of a message from the check sums of its encoding.
use mathlib.Core.Path.{◌≡◌, refl, sym, ap, ap₂, ◌∙◌}
use mathlib.Core.Bool.{true}
use mathlib.Core.List.{List, map}
use Prim.Native.Nat.{ℕ, zero, suc, ◌-◌, ◌<◌}
use native.Mathlib.Nat.{zero-add}
use native.Mathlib.Omega.{arith}
use lib.ListN.{length, get_or, length-map}
use Rattle.lists.specs.Rows.{range}
use Rattle.lists.specs.Numbers.{all_below}
use Rattle.lists.proofs.Places.{length_range}
use Rattle.lists.proofs.Rows.{length_from, get_or_from}
use Rattle.algebra.specs.Powers.{pow}
use Rattle.algebra.proofs.Sums.{sum}
use Rattle.algebra.proofs.Poly.{eval}
use Rattle.algebra.proofs.LagrangeBasis.{others}
use Rattle.algebra.proofs.BasePolynomial.{base}
use Rattle.algebra.proofs.ShiftedBasis.{shifted, size_base, size_shifted}
use Rattle.algebra.proofs.Nodes.{node}
use Rattle.algebra.proofs.Parity.{check}
use Rattle.field.specs.Fields.{is_field, add, mul, inverse}
use Rattle.field.specs.Inner.Sums.{dot}
use Rattle.field.specs.Symbols.{Symbol, numbers}
use Rattle.field.proofs.FieldOf.{field_of, size_pos}
use Rattle.field.proofs.Symbols.{get_or_numbers}
use Rattle.generator.specs.declared.Header.{Header}
use Rattle.generator.specs.Records.{modulus_of, size, Sound}
use Rattle.generator.specs.Shifts.{shifts}
use Rattle.generator.specs.Codewords.{encoding, check_from, is_word}
use Rattle.generator.specs.Messages.{message_of}
use Rattle.generator.specs.Claims.{is_message}
use Rattle.generator.proofs.Sound.{field_for, root_for}
use Rattle.generator.proofs.Bridge.{encoding_map, check_from_is}
use Rattle.generator.proofs.Messages.{word_message}
use Rattle.generator.proofs.Recovery.{the_code, lifted, lifted_numbers, length_lifted, message_size, message_below, held}
use Rattle.interpolation.specs.Inner.Lagrange.{scale_at}
use Rattle.interpolation.proofs.Bridge.{scale_at_is, base_of_is, dot_is}
use Rattle.node_weights.specs.Inner.Rows.{row_points, base_inverses, row_terms}
use Rattle.node_weights.proofs.InverseRows.{terms_of, length_terms, term_is}
use Rattle.node_weights.proofs.Recovering.{row_points_lem}
use Rattle.spectrum.proofs.Inversion.{times}
use Rattle.spectrum.proofs.Symbols.{symbol_sum}
use Rattle.lane_message.specs.Inner.Symbols.{ones_of, coefficient_sums, symbol_from}

-- n ones
ones_is : (p : ℕ) (v : is_field p ≡ true) (n : ℕ) → ones_of p n ≡ (times (field_of p v) n).0
unfolding ones_of sum
ones_is p v zero = refl
ones_is p v (suc n) = ap (add p 1) (ones_is p v n)

module _ (h : Header) (s : Sound h) where
  abbrev bs : List (Symbol (size h))
  bs = shifted (field_for h s) (root_for h s) (pow (field_for h s) (root_for h s) (h.k - 1)) (shifts h)

  abbrev cs : List (Symbol (size h))
  cs = base (field_for h s) (root_for h s) (h.k - 1)

  size_bs : length bs ≡ h.k
  size_bs = size_shifted (field_for h s) (the_code h s) (pow (field_for h s) (root_for h s) (h.k - 1))

  size_cs : length cs ≡ h.k
  size_cs = size_base (field_for h s) (the_code h s)

  module _ (r : ℕ) (row : r < h.k) where
    -- the terms of the row, in the terms of the algebra
    terms_are : row_terms h r ≡ terms_of (modulus_of h) (numbers (size h) bs) (numbers (size h) cs) r
    unfolding row_terms base_inverses
    terms_are = ap₂ (λ (x y : List ℕ). terms_of (modulus_of h) x y r) (row_points_lem h s) (base_of_is (modulus_of h) s.field (root_for h s) (h.k - 1))

    pub terms_size : length (row_terms h r) ≡ h.k
    terms_size = ap length terms_are ∙ length_terms (modulus_of h) s.field h.k bs cs bs size_bs size_cs size_bs r r row row

    -- its scale
    scale_is : scale_at (modulus_of h) (row_points h) r ≡ ((field_for h s).inv (eval (field_for h s) (others (field_for h s) bs (get_or bs r (field_for h s).0f)) (get_or bs r (field_for h s).0f))).0
    scale_is = ap (λ (l : List ℕ). scale_at (modulus_of h) l r) (row_points_lem h s) ∙ scale_at_is (modulus_of h) s.field bs r (omega (arith, size_bs))

    module _ (ms : List ℕ) (m : is_message h ms ≡ true) where
      abbrev word : List (Symbol (size h))
      word = map (node (field_for h s) (root_for h s) (h.k - 1) (h.k - 1) (shifts h) (lifted h s ms)) (range 0 h.n)

      many : length (lifted h s ms) ≡ h.k
      many = length_lifted h s ms ∙ message_size h ms m

      size_word : length word ≡ h.n
      size_word = length-map (range 0 h.n) (node (field_for h s) (root_for h s) (h.k - 1) (h.k - 1) (shifts h) (lifted h s ms)) ∙ length_range 0 h.n

      encoding_is : encoding h ms ≡ numbers (size h) word
      encoding_is =
          ap (encoding h) (sym (lifted_numbers h s ms (message_below h ms m)))
          ∙ encoding_map h s (numbers (size h) (lifted h s ms))
          ∙ held h s (lifted h s ms) (range 0 h.n) many

      -- check sum e
      sum_is : (e : ℕ) → check_from h e 0 (encoding h ms) ≡ (check (field_for h s) (root_for h s) e word (range 0 h.n)).0
      sum_is e =
          ap (check_from h e 0) encoding_is ∙ check_from_is h s e 0 word
          ∙ ap (λ (l : ℕ). (check (field_for h s) (root_for h s) e word (range 0 l)).0) size_word

      -- symbol r
      pub symbol_from_lem : get_or ms r 0 ≡ symbol_from h r (coefficient_sums h (encoding h ms))
      unfolding symbol_from coefficient_sums
      symbol_from_lem =
          let F = field_for h s in
          let a = root_for h s in
          let x = get_or bs r F.0f in
          let p = modulus_of h in
          let sums = coefficient_sums h (encoding h ms) in
          let term : ℕ → Symbol (size h) = λ c. F.mul (get_or (others F bs x) c F.0f) (F.inv (get_or cs c F.0f)) in
          let at : ℕ → Symbol (size h) = λ c. check F a (h.n - c) word (range 0 h.n) in
          let products : dot p (row_terms h r) sums ≡ (sum F h.k (λ c. F.mul (term c) (at c))).0 =
          dot_is p s.field (row_terms h r) sums term at (omega (arith, terms_size, length_from (λ c. check_from h (h.n - c) 0 (encoding h ms)) 0 h.k))
          (λ c l. ap (λ (t : List ℕ). get_or t c 0) terms_are ∙ term_is p s.field h.k bs cs bs size_bs size_cs size_bs r r row row c (omega (arith, terms_size)))
          (λ c l. rw zero-add at (get_or_from (λ c. check_from h (h.n - c) 0 (encoding h ms)) 0 h.k c 0 (omega (arith, terms_size))) ∙ sum_is (h.n - c))
          ∙ ap (λ (l : ℕ). (sum F l (λ c. F.mul (term c) (at c))).0) terms_size in
          ap (λ (l : List ℕ). get_or l r 0) (sym (lifted_numbers h s ms (message_below h ms m)))
          ∙ get_or_numbers (size h) (size_pos p s.field) (lifted h s ms) r
          ∙ ap (λ (y : Symbol (size h)). y.0) (symbol_sum F (the_code h s) (h.k - 1) (lifted h s ms) many r row)
          ∙ sym (ap₂ (mul p) scale_is (ap₂ (mul p) (ap (inverse p) (ones_is p s.field h.n)) products))

  -- of a word's message
  pub word_symbol : (ws : List ℕ) → length ws ≡ h.n → all_below (size h) ws ≡ true → is_word h ws ≡ true → (r : ℕ) → r < h.k → symbol_from h r (coefficient_sums h ws) ≡ get_or (message_of h ws) r 0
  word_symbol ws long below word r row =
      let (m, at) = word_message h s ws long below word in
      ap (λ (u : List ℕ). symbol_from h r (coefficient_sums h u)) (sym at) ∙ sym (symbol_from_lem r row (message_of h ws) m)
