-- The sums from each place of the powers root^T(x) are the spectrum, but for powers that are taken out before and after.
use mathlib.Core.Path.{◌≡◌, sym, ap, ap₂, ◌∙◌}
use mathlib.Core.Bool.{true}
use mathlib.Core.List.{List}
use Prim.Native.Nat.{ℕ, zero, suc, ◌+◌, ◌-◌, ◌*◌, ◌%◌, ◌≤◌, ◌<◌}
use native.Mathlib.Nat as Nat
use native.Mathlib.Omega.{arith}
use lib.ListN.{length, get_or, drop, length-drop}
use lib.Seq.{get_or-drop}
use Rattle.lists.specs.Rows.{from, range}
use Rattle.lists.specs.Numbers.{all_below}
use Rattle.lists.proofs.Places.{length_range}
use Rattle.lists.proofs.Rows.{length_from, from_ext}
use Rattle.algebra.specs.Field.{Field}
use Rattle.algebra.specs.Powers.{pow, Order}
use Rattle.algebra.proofs.Ring.{mul_left_comm, one-mul}
use Rattle.algebra.proofs.Sums.{sum, sum_agree, sum_scale}
use Rattle.algebra.proofs.Combinations.{comb_sum}
use Rattle.algebra.proofs.Powers.{pow_add, pow_mod}
use Rattle.field.specs.Fields.{mul}
use Rattle.field.specs.Inner.Sums.{dot}
use Rattle.field.specs.Symbols.{Symbol}
use Rattle.field.proofs.FieldOf.{size_pos, number_pow}
use Rattle.field.proofs.Symbols.{get_or_numbers}
use Rattle.generator.specs.declared.Header.{Header}
use Rattle.generator.specs.Records.{modulus_of, size, Sound}
use Rattle.generator.specs.Shifts.{negative}
use Rattle.generator.specs.Codewords.{check_from}
use Rattle.generator.proofs.Sound.{field_for, root_for, root_order}
use Rattle.generator.proofs.Bridge.{check_from_is}
use Rattle.generator.proofs.Recovery.{lifted, lifted_numbers, length_lifted}
use Rattle.interpolation.proofs.Bridge.{dot_is}
use Rattle.sliding_sums.specs.Inner.Windows.{window_sums}
use Rattle.spectrum.specs.Inner.Spectrum.{spectrum_of, triangle, chirp_at, unchirped_at, unchirped}
use Rattle.spectrum.proofs.Arrays.{value_at}

-- T(t + j) = T(t) + T(j) + j·t
pub triangle_sum : (t j : ℕ) → triangle (t + j) ≡ triangle t + triangle j + j * t
unfolding triangle
triangle_sum t zero = rw (Nat.add-zero t) (omega (arith, Nat.zero-mul t))
triangle_sum t (suc j) = rw (Nat.add-suc t j) (omega (arith, triangle_sum t j, Nat.suc-mul j t))

module _ (F : Field) where
  infixl 80 ◌⊗◌
  open F use {Carrier, 0f, 1f, mul as ◌⊗◌}
  open F use {mul_assoc, mul_comm, mul-one}

  module _ (a : Carrier) (n : ℕ) (o : Order F a n) where
    -- root^T(x), and 1 over it
    abbrev chirp : ℕ → Carrier
    chirp x = pow F a (triangle x % n)

    abbrev over : ℕ → Carrier
    over x = pow F a (negative n (triangle x % n))

    over_chirp : (x : ℕ) → over x ⊗ chirp x ≡ 1f
    unfolding negative
    over_chirp x =
        let e = triangle x % n in
        let low : e < n = Nat.mod-lt (triangle x) o.positive in
        let whole : n - e + e ≡ n = omega arith in
        ap (λ y. y ⊗ chirp x) (pow_mod F a n o (n - e)) ∙ sym (pow_add F a (n - e) e) ∙ ap (pow F a) whole ∙ o.returns

    chirp_sum : (t j : ℕ) → chirp (t + j) ≡ chirp t ⊗ (chirp j ⊗ pow F a (j * t))
    chirp_sum t j =
        pow_mod F a n o (triangle (t + j))
        ∙ ap (pow F a) (triangle_sum t j)
        ∙ pow_add F a (triangle t + triangle j) (j * t)
        ∙ ap (λ y. y ⊗ pow F a (j * t)) (pow_add F a (triangle t) (triangle j) ∙ sym (ap₂ ◌⊗◌ (pow_mod F a n o (triangle t)) (pow_mod F a n o (triangle j))))
        ∙ mul_assoc (chirp t) (chirp j) (pow F a (j * t))

    -- the powers taken out of a term
    term_out : (w u c d p : Carrier) → u ⊗ d ≡ 1f → w ⊗ u ⊗ (c ⊗ (d ⊗ p)) ≡ c ⊗ (w ⊗ p)
    term_out w u c d p one =
        let regroup : w ⊗ u ⊗ (c ⊗ (d ⊗ p)) ≡ u ⊗ d ⊗ (c ⊗ (w ⊗ p)) = simp (mul_assoc, mul_left_comm F) in
        regroup ∙ ap (λ y. y ⊗ (c ⊗ (w ⊗ p))) one ∙ one-mul F (c ⊗ (w ⊗ p))

    -- .. and out of the sum
    pub chirped : (m : ℕ) (w : ℕ → Carrier) (t : ℕ) → sum F m (λ j. w j ⊗ over j ⊗ chirp (t + j)) ⊗ over t ≡ sum F m (λ j. w j ⊗ pow F a (j * t))
    chirped m w t =
        ap (λ y. y ⊗ over t)
        (sum_agree F m (λ j. w j ⊗ over j ⊗ chirp (t + j)) (λ j. chirp t ⊗ (w j ⊗ pow F a (j * t)))
        (λ j l. ap (λ y. w j ⊗ over j ⊗ y) (chirp_sum t j) ∙ term_out (w j) (over j) (chirp t) (chirp j) (pow F a (j * t)) (over_chirp j))
        ∙ sum_scale F m (chirp t) (λ j. w j ⊗ pow F a (j * t)))
        ∙ mul_comm (chirp t ⊗ sum F m (λ j. w j ⊗ pow F a (j * t))) (over t)
        ∙ sym (mul_assoc (over t) (chirp t) (sum F m (λ j. w j ⊗ pow F a (j * t))))
        ∙ ap (λ y. y ⊗ sum F m (λ j. w j ⊗ pow F a (j * t))) (over_chirp t)
        ∙ one-mul F (sum F m (λ j. w j ⊗ pow F a (j * t)))

module _ (h : Header) (s : Sound h) (ws : List ℕ) (long : length ws ≡ h.n) (below : all_below (size h) ws ≡ true) (size_of_row : ℕ) (wide : h.n + h.n ≤ size_of_row) where
  abbrev F : Field
  F = field_for h s

  abbrev a : Symbol (size h)
  a = root_for h s

  -- the symbols of the lane
  abbrev symbol : ℕ → Symbol (size h)
  symbol j = get_or (lifted h s ws) j F.0f

  symbol_is : (j : ℕ) → get_or ws j 0 ≡ (symbol j).0
  symbol_is j = ap (λ (l : List ℕ). get_or l j 0) (sym (lifted_numbers h s ws below)) ∙ get_or_numbers (size h) (size_pos (modulus_of h) s.field) (lifted h s ws) j

  -- .. each over its power
  unchirped_is : (j : ℕ) → unchirped_at h ws j ≡ (F.mul (symbol j) (over F a h.n (root_order h s) j)).0
  unfolding unchirped_at
  unchirped_is j = ap₂ (mul (modulus_of h)) (symbol_is j) (sym (number_pow (modulus_of h) s.field a (negative h.n (triangle j % h.n))))

  -- the sum from place t on
  window_is : (t : ℕ) → t < h.n → dot (modulus_of h) (unchirped h ws) (drop t (from (chirp_at h) 0 size_of_row)) ≡ (sum F h.n (λ j. F.mul (F.mul (symbol j) (over F a h.n (root_order h s) j)) (chirp F a h.n (root_order h s) (t + j)))).0
  unfolding unchirped chirp_at
  window_is t inside =
      let o = root_order h s in
      let size_is : length (unchirped h ws) ≡ h.n = length_from (unchirped_at h ws) 0 (length ws) ∙ long in
      dot_is (modulus_of h) s.field (unchirped h ws) (drop t (from (chirp_at h) 0 size_of_row)) (λ j. F.mul (symbol j) (over F a h.n o j)) (λ j. chirp F a h.n o (t + j))
      (omega (arith, size_is, length-drop t (from (chirp_at h) 0 size_of_row), length_from (chirp_at h) 0 size_of_row))
      (λ j l. value_at (unchirped_at h ws) (length ws) j (omega arith) ∙ unchirped_is j)
      (λ j l. get_or-drop t (from (chirp_at h) 0 size_of_row) j 0 ∙ value_at (chirp_at h) size_of_row (t + j) (omega arith) ∙ sym (number_pow (modulus_of h) s.field a (triangle (t + j) % h.n)))
      ∙ ap (λ (m : ℕ). (sum F m (λ j. F.mul (F.mul (symbol j) (over F a h.n o j)) (chirp F a h.n o (t + j)))).0) size_is

  -- check sum e
  check_is : (e : ℕ) → check_from h e 0 ws ≡ (sum F h.n (λ j. F.mul (symbol j) (pow F a (j * e)))).0
  check_is e =
      ap (check_from h e 0) (sym (lifted_numbers h s ws below))
      ∙ check_from_is h s e 0 (lifted h s ws)
      ∙ ap (λ (y : Symbol (size h)). y.0)
      (comb_sum F (λ j. pow F a (j * e)) 0 (lifted h s ws) (range 0 (length (lifted h s ws))) (sym (length_range 0 (length (lifted h s ws))))
      ∙ ap (λ (m : ℕ). sum F m (λ j. F.mul (symbol j) (pow F a (get_or (range 0 (length (lifted h s ws))) j 0 * e)))) (length_range 0 (length (lifted h s ws)) ∙ length_lifted h s ws ∙ long)
      ∙ sum_agree F h.n (λ j. F.mul (symbol j) (pow F a (get_or (range 0 (length (lifted h s ws))) j 0 * e))) (λ j. F.mul (symbol j) (pow F a (j * e)))
      (λ j l. ap (λ (i : ℕ). F.mul (symbol j) (pow F a (i * e))) (value_at (λ x. x) (length (lifted h s ws)) j (omega (arith, length_lifted h s ws)))))

  -- the spectrum
  pub spectrum_is : unchirped h (window_sums (modulus_of h) (unchirped h ws) (from (chirp_at h) 0 size_of_row) h.n) ≡ spectrum_of h ws
  unfolding spectrum_of unchirped window_sums unchirped_at
  spectrum_is =
      let o = root_order h s in
      let p = modulus_of h in
      let sums = window_sums p (unchirped h ws) (from (chirp_at h) 0 size_of_row) h.n in
      ap (from (unchirped_at h sums) 0) (length_from (λ t. dot p (unchirped h ws) (drop t (from (chirp_at h) 0 size_of_row))) 0 h.n)
      ∙ from_ext (unchirped_at h sums) (λ e. check_from h e 0 ws) 0 h.n
      (λ t low high.
      let inside : t < h.n = omega arith in
      ap₂ (mul p)
      (value_at (λ t. dot p (unchirped h ws) (drop t (from (chirp_at h) 0 size_of_row))) h.n t inside ∙ window_is t inside)
      (sym (number_pow p s.field a (negative h.n (triangle t % h.n))))
      ∙ ap (λ (y : Symbol (size h)). y.0) (chirped F a h.n o h.n symbol t)
      ∙ sym (check_is t))
