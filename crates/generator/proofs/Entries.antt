-- Where the entries of the generator are zero, and that each is read from the base word by its row's shift.
use mathlib.Core.Path.{◌≡◌, sym, ap, ◌∙◌}
use mathlib.Core.Bool.{not}
use Prim.Native.Nat.{ℕ, ◌+◌, ◌-◌, ◌%◌, ◌≤◌, ◌<◌}
use native.Mathlib.Omega.{arith}
use native.Mathlib.Nat.{mod-lt, mod-add-mod, mod-eq_of_lt, add-mod_left, zero-add, add-zero}
use borrow.Author.Tests.{ltb-true, ltb-false, eq-eqb, ne_eqb}
use lib.Dec.{eqb, ltb}
use lib.ListN.{get_or}
use Rattle.lists.proofs.Cases.{by_test}
use Rattle.lists.proofs.Rows.{get_or_from}
use Rattle.algebra.specs.Powers.{pow}
use Rattle.algebra.proofs.Poly.{eval}
use Rattle.algebra.proofs.BasePolynomial.{base, base_root}
use Rattle.field.specs.Fields.{power}
use Rattle.field.specs.Symbols.{Symbol}
use Rattle.field.proofs.Symbols.{symbol_path}
use Rattle.generator.specs.declared.Header.{Header}
use Rattle.generator.specs.Records.{modulus_of, size, distance, Sound}
use Rattle.generator.specs.Shifts.{shifts}
use Rattle.generator.specs.Generator.{base_at, entry_at, entry, base_word}
use Rattle.generator.proofs.Sound.{field_for, root_for, root_order, offset, weight_fits}
use Rattle.generator.proofs.Bridge.{entry_at_is}

-- an exponent moved by n − d, modulo n, from below d ..
moved_low : (n d x : ℕ) → d ≤ n → x % n < d → (x + (n - d)) % n ≡ x % n + (n - d)
moved_low n d x fits low = sym (mod-add-mod x n (n - d)) ∙ mod-eq_of_lt (omega arith)

-- .. and from d on
moved_high : (n d x : ℕ) → 0 < n → d ≤ n → d ≤ x % n → (x + (n - d)) % n ≡ x % n - d
moved_high n d x pos fits high =
    let less = mod-lt x pos in
    let round : x % n + (n - d) ≡ n + (x % n - d) = omega arith in
    sym (mod-add-mod x n (n - d)) ∙ ap (λ (y : ℕ). y % n) round ∙ add-mod_left n (x % n - d) ∙ mod-eq_of_lt (omega arith)

module _ (h : Header) (s : Sound h) where
  -- an entry of a row with the shift t, as a symbol
  entry_symbol : ℕ → ℕ → Symbol (size h)
  entry_symbol t j = eval (field_for h s) (base (field_for h s) (root_for h s) (h.k - 1)) (pow (field_for h s) (root_for h s) (j + t + (h.k - 1)))

  -- (j + t) modulo n below d: the polynomial is not zero there
  entry_inside : (t j : ℕ) → (j + t) % h.n < distance h → entry_at h t j ≡ 0 → ⊥
  unfolding entry_symbol
  entry_inside t j low e =
      let moved : (j + t + (h.k - 1)) % h.n ≡ (j + t) % h.n + (h.k - 1) = rw (offset h s) at (moved_low h.n (distance h) (j + t) (weight_fits h s) low) in
      let z : entry_symbol t j ≡ (field_for h s).0f = symbol_path (size h) (sym (entry_at_is h s t j) ∙ e) in
      let root = (base_root (field_for h s) (root_for h s) h.n (root_order h s) (h.k - 1) (omega (arith, s.fits)) (j + t + (h.k - 1))).0 z in
      omega arith

  -- and zero elsewhere
  entry_outside : (t j : ℕ) → distance h ≤ (j + t) % h.n → entry_at h t j ≡ 0
  unfolding entry_symbol distance
  entry_outside t j high =
      let moved : (j + t + (h.k - 1)) % h.n ≡ (j + t) % h.n - distance h = rw (offset h s) at (moved_high h.n (distance h) (j + t) (omega (arith, s.two)) (weight_fits h s) high) in
      let less : (j + t) % h.n < h.n = mod-lt (j + t) (omega (arith, s.two)) in
      entry_at_is h s t j
      ∙ ap (λ (x : Symbol (size h)). x.0) ((base_root (field_for h s) (root_for h s) h.n (root_order h s) (h.k - 1) (omega (arith, s.fits)) (j + t + (h.k - 1))).1 (omega (arith, s.fits, s.some)))

  -- the entry at node j of a row with the shift t is zero just where (j + t) modulo n is not below d
  pub entry_at_zero : (t j : ℕ) → eqb (entry_at h t j) 0 ≡ not (ltb ((j + t) % h.n) (distance h))
  entry_at_zero t j =
      by_test (ltb ((j + t) % h.n) (distance h))
      (λ e. ne_eqb (entry_at h t j) 0 (entry_inside t j (ltb-true _ _ e)) ∙ ap not (sym e))
      (λ e. eq-eqb (entry_at h t j) 0 (entry_outside t j (ltb-false _ _ e)) ∙ ap not (sym e))

  -- entry (r, j) likewise, by the shift of row r
  pub row_weight : (r j : ℕ) → eqb (entry h r j) 0 ≡ not (ltb ((j + get_or (shifts h) r 0) % h.n) (distance h))
  unfolding entry
  row_weight r j = entry_at_zero (get_or (shifts h) r 0) j

  -- a row with the shift t at j is the base word at (j + t) modulo n
  pub entry_at_base : (t j : ℕ) → entry_at h t j ≡ get_or (base_word h) ((j + t) % h.n) 0
  unfolding base_word entry_at
  entry_at_base t j =
      let less : (j + t) % h.n < h.n = mod-lt (j + t) (omega (arith, s.two)) in
      let same : ((j + t) % h.n + 0 + (h.n - distance h)) % h.n ≡ (j + t + (h.n - distance h)) % h.n = rw add-zero (mod-add-mod (j + t) h.n (h.n - distance h)) in
      ap (λ (e : ℕ). base_at h (power (modulus_of h) h.root e)) (sym same)
      ∙ sym (get_or_from (entry_at h 0) 0 h.n ((j + t) % h.n) 0 less ∙ ap (entry_at h 0) (zero-add ((j + t) % h.n)))

  pub rows_base : (r j : ℕ) → entry h r j ≡ get_or (base_word h) ((j + get_or (shifts h) r 0) % h.n) 0
  unfolding entry
  rows_base r j = entry_at_base (get_or (shifts h) r 0) j
