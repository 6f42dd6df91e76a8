-- The base word: p(root·x) from p(x), its entries as values of p at the powers of the root, and where it ends in zeros.
use mathlib.Core.Path.{◌≡◌, sym, ap, ap₂, ◌∙◌}
use Prim.Native.Nat.{ℕ, suc, ◌+◌, ◌-◌, ◌%◌, ◌≤◌, ◌<◌}
use native.Mathlib.Nat.{mod-eq_of_lt, add-zero}
use native.Mathlib.Numerals.{add-one}
use native.Mathlib.Omega.{arith}
use borrow.Author.Tests.{eqb-true, le-ltb}
use Rattle.lists.specs.Rows.{from}
use Rattle.lists.specs.Padded.{padded}
use Rattle.lists.proofs.Fill.{padded_from}
use Rattle.algebra.specs.Powers.{pow}
use Rattle.algebra.proofs.Poly.{eval}
use Rattle.algebra.proofs.Powers.{pow_mod, order_nonzero}
use Rattle.algebra.proofs.BasePolynomial.{base}
use Rattle.algebra.proofs.BaseRecurrence.{base_next, pow_before, pow_apart}
use Rattle.field.specs.Fields.{sub, mul, power, inverse}
use Rattle.field.specs.Symbols.{Symbol}
use Rattle.field.proofs.Symbols.{symbol, symbol_path}
use Rattle.field.proofs.FieldOf.{number_sub, number_pow}
use Rattle.field.proofs.Powers.{power_next}
use Rattle.generator.specs.declared.Header.{Header}
use Rattle.generator.specs.Records.{modulus_of, size, distance, Sound}
use Rattle.generator.specs.Generator.{base_from, base_at, entry_at, base_word}
use Rattle.generator.proofs.Sound.{field_for, root_for, root_order, offset, weight_fits}
use Rattle.generator.proofs.Bridge.{base_from_is}
use Rattle.generator.proofs.Entries.{entry_at_zero}

-- one power more, where the exponent has a part that stays
pub power_turn : (p a x j m : ℕ) → x ≡ power p a (j + m) → mul p a x ≡ power p a (j + 1 + m)
power_turn p a x j m e =
    let moved : j + m + 1 ≡ j + 1 + m = omega arith in
    ap (mul p a) e ∙ sym (power_next p a (j + m)) ∙ ap (power p a) moved

-- one factor more
pub base_from_next : (i : ℕ) (h : Header) (x : ℕ) → base_from (i + 1) h x ≡ mul (modulus_of h) (sub (modulus_of h) x (power (modulus_of h) h.root i)) (base_from i h x)
unfolding base_from
base_from_next i h x = ap (λ (m : ℕ). base_from m h x) (add-one i)

module _ (h : Header) (s : Sound h) where
  -- p(x) as a symbol
  value : Symbol (size h) → Symbol (size h)
  value x = eval (field_for h s) (base (field_for h s) (root_for h s) (h.k - 1)) x

  base_at_is : (x : Symbol (size h)) → base_at h x.0 ≡ (value x).0
  unfolding base_at value
  base_at_is x = base_from_is h s (h.k - 1) x

  -- n + k − 2 is k − 2 modulo n, and a number for k = 1 too
  round : suc (h.n + h.k - 2) ≡ h.n + (h.k - 1)
  round = omega (arith, s.two, s.some)

  -- p(root·x) = p(x)·(root^(k−1)·x − root^(k−2)) / (x − root^(k−2))
  pub base_at_next : (x : ℕ) → x < size h
      → let p = modulus_of h in
      let scale = power p h.root (h.k - 1) in
      let pole = power p h.root (h.n + h.k - 2) in
      (x ≡ pole → ⊥) → base_at h (mul p h.root x) ≡ mul p (mul p (base_at h x) (sub p (mul p scale x) pole)) (inverse p (sub p x pole))
  unfolding value
  base_at_next x low apart =
      let F = field_for h s in
      let a = root_for h s in
      let p = modulus_of h in
      let X = symbol (size h) x low in
      let S = pow F a (h.k - 1) in
      let P = pow F a (h.n + h.k - 2) in
      let scale = number_pow p s.field a (h.k - 1) in
      let pole = number_pow p s.field a (h.n + h.k - 2) in
      base_at_is (F.mul a X)
      ∙ ap (λ (y : Symbol (size h)). y.0) (base_next F a X P (h.k - 1) (order_nonzero F a h.n (root_order h s)) (pow_before F a h.n (root_order h s) (h.k - 1) (h.n + h.k - 2) round) (λ q. apart (ap (λ (y : Symbol (size h)). y.0) q ∙ pole)))
      ∙ ap₂ (λ (u v : ℕ). mul p (mul p (value X).0 u) (inverse p v)) (number_sub p s.field (F.mul S X) P) (number_sub p s.field X P)
      ∙ cc (base_at_is X, scale, pole)

  -- no divisor is zero: root^(j + k − 1) is not root^(k−2) while j + 1 is below n
  pub pole_apart : (j : ℕ) → j + 1 < h.n → power (modulus_of h) h.root (j + (h.k - 1)) ≡ power (modulus_of h) h.root (h.n + h.k - 2) → ⊥
  pole_apart j l q =
      let a = root_for h s in
      let number = number_pow (modulus_of h) s.field a in
      pow_apart (field_for h s) a h.n (root_order h s) (h.k - 1) (h.n + h.k - 2) j round l
      (symbol_path (size h) (number (j + (h.k - 1)) ∙ q ∙ sym (number (h.n + h.k - 2))))

  -- entry j of the base word is p(root^(j + k − 1))
  pub entry_is : (j : ℕ) → entry_at h 0 j ≡ base_at h (power (modulus_of h) h.root (j + (h.k - 1)))
  unfolding entry_at
  entry_is j =
      let a = root_for h s in
      let number = number_pow (modulus_of h) s.field a in
      let e = j + 0 + (h.n - distance h) in
      let same : e ≡ j + (h.k - 1) = rw (add-zero, offset h s) in
      ap (base_at h)
      (sym (number (e % h.n)) ∙ ap (λ (y : Symbol (size h)). y.0) (pow_mod (field_for h s) a h.n (root_order h s) e) ∙ number e ∙ ap (power (modulus_of h) h.root) same)

  -- from d on the base word is 0
  entry_end : (j : ℕ) → distance h ≤ j → j < h.n → entry_at h 0 j ≡ 0
  entry_end j high low =
      let far : distance h ≤ (j + 0) % h.n = rw (add-zero, mod-eq_of_lt low) high in
      eqb-true (entry_at h 0 j) 0 (rw (le-ltb ((j + 0) % h.n) (distance h) far) at (entry_at_zero h s 0 j))

  -- so its first d entries, padded, are the word, padded
  pub base_padded : (length : ℕ) → h.n ≤ length → padded length (base_word h) ≡ padded length (from (entry_at h 0) 0 (distance h))
  unfolding base_word
  base_padded length fits = padded_from length (entry_at h 0) (distance h) h.n (weight_fits h s) fits entry_end
