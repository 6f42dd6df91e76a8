-- Powers of the root on numbers, and the factors of a node in the check sums.
use mathlib.Core.Path.{◌≡◌, sym, ap, ◌∙◌}
use Prim.Native.Nat.{ℕ, ◌+◌, ◌-◌, ◌*◌, ◌%◌, ◌<◌}
use native.Mathlib.Nat.{mul-one, mul-add, mod_self, mod-eq_of_lt, add_comm}
use native.Mathlib.Omega.{arith}
use Rattle.algebra.proofs.Powers.{pow_mod, pow_injective}
use Rattle.field.specs.Symbols.{Symbol}
use Rattle.field.specs.Fields.{mul, power}
use Rattle.field.proofs.FieldOf.{number_pow}
use Rattle.field.proofs.Powers.{power_add}
use Rattle.field.proofs.Symbols.{symbol_path}
use Rattle.generator.specs.declared.Header.{Header}
use Rattle.generator.specs.Records.{modulus_of, size, Sound}
use Rattle.generator.proofs.Sound.{field_for, root_for, root_order}
use Rattle.mends.proofs.Sums.{factor}

module _ (h : Header) (s : Sound h) where
  -- a power of the root
  abbrev pub root_power : ℕ → ℕ
  root_power e = power (modulus_of h) h.root e

  -- exponents count modulo n
  pub root_mod : (e : ℕ) → root_power (e % h.n) ≡ root_power e
  root_mod e =
      let a = root_for h s in
      let number = number_pow (modulus_of h) s.field a in
      sym (number (e % h.n)) ∙ ap (λ (y : Symbol (size h)). y.0) (pow_mod (field_for h s) a h.n (root_order h s) e) ∙ number e

  -- different exponents below n give different powers
  pub root_injective : (i j : ℕ) → i < h.n → j < h.n → root_power i ≡ root_power j → i ≡ j
  root_injective i j hi hj e =
      let a = root_for h s in
      let number = number_pow (modulus_of h) s.field a in
      pow_injective (field_for h s) a h.n (root_order h s) i j hi hj (symbol_path (size h) (number i ∙ e ∙ sym (number j)))

  -- root^j times root^(−j) is 1
  pub root_back : (j : ℕ) → j < h.n → mul (modulus_of h) (root_power j) (root_power ((h.n - j) % h.n)) ≡ 1
  unfolding power
  root_back j node =
      let whole : j + (h.n - j) ≡ h.n = omega arith in
      ap (mul (modulus_of h) (root_power j)) (root_mod (h.n - j))
      ∙ power_add (modulus_of h) s.field h.root j (h.n - j) s.root_below
      ∙ ap root_power whole
      ∙ sym (root_mod h.n)
      ∙ ap root_power (mod_self h.n)

  -- the factors of node j go up by root^j
  pub factor_one : (j : ℕ) → j < h.n → factor h s 1 j ≡ root_power j
  factor_one j node = ap root_power (ap (λ (x : ℕ). x % h.n) (mul-one j) ∙ mod-eq_of_lt node)

  pub factor_next : (e j : ℕ) → factor h s (e + 1) j ≡ mul (modulus_of h) (root_power j) (factor h s e j)
  factor_next e j =
      let more : j * (e + 1) ≡ j + j * e = mul-add j e 1 ∙ rw (mul-one j) (add_comm (j * e) j) in
      root_mod (j * (e + 1))
      ∙ ap root_power more
      ∙ sym (power_add (modulus_of h) s.field h.root j (j * e) s.root_below)
      ∙ ap (mul (modulus_of h) (root_power j)) (sym (root_mod (j * e)))
