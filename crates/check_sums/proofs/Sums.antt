-- The powers of the root in a table, and where the factors of a check sum stand in it.
use mathlib.Core.Path.{◌≡◌, sym, ap, ◌∙◌}
use Prim.Native.Nat.{ℕ, ◌+◌, ◌*◌, ◌%◌, ◌<◌}
use native.Mathlib.Nat.{zero-add, add_comm, add-mul, one-mul, mod-add-mod}
use native.Mathlib.Omega.{arith}
use lib.ListN.{length, get_or}
use Rattle.lists.specs.Padded.{padded}
use Rattle.lists.proofs.Padding.{get_or_padded, in_padded}
use Rattle.lists.proofs.Rows.{length_from, get_or_from}
use Rattle.field.specs.Fields.{power}
use Rattle.generator.specs.declared.Header.{Header}
use Rattle.generator.specs.Records.{modulus_of}
use Rattle.check_sums.specs.Inner.Powers.{powers_of}

-- the place of the next node's factor
pub next_factor : (j e n : ℕ) → (j * e % n + e % n) % n ≡ (j + 1) * e % n
next_factor j e n =
    let more : j * e + e ≡ (j + 1) * e = sym (add-mul j 1 e ∙ rw (one-mul e)) in
    mod-add-mod (j * e) n (e % n) ∙ ap (λ (x : ℕ). x % n) (add_comm (j * e) (e % n)) ∙ mod-add-mod e n (j * e) ∙ ap (λ (x : ℕ). x % n) (add_comm e (j * e) ∙ more)

pub length_powers : (h : Header) → length (powers_of h) ≡ h.n
unfolding powers_of
length_powers h = length_from (power (modulus_of h) h.root) 0 h.n

module _ (h : Header) (i : ℕ) (low : i < h.n) where
  in_powers : i < length (powers_of h)
  unfolding powers_of
  in_powers = omega (arith, length_from (power (modulus_of h) h.root) 0 h.n)

  -- the power at place i of the table
  pub power_place : i < length (padded 255 (powers_of h))
  power_place = in_padded 255 (powers_of h) i in_powers

  pub power_at : get_or (padded 255 (powers_of h)) i 0 ≡ power (modulus_of h) h.root i
  unfolding powers_of
  power_at = get_or_padded 255 (powers_of h) i in_powers ∙ rw zero-add at (get_or_from (power (modulus_of h) h.root) 0 h.n i 0 low)
