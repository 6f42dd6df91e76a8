-- Entries, what nodes hold, values of polynomials and check sums are symbols.
use mathlib.Core.Path.{◌≡◌}
use mathlib.Core.Bool.{true}
use mathlib.Core.List.{List, [], ◌∷◌}
use Prim.Native.Nat.{ℕ, zero, suc, ◌+◌, ◌-◌, ◌*◌, ◌%◌, ◌<◌}
use lib.ListN.{get_or}
use Rattle.lists.specs.Numbers.{all_below}
use Rattle.lists.proofs.Numbers.{below_cons}
use Rattle.field.specs.Fields.{is_field, size_of}
use Rattle.field.proofs.Bounds.{one_below, add_below, sub_below, mul_below, power_below}
use Rattle.field.proofs.FieldOf.{size_pos}
use Rattle.generator.specs.declared.Header.{Header}
use Rattle.generator.specs.Records.{modulus_of, size, distance, Sound}
use Rattle.generator.specs.Shifts.{shifts}
use Rattle.generator.specs.Generator.{base_from, base_at, entry_at, entry}
use Rattle.generator.specs.Codewords.{node_from, poly_at, check_from}

module _ (h : Header) (s : Sound h) where
  base_from_below : (m : ℕ) {x : ℕ} → x < size h → base_from m h x < size h
  unfolding base_from
  base_from_below zero low = one_below (modulus_of h) s.field
  base_from_below (suc m) low = mul_below (modulus_of h) s.field (sub_below (modulus_of h) s.field low (power_below (modulus_of h) s.field m s.root_below)) (base_from_below m low)

  -- values of p
  pub base_at_below : {x : ℕ} → x < size h → base_at h x < size h
  unfolding base_at
  base_at_below low = base_from_below (h.k - 1) low

  pub entry_at_below : (t j : ℕ) → entry_at h t j < size h
  unfolding entry_at
  entry_at_below t j = base_at_below (power_below (modulus_of h) s.field ((j + t + (h.n - distance h)) % h.n) s.root_below)

  pub entry_below : (r j : ℕ) → entry h r j < size h
  unfolding entry
  entry_below r j = entry_at_below (get_or (shifts h) r 0) j

  pub node_from_below : (r : ℕ) (ms : List ℕ) (j : ℕ) → all_below (size h) ms ≡ true → node_from r h ms j < size h
  unfolding node_from
  node_from_below r [] j b = size_pos (modulus_of h) s.field
  node_from_below r (m ∷ ms) j b =
      let (low, rest) = below_cons (size h) m ms b in
      add_below (modulus_of h) s.field (mul_below (modulus_of h) s.field low (entry_below r j)) (node_from_below (r + 1) ms j rest)

  pub check_from_below : (e j : ℕ) (ws : List ℕ) → all_below (size h) ws ≡ true → check_from h e j ws < size h
  unfolding check_from
  check_from_below e j [] b = size_pos (modulus_of h) s.field
  check_from_below e j (w ∷ ws) b =
      let (low, rest) = below_cons (size h) w ws b in
      add_below (modulus_of h) s.field (mul_below (modulus_of h) s.field low (power_below (modulus_of h) s.field (j * e % h.n) s.root_below)) (check_from_below e (j + 1) ws rest)

pub poly_at_below : (p : ℕ) → is_field p ≡ true → (cs : List ℕ) (x : ℕ) → all_below (size_of p) cs ≡ true → x < size_of p → poly_at p cs x < size_of p
unfolding poly_at
poly_at_below p v [] x b low = size_pos p v
poly_at_below p v (c ∷ cs) x b low =
    let (first, rest) = below_cons (size_of p) c cs b in
    add_below p v first (mul_below p v low (poly_at_below p v cs x rest low))
