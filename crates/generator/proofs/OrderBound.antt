-- The order of a symbol is below the field's size: its powers are different symbols, and none is 0.
use mathlib.Core.Path.{◌≡◌, refl, sym, ap, ◌∙◌}
use mathlib.Core.Bool.{true, false, not}
use mathlib.Core.List.{List, ◌∷◌}
use Prim.Native.Nat.{ℕ, zero, suc, ◌<◌}
use native.Mathlib.Nat.{zero-add}
use native.Mathlib.Omega.{arith}
use lib.ListN.{length, get_or}
use Rattle.lists.specs.Numbers.{all_below, is_in, distinct}
use Rattle.lists.specs.Rows.{from}
use Rattle.lists.proofs.All.{Distinct-of}
use Rattle.std.proofs.lemmas.Bool.{and_from}
use Rattle.lists.proofs.Cases.{by_test}
use Rattle.lists.proofs.Chosen.{count_most}
use Rattle.lists.proofs.Count.{count_all}
use Rattle.lists.proofs.Numbers.{at_below, all_distinct, cons_below, is_in_place}
use Rattle.lists.proofs.Rows.{length_from, get_or_from}
use Rattle.algebra.specs.Powers.{pow, Order}
use Rattle.algebra.proofs.Powers.{pow_nonzero, order_nonzero, pow_injective}
use Rattle.field.specs.Fields.{is_field, size_of, order_of}
use Rattle.field.specs.Symbols.{Symbol}
use Rattle.field.proofs.FieldOf.{field_of, size_pos}
use Rattle.field.proofs.Orders.{order_is}
use Rattle.field.proofs.Symbols.{symbol, symbol_below, symbol_path}

module _ (p : ℕ) (v : is_field p ≡ true) (a : Symbol (size_of p)) (n : ℕ) (o : Order (field_of p v) a n) where
  -- the number of the i-th power
  abbrev number : ℕ → ℕ
  number i = (pow (field_of p v) a i).0

  abbrev powers : List ℕ
  powers = from number 0 n

  power_at : (i : ℕ) → i < length powers → get_or powers i 0 ≡ number i
  power_at i l = get_or_from number 0 n i 0 (omega (arith, length_from number 0 n)) ∙ ap number (zero-add i)

  powers_below : all_below (size_of p) powers ≡ true
  powers_below = at_below (size_of p) powers (λ i l. rw (power_at i l) (symbol_below (size_of p) (pow (field_of p v) a i)))

  powers_distinct : distinct powers ≡ true
  powers_distinct =
      all_distinct powers
      (Distinct-of 0 powers
      (λ i j b c e. pow_injective (field_of p v) a n o i j (omega (arith, length_from number 0 n)) (omega (arith, length_from number 0 n)) (symbol_path (size_of p) (sym (power_at i b) ∙ e ∙ power_at j c))))

  -- 0 is no power
  none_zero : is_in 0 powers ≡ false
  none_zero =
      by_test (is_in 0 powers)
      (λ t.
      let (u, inside, is) = is_in_place 0 powers t in
      absurd (pow_nonzero (field_of p v) a (order_nonzero (field_of p v) a n o) u (symbol_path (size_of p) (sym (power_at u inside) ∙ is))))
      (λ t. t)

  pub order_below : n < size_of p
  unfolding distinct
  order_below =
      let most = count_most (size_of p) (λ x. true) (0 ∷ powers) (cons_below (size_of p) 0 powers (size_pos p v) powers_below) (and_from _ _ (ap not none_zero) powers_distinct) (λ i m. refl) in
      omega (arith, most, length_from number 0 n, count_all (size_of p) 0 (λ x. true) (λ j b c. refl))

-- so what is found as an order is
pub found_below : (p root : ℕ) → is_field p ≡ true → root < size_of p → order_of p root < size_of p
found_below p root v low = go (order_of p root) refl
  where
    go : (n : ℕ) → order_of p root ≡ n → n < size_of p
    go zero e = size_pos p v
    go (suc n) e = order_below p v (symbol (size_of p) root low) (suc n) (order_is p v (symbol (size_of p) root low) (suc n) e (omega arith))
