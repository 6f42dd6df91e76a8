-- The two tables: lists that pass one computed test are tables, and products and inverses taken from tables are those of the field.
use mathlib.Core.Path.{◌≡◌, refl, sym, ap, ap₂, ◌∙◌}
use mathlib.Core.Bool.{Bool, true, false}
use mathlib.Core.List.{List, [], ◌∷◌}
use Prim.Native.Nat.{ℕ, zero, suc, ◌+◌, ◌-◌, ◌%◌, ◌≤◌, ◌<◌}
use native.Mathlib.Nat.{add-zero, mod-lt}
use native.Mathlib.Numerals.{add-one}
use native.Mathlib.Omega.{arith}
use borrow.Author.Tests.{ltb-true, ltb-false, eqb-true, eqb-false, eq-eqb, ne_eqb}
use lib.Dec.{T, eqb, ltb, eqb→eq, ltb→lt}
use lib.ListN.{length, get_or}
use Rattle.lists.proofs.Cases.{by_test}
use Rattle.field.specs.Bytes.{times_x, product_from, product}
use Rattle.field.specs.Fields.{size_of, mul, power, inverse, order_from, order_of}
use Rattle.field.specs.declared.tables.Tables.{Tables}
use Rattle.field.specs.Logarithms.{ArePowersAndLogarithms}
use Rattle.field.specs.Tables.{powers_in, logarithms_in, table_product, table_inverse}
use Rattle.field.proofs.Computed.{both, both_left, both_right, every_entry, entry_at}
use Rattle.field.proofs.Product.{times_x_byte, product_one, product_two, product_comm}
use Rattle.field.proofs.Arithmetic.{zero-mul, mul-zero}
use Rattle.field.proofs.BothKinds.{arithmetic}
use Rattle.field.proofs.Meanings.{byte_field}
use Rattle.field.proofs.Bounds.{power_below}
use Rattle.field.proofs.Powers.{power_add}
use Rattle.field.proofs.Inverse.{mul_inverse, inverse_unique}

-- each number is x times the one before, the first being a
abbrev chain : ℕ → List ℕ → Bool
chain a [] = true
chain a (x ∷ xs) = both (eqb x a) (chain (times_x x) xs)

-- x is the logarithm of k + 1
abbrev is_logarithm : List ℕ → ℕ → ℕ → Bool
is_logarithm ps k x = both (ltb x 255) (eqb (get_or ps x 0) (suc k))

-- x has the logarithm e
abbrev has_logarithm : List ℕ → ℕ → ℕ → Bool
has_logarithm ls e x = eqb (get_or ls (x - 1) 0) e

-- the test of all entries of both lists
abbrev pub tables_pass : List ℕ → List ℕ → Bool
tables_pass ps ls =
    both (both (eqb (length ps) 255) (eqb (length ls) 255))
    (both (chain 1 ps) (both (every_entry (is_logarithm ps) 0 ls) (every_entry (has_logarithm ls) 0 ps)))

chain_first : (a : ℕ) (xs : List ℕ) → T (chain a xs) → 0 < length xs → get_or xs 0 0 ≡ a
chain_first a [] t h = absurd (omega arith)
chain_first a (x ∷ xs) t h = eqb→eq x a (both_left (eqb x a) (chain (times_x x) xs) t)

chain_next : (a : ℕ) (xs : List ℕ) → T (chain a xs) → (e : ℕ) → suc e < length xs → get_or xs (suc e) 0 ≡ times_x (get_or xs e 0)
chain_next a [] t e h = absurd (omega arith)
chain_next a (x ∷ xs) t zero h = chain_first (times_x x) xs (both_right (eqb x a) (chain (times_x x) xs) t) (omega arith)
chain_next a (x ∷ xs) t (suc e) h = chain_next (times_x x) xs (both_right (eqb x a) (chain (times_x x) xs) t) e (omega arith)

chain_byte : (a : ℕ) (xs : List ℕ) → T (chain a xs) → a < 256 → (e : ℕ) → e < length xs → get_or xs e 0 < 256
chain_byte a [] t ha e h = absurd (omega arith)
chain_byte a (x ∷ xs) t ha zero h = omega (arith, eqb→eq x a (both_left (eqb x a) (chain (times_x x) xs) t))
chain_byte a (x ∷ xs) t ha (suc e) h =
    let same : x ≡ a = eqb→eq x a (both_left (eqb x a) (chain (times_x x) xs) t) in
    let low : times_x x < 256 = times_x_byte x (omega arith) in
    chain_byte (times_x x) xs (both_right (eqb x a) (chain (times_x x) xs) t) low e (omega arith)

-- lists that pass are tables
pub are_tables : (ps ls : List ℕ) → T (tables_pass ps ls) → ArePowersAndLogarithms ps ls
are_tables ps ls t =
    let sizes = both_left (both (eqb (length ps) 255) (eqb (length ls) 255)) _ t in
    let lp : length ps ≡ 255 = eqb→eq (length ps) 255 (both_left (eqb (length ps) 255) (eqb (length ls) 255) sizes) in
    let ll : length ls ≡ 255 = eqb→eq (length ls) 255 (both_right (eqb (length ps) 255) (eqb (length ls) 255) sizes) in
    let rules = both_right (both (eqb (length ps) 255) (eqb (length ls) 255)) _ t in
    let powers : T (chain 1 ps) = both_left (chain 1 ps) _ rules in
    let rest = both_right (chain 1 ps) _ rules in
    let logs : T (every_entry (is_logarithm ps) 0 ls) = both_left (every_entry (is_logarithm ps) 0 ls) _ rest in
    let back : T (every_entry (has_logarithm ls) 0 ps) = both_right (every_entry (is_logarithm ps) 0 ls) _ rest in
    record {
      first = chain_first 1 ps powers (omega arith);
      next =
          λ e h.
          let x = get_or ps e 0 in
          let byte : x < 256 = chain_byte 1 ps powers (omega arith) e (omega arith) in
          rw add-one (chain_next 1 ps powers e (omega arith)) ∙ sym (product_two x byte) ∙ product_comm x 2 byte (omega arith);
      logarithm = λ e h. rw add-zero at (eqb→eq (get_or ls (get_or ps e 0 - 1) 0) (e + 0) (entry_at (has_logarithm ls) ps 0 back e (omega arith)));
      below = λ a pos h. ltb→lt _ 255 (both_left (ltb (get_or ls (a - 1) 0) 255) _ (entry_at (is_logarithm ps) ls 0 logs (a - 1) (omega arith)));
      power =
          λ a pos h.
          let place : suc (a - 1 + 0) ≡ a = omega arith in
          eqb→eq _ _ (both_right (ltb (get_or ls (a - 1) 0) 255) _ (entry_at (is_logarithm ps) ls 0 logs (a - 1) (omega arith))) ∙ place;
    }

-- 2 is a byte, and its power 255 is 1
two : 2 < size_of 0
unfolding size_of
two = omega arith

pub two_255 : power 0 2 255 ≡ 1
unfolding power mul product product_from times_x
two_255 = refl

-- exponents count modulo 255
two_wrap : (s : ℕ) → 255 ≤ s → power 0 2 (s - 255) ≡ power 0 2 s
unfolding mul size_of
two_wrap s h =
    let whole : s - 255 + 255 ≡ s = omega arith in
    sym (product_one (power 0 2 (s - 255)) (power_below 0 byte_field (s - 255) two))
    ∙ ap (product (power 0 2 (s - 255))) (sym two_255)
    ∙ power_add 0 byte_field 2 (s - 255) 255 two
    ∙ ap (power 0 2) whole

-- an exponent modulo 255
pub reduced : (s : ℕ) → s < 510 → power 0 2 (s % 255) ≡ power 0 2 s
reduced s h =
    by_test (ltb s 255)
    (λ b. let low : s < 255 = ltb-true s 255 b in let e : s % 255 ≡ s = omega arith in ap (power 0 2) e)
    (λ b. let low : 255 ≤ s = ltb-false s 255 b in let e : s % 255 ≡ s - 255 = omega arith in ap (power 0 2) e ∙ two_wrap s low)

-- exponents add
pub exponents_add : (i j : ℕ) {a b : ℕ} → power 0 2 i ≡ a → power 0 2 j ≡ b → power 0 2 (i + j) ≡ mul 0 a b
exponents_add i j is js = sym (power_add 0 byte_field 2 i j two) ∙ ap₂ (mul 0) is js

-- the negative of an exponent
pub negative : (e : ℕ) {a : ℕ} → e < 255 → a < 256 → power 0 2 e ≡ a → power 0 2 (255 - e) ≡ inverse 0 a
unfolding size_of
negative e {a} low h is =
    let whole : e + (255 - e) ≡ 255 = omega arith in
    inverse_unique 0 byte_field a (power 0 2 (255 - e)) h (power_below 0 byte_field (255 - e) two)
    (sym (exponents_add e (255 - e) is refl) ∙ ap (power 0 2) whole ∙ two_255)

-- the power whose exponent is the reduced sum
pub log_step : (i j : ℕ) {a : ℕ} → i + j < 510 → power 0 2 i ≡ a → mul 0 a (power 0 2 j) ≡ power 0 2 ((i + j) % 255)
log_step i j few at = sym (exponents_add i j at refl) ∙ sym (reduced (i + j) few)

-- 0 times a byte
pub zero_times : {a : ℕ} (b : ℕ) → b < 256 → a ≡ 0 → 0 ≡ mul 0 a b
unfolding size_of
zero_times b h e = sym (ap (λ (x : ℕ). mul 0 x b) e ∙ zero-mul (arithmetic 0 byte_field) b h)

pub times_zero : (a : ℕ) {b : ℕ} → a < 256 → b ≡ 0 → 0 ≡ mul 0 a b
unfolding size_of
times_zero a h e = sym (ap (mul 0 a) e ∙ mul-zero (arithmetic 0 byte_field) a h)

pub power_zero : (s : ℕ) → s ≡ 0 → power 0 2 s ≡ 1
unfolding power
power_zero s e = ap (power 0 2) e

-- 0 has no order
order_zero : order_of 0 0 ≡ 0
unfolding order_of order_from mul product product_from times_x
order_zero = refl

pub zero_order : {a : ℕ} (n : ℕ) → 1 ≤ n → a ≡ 0 → false ≡ eqb (order_of 0 a) n
zero_order n some e = sym (ne_eqb _ n (λ found. let none : 0 ≡ n = sym (ap (order_of 0) e ∙ order_zero) ∙ found in omega arith))

module _ (ts : Tables) where
  -- what stands at e is 2 to the power e
  pub power_at : (e : ℕ) → e < 255 → get_or (powers_in ts) e 0 ≡ power 0 2 e
  unfolding power mul
  power_at zero h = ts.agree.first
  power_at (suc e) h = rw add-one at (ts.agree.next e (omega arith)) ∙ ap (product 2) (power_at e (omega arith))

  -- the exponent reduced modulo 255
  pub reduced_at : (s : ℕ) → s < 510 → get_or (powers_in ts) (s % 255) 0 ≡ power 0 2 s
  reduced_at s h = power_at (s % 255) (mod-lt s (omega arith)) ∙ reduced s h

  pub log_power : (a : ℕ) → 0 < a → a < 256 → power 0 2 (get_or (logarithms_in ts) (a - 1) 0) ≡ a
  log_power a pos h = sym (power_at (get_or (logarithms_in ts) (a - 1) 0) (ts.agree.below a pos h)) ∙ ts.agree.power a pos h

  -- 1 is the power at 0 alone
  pub one_power : (s : ℕ) → s < 255 → power 0 2 s ≡ 1 → s ≡ 0
  one_power s h one =
      sym (ts.agree.logarithm s h)
      ∙ ap (λ (x : ℕ). get_or (logarithms_in ts) (x - 1) 0) (power_at s h ∙ one ∙ sym ts.agree.first)
      ∙ ts.agree.logarithm 0 (omega arith)

  pub one_test : (s : ℕ) → s < 255 → eqb s 0 ≡ eqb (power 0 2 s) 1
  one_test s h =
      by_test (eqb s 0)
      (λ b. b ∙ sym (eq-eqb _ 1 (power_zero s (eqb-true s 0 b))))
      (λ b. b ∙ sym (ne_eqb _ 1 (λ one. eqb-false s 0 b (one_power s h one))))

  -- the power with the negative of an exponent
  pub log_inverse : (a : ℕ) → 0 < a → a < 256 → power 0 2 (255 - get_or (logarithms_in ts) (a - 1) 0) ≡ inverse 0 a
  log_inverse a pos h = negative _ (ts.agree.below a pos h) h (log_power a pos h)

  -- the table product of every two bytes is the product of polynomials
  pub table_product_lem : (a b : ℕ) → a < 256 → b < 256 → table_product ts a b ≡ product a b
  unfolding table_product mul
  table_product_lem zero b ha hb = zero_times b hb refl
  table_product_lem (suc a) zero ha hb = times_zero (suc a) ha refl
  table_product_lem (suc a) (suc b) ha hb =
      let s = get_or (logarithms_in ts) a 0 + get_or (logarithms_in ts) b 0 in
      let at_a : suc a - 1 ≡ a = omega arith in
      let at_b : suc b - 1 ≡ b = omega arith in
      let i : get_or (logarithms_in ts) a 0 < 255 = rw at_a at (ts.agree.below (suc a) (omega arith) ha) in
      let j : get_or (logarithms_in ts) b 0 < 255 = rw at_b at (ts.agree.below (suc b) (omega arith) hb) in
      let few : s < 510 = omega arith in
      reduced_at s few ∙ exponents_add _ _ (rw at_a at (log_power (suc a) (omega arith) ha)) (rw at_b at (log_power (suc b) (omega arith) hb))

  -- each byte but 0 times its table inverse is 1
  pub table_inverse_lem : (a : ℕ) → 0 < a → a < 256 → product a (table_inverse ts a) ≡ 1
  unfolding table_inverse mul size_of
  table_inverse_lem a pos h =
      let e = get_or (logarithms_in ts) (a - 1) 0 in
      ap (product a) (reduced_at (255 - e) (omega arith) ∙ log_inverse a pos h) ∙ mul_inverse 0 byte_field a pos h
