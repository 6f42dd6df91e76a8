-- The difference table and Pascal's triangle turn by turn, and the counts that they give.
use Rattle.std.proofs.Common.{◌≡◌, ℕ, zero, suc, ◌+◌, ◌-◌, ◌*◌, ◌%◌, ◌^◌, ◌<◌, ◌≤◌, ltb, List, length, get_or, set, sym, refl, ap, ◌∙◌, ap₂, le_trans, le_refl, mod-eq_of_lt, mul_comm, mul-le-mul, add_comm, mul-zero, zero-add, zero-mul, add-one, arith, le-ltb, lt-ltb}
use native.Mathlib.Nat.{mod-add-mod, add-mod-mod}
use native.Mathlib.Decide.{dec_lt}
use Rattle.lists.specs.Choice.{pick}
use Rattle.lists.specs.Padded.{zeros}
use Rattle.lists.specs.Rows.{from}
use Rattle.lists.proofs.Rows.{length_from, get_or_from, from_ext}
use Rattle.generator.specs.declared.Header.{Header}
use Rattle.generator.specs.Records.{size, Sound}
use Rattle.generator.specs.Codewords.{node_of}
use Rattle.weight_distribution.specs.Counts.{binomial}
use Rattle.weight_distribution.specs.Inner.Prescribed.{prescribed}
use Rattle.weight_distribution.proofs.Prescribed.{binomial_zero, prescribed_mono}
use Rattle.weight_distribution.proofs.Distribution.{count_least, weights_by_support}
use Rattle.weight_counts.specs.Weights.{weight_count_of, weight_counts}
use Rattle.weight_counts.specs.Inner.Counting.{Small, with_previous, differences_of, binomials}
use Rattle.weight_counts.proofs.Weights.{code}

-- a list by index, each place renewed by the one before it
previous_from : (op : ℕ → ℕ → ℕ) (first : ℕ) (f g : ℕ → ℕ) (n : ℕ) → ((i : ℕ) → i < n → i < first → g i ≡ f i) → ((i : ℕ) → i < n → first ≤ i → g i ≡ op (f i) (f (i - 1))) → with_previous op first (from f 0 n) ≡ from g 0 n
unfolding with_previous
previous_from op first f g n low high =
    ap (from _ 0) (length_from f 0 n)
    ∙ from_ext _ g 0 n (λ i a b. rw (at i (omega arith), at (i - 1) (omega arith)) (here i (omega arith) (dec_lt i first)))
  where
    at : (i : ℕ) → i < n → get_or (from f 0 n) i 0 ≡ f i
    at i l = get_or_from f 0 n i 0 l ∙ ap f (zero-add i)

    here : (i : ℕ) → i < n → Dec (i < first) → pick (ltb i first) (f i) (op (f i) (f (i - 1))) ≡ g i
    here i l (yes b) = rw (lt-ltb i first b) (sym (low i l b))
    here i l (no b) = rw (le-ltb i first (omega arith)) (sym (high i l (omega arith)))

-- the entries of the difference table after w turns: place y is in its last turn, or past it
module _ (P : ℕ → ℕ → ℕ) (w y : ℕ) where
  turned : w ≤ y → P (pick (ltb y w) y w) y ≡ P w y
  turned l = rw (le-ltb y w l)

  finished : y ≤ w → P (pick (ltb y w) y w) y ≡ P y y
  finished l = here (dec_lt y w)
    where
      here : Dec (y < w) → P (pick (ltb y w) y w) y ≡ P y y
      here (yes b) = rw (lt-ltb y w b)
      here (no b) = let e : w ≡ y = omega arith in rw (le-ltb y w (omega arith)) (ap (λ v. P v y) e)

module _ (h : Header) where
  abbrev table : ℕ → ℕ → ℕ
  table = prescribed h.n h.k (size h)

  -- one more turn
  pub table_next : (w : ℕ) → w < h.n → with_previous ◌-◌ (w + 1) (differences_of h w) ≡ differences_of h (w + 1)
  unfolding differences_of prescribed
  table_next w l =
      previous_from ◌-◌ (w + 1) (λ y. table (pick (ltb y w) y w) y) (λ y. table (pick (ltb y (w + 1)) y (w + 1)) y) (h.n + 1)
      (λ i a b. finished table (w + 1) i (omega arith) ∙ sym (finished table w i (omega arith)))
      (λ i a b. turned table (w + 1) i b ∙ ap (λ v. table v i) (add-one w) ∙ sym (ap₂ ◌-◌ (turned table w i (omega arith)) (turned table w (i - 1) (omega arith))))

  table_at : (w y : ℕ) → y ≤ h.n → get_or (differences_of h w) y 0 ≡ table (pick (ltb y w) y w) y
  unfolding differences_of
  table_at w y l = get_or_from _ 0 (h.n + 1) y 0 (omega arith) ∙ ap (λ v. table (pick (ltb v w) v w) v) (zero-add y)

  pub length_table : (w : ℕ) → length (differences_of h w) ≡ h.n + 1
  unfolding differences_of
  length_table w = length_from _ 0 (h.n + 1)

  -- no turn takes away more than there is
  pub table_mono : Sound h → (w y : ℕ) → w + 1 ≤ y → y ≤ h.n → get_or (differences_of h w) (y - 1) 0 ≤ get_or (differences_of h w) y 0
  table_mono s w y l b = rw (table_at w y b, table_at w (y - 1) (omega arith), turned table w y (omega arith), turned table w (y - 1) (omega arith)) (prescribed_mono (code h s) w y (omega arith) b)

-- the first w turns
unfoldable pub turns_of : ℕ → List ℕ → List ℕ
turns_of zero s = s
turns_of (suc w) s = with_previous ◌-◌ (w + 1) (turns_of w s)

pub turns_next : (w : ℕ) (s : List ℕ) → with_previous ◌-◌ (w + 1) (turns_of w s) ≡ turns_of (w + 1) s
unfolding turns_of
turns_next w s = ap (λ v. turns_of v s) (sym (add-one w))

pub turns_table : (h : Header) (w : ℕ) → w ≤ h.n → turns_of w (differences_of h 0) ≡ differences_of h w
unfolding turns_of
turns_table h zero l = refl
turns_table h (suc w) l = ap (with_previous ◌-◌ (w + 1)) (turns_table h w (omega arith)) ∙ table_next h w l ∙ ap (differences_of h) (add-one w)

-- a sum in 32 bits of numbers in 32 bits
wrap_sum : (x y : ℕ) → (x + y) % 2 ^ 32 ≡ (x % 2 ^ 32 + y % 2 ^ 32) % 2 ^ 32
wrap_sum x y = sym (mod-add-mod x (2 ^ 32) (y % 2 ^ 32) ∙ add-mod-mod x y (2 ^ 32))

-- the next row of Pascal's triangle
pub row_next : (a : ℕ) → with_previous (λ x y. (x + y) % 2 ^ 32) 1 (binomials a) ≡ binomials (a + 1)
unfolding binomials binomial
row_next a =
    previous_from (λ x y. (x + y) % 2 ^ 32) 1 (λ b. binomial a b % 2 ^ 32) (λ b. binomial (a + 1) b % 2 ^ 32) 256
    (λ i l b. let e : i ≡ 0 = omega arith in rw (e, binomial_zero (a + 1), binomial_zero a))
    (λ i l b. pascal i b)
  where
    pascal : (i : ℕ) → 1 ≤ i → binomial (a + 1) i % 2 ^ 32 ≡ (binomial a i % 2 ^ 32 + binomial a (i - 1) % 2 ^ 32) % 2 ^ 32
    pascal zero b = absurd (omega arith)
    pascal (suc j) b =
        let e : suc j - 1 ≡ j = omega arith in
        rw (add-one a, e) (ap (λ x. x % 2 ^ 32) (add_comm (binomial a j) (binomial a (suc j))) ∙ wrap_sum (binomial a (suc j)) (binomial a j))

-- the first row
pub row_start : set (zeros 256) 0 1 ≡ binomials 0
unfolding binomials zeros from binomial
row_start = refl

pub length_row : (a : ℕ) → length (binomials a) ≡ 256
unfolding binomials
length_row a = length_from _ 0 256

-- a factor in 32 bits is the factor itself, unless the product is 0
in_32_bits : (c p : ℕ) → c * p ≤ 65536 → p * (c % 2 ^ 32) ≡ c * p
in_32_bits c zero l = zero-mul (c % 2 ^ 32) ∙ sym (mul-zero c)
in_32_bits c (suc p) l =
    let most : c * 1 ≤ c * suc p = mul-le-mul {n₁ = c} (le_refl c) (omega arith) in
    let small : c < 2 ^ 32 = omega arith in
    rw (mod-eq_of_lt small) (mul_comm (suc p) c)

module _ (h : Header) (small : Small h) (byte : h.n ≤ 255) where
  -- a count in 17 bits
  pub count_fits : (w : ℕ) → weight_count_of h w ≤ 65536
  unfolding weight_count_of
  count_fits w = le_trans (count_least h.n h.k (size h) (node_of h) w) small.few

  -- what the table and the triangle give at w
  pub product_is : (w : ℕ) → w ≤ h.n → get_or (differences_of h h.n) w 0 * get_or (binomials h.n) w 0 ≡ weight_count_of h w
  unfolding binomials weight_count_of
  product_is w l =
      let by = weights_by_support (code h small.sound) w in
      rw (table_at h h.n w l, finished (table h) h.n w l, get_or_from (λ b. binomial h.n b % 2 ^ 32) 0 256 w 0 (omega arith), zero-add w)
      (in_32_bits (binomial h.n w) (table h w w) (rw by at (count_fits w)) ∙ sym by)

  -- all of them
  pub counts_are : from (λ w. get_or (differences_of h h.n) w 0 * get_or (binomials h.n) w 0) 0 (h.n + 1) ≡ weight_counts h
  unfolding weight_counts
  counts_are = from_ext _ (weight_count_of h) 0 (h.n + 1) (λ w a b. product_is w (omega arith))
