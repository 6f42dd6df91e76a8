-- Marks of lanes, by one row of bytes after the other.
use mathlib.Core.Path.{◌≡◌, refl, sym, ap, ap₂, ◌∙◌}
use mathlib.Core.Bool.{Bool, true, false, ◌&&◌}
use mathlib.Core.List.{List}
use mathlib.Core.Logic.{by_cases}
use Prim.Native.Nat.{ℕ, zero, suc, ◌+◌, ◌*◌, ◌/◌, ◌%◌, ◌≤◌, ◌<◌}
use native.Mathlib.Decide.{ℕ_discrete}
use native.Mathlib.Nat.{zero-add, add-zero, one-mul, mul-one}
use native.Mathlib.Omega.{arith}
use native.Mathlib.Numerals.{add-one}
use borrow.Author.Tests.{ne_eqb}
use lib.Dec.{eqb}
use lib.ListN.{length, get_or}
use Rattle.lists.specs.Choice.{pick}
use Rattle.lists.specs.Padded.{zeros}
use Rattle.lists.specs.Rows.{from}
use Rattle.lists.proofs.Fill.{from_zeros}
use Rattle.lists.proofs.Rows.{from_ext, length_from, get_or_from}
use Rattle.layout.specs.Width.{symbol_bytes}
use Rattle.kernel.specs.Inner.Lanes.{lanewise}
use Rattle.block_products.specs.Inner.Marks.{all_zero, zero_marks}

-- the mark of a test
abbrev mark : Bool → ℕ
mark b = pick b 0 1

-- one test more
mark_both : (a b : Bool) → pick a (mark b) 1 ≡ mark (a && b)
mark_both true b = refl
mark_both false b = refl

module _ (l : ℕ) (f : ℕ → ℕ → ℕ) where
  -- before the first sum
  pub zero_none : zeros l ≡ zero_marks 0 l f
  unfolding zero_marks all_zero
  zero_none = sym (from_zeros (λ t. 0) 0 l (λ t a b. refl))

  pub length_zero_marks : (m : ℕ) → length (zero_marks m l f) ≡ l
  unfolding zero_marks
  length_zero_marks m = length_from (λ t. mark (all_zero m (λ i. f i t))) 0 l

  pub get_or_zero_marks : (m t : ℕ) → t < l → get_or (zero_marks m l f) t 0 ≡ mark (all_zero m (λ i. f i t))
  unfolding zero_marks
  get_or_zero_marks m t lane = rw zero-add at (get_or_from (λ t. mark (all_zero m (λ i. f i t))) 0 l t 0 lane)

  -- one sum more, of which the lanes' bytes are told
  pub zero_more : (m : ℕ) (bytes : List ℕ) → ((t : ℕ) → t < l → get_or bytes t 0 ≡ f m t) → lanewise (λ t y. pick (eqb (get_or bytes t 0) 0) y 1) (zero_marks m l f) ≡ zero_marks (m + 1) l f
  unfolding lanewise zero_marks all_zero
  zero_more m bytes are =
      let g : ℕ → ℕ = λ t. mark (all_zero m (λ i. f i t)) in
      ap (from (λ t. pick (eqb (get_or bytes t 0) 0) (get_or (from g 0 l) t 0) 1) 0) (length_from g 0 l)
      ∙ from_ext _ (λ t. mark (all_zero (m + 1) (λ i. f i t))) 0 l
      (λ t low high.
      let before : get_or (from g 0 l) t 0 ≡ g t = rw zero-add at (get_or_from g 0 l t 0 (omega arith)) in
      rw (are t (omega arith), before, mark_both) (rw add-one))

-- equal sums
pub all_zero_ext : (m : ℕ) (f g : ℕ → ℕ) → ((i : ℕ) → i < m → f i ≡ g i) → all_zero m f ≡ all_zero m g
unfolding all_zero
all_zero_ext zero f g same = refl
all_zero_ext (suc m) f g same = ap₂ (λ (x : ℕ) (b : Bool). eqb x 0 && b) (same m (omega arith)) (all_zero_ext m f g (λ i low. same i (omega arith)))

-- a symbol of two bytes is 0 where both are
two_zero : (x : ℕ) (b : Bool) → (eqb (x % 256) 0 && (eqb (x / 256) 0 && b)) ≡ (eqb x 0 && b)
two_zero x b =
    by_cases (ℕ_discrete x 0)
    (λ e. rw e)
    (λ n.
    by_cases (ℕ_discrete (x % 256) 0)
    (λ low. let high : x / 256 ≡ 0 → ⊥ = λ e. n (omega arith) in rw (low, ne_eqb (x / 256) 0 high, ne_eqb x 0 n))
    (λ some. rw (ne_eqb (x % 256) 0 some, ne_eqb x 0 n)))

-- the bytes of the sums are 0 where the sums are
module _ (F g : ℕ → ℕ) where
  one_zero : (n : ℕ) → ((i : ℕ) → i < n → F (i * 1 + 0) ≡ g i) → all_zero n F ≡ all_zero n g
  one_zero n is = all_zero_ext n F g (λ i low. ap F (sym (add-zero (i * 1) ∙ mul-one i)) ∙ is i low)

  pairs_zero : (n : ℕ) → ((i v : ℕ) → i < n → v < 2 → F (i * 2 + v) ≡ get_or (symbol_bytes 2 (g i)) v 0) → all_zero (2 * n) F ≡ all_zero n g
  unfolding all_zero symbol_bytes
  pairs_zero zero is = refl
  pairs_zero (suc n) is =
      let size : 2 * suc n ≡ suc (suc (2 * n)) = omega arith in
      let low : suc (2 * n) ≡ n * 2 + 1 = omega arith in
      let high : 2 * n ≡ n * 2 + 0 = omega arith in
      let first : F (suc (2 * n)) ≡ g n % 256 = ap F low ∙ is n 1 (omega arith) (omega arith) in
      let second : F (2 * n) ≡ g n / 256 = ap F high ∙ is n 0 (omega arith) (omega arith) in
      rw (size, first, second, pairs_zero n (λ i v row byte. is i v (omega arith) byte)) (two_zero (g n) (all_zero n g))

pub bytes_zero : (w n : ℕ) (F g : ℕ → ℕ) → 1 ≤ w → w ≤ 2 → ((i v : ℕ) → i < n → v < w → F (i * w + v) ≡ get_or (symbol_bytes w (g i)) v 0) → all_zero (w * n) F ≡ all_zero n g
unfolding symbol_bytes
bytes_zero w n F g some few is =
    by_cases (ℕ_discrete w 1)
    (λ e. let at = rw e at is in rw (e, one-mul n) (one_zero F g n (λ i low. at i 0 low (omega arith))))
    (λ more. let e : w ≡ 2 = omega arith in rw e (pairs_zero F g n (rw e at is)))
