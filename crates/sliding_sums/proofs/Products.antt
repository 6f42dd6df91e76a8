-- Sums of products as numbers.
use mathlib.Core.Path.{◌≡◌, sym, ◌∙◌}
use mathlib.Core.List.{List, [], ◌∷◌}
use Prim.Native.Nat.{ℕ, ◌+◌, ◌*◌, ◌%◌, ◌≤◌, ◌<◌}
use native.Mathlib.Nat.{zero-mod, mod-add-mod, add-mod-mod, add_assoc, add-zero}
use native.Mathlib.Omega.{arith}
use lib.ListN.{length, get_or, drop}
use lib.Seq.{drop-length}
use Rattle.lists.proofs.Front.{drop_next}
use Rattle.field.specs.Inner.Sums.{dot}
use Rattle.field.proofs.Meanings.{add_modulo, mul_modulo}
use Rattle.row_sums.specs.Inner.WideSums.{product_sum}
use Rattle.kernel.proofs.Halves.{product16}

-- one reduction is enough
pub dot_reduced : (p : ℕ) → 0 < p → (xs ys : List ℕ) → dot p xs ys ≡ product_sum xs ys % p
unfolding dot product_sum
dot_reduced p some [] ys = sym (zero-mod p)
dot_reduced p some (x ∷ xs) [] = sym (zero-mod p)
dot_reduced p some (x ∷ xs) (y ∷ ys) =
    rw (add_modulo p some, mul_modulo p some, dot_reduced p some xs ys)
    (mod-add-mod (x * y) p (product_sum xs ys % p) ∙ add-mod-mod (x * y) (product_sum xs ys) p)

-- the products before place j make the sum with those from j on
pub record Added (xs ys : List ℕ) (j sum : ℕ) : Type 0 where
  pub low : sum ≤ j * 4294967295
  pub whole : sum + product_sum (drop j xs) (drop j ys) ≡ product_sum xs ys

pub added_none : (xs ys : List ℕ) → Added xs ys 0 0
added_none xs ys = record { low = omega arith; whole = omega arith }

pub added_one : {xs ys : List ℕ} {j sum : ℕ} → Added xs ys j sum → j < length xs → j < length ys → get_or xs j 0 < 65536 → get_or ys j 0 < 65536 → Added xs ys (j + 1) (sum + get_or xs j 0 * get_or ys j 0)
unfolding product_sum
added_one {xs} {ys} {j} {sum} a inside room low high =
    let fits = product16 (get_or xs j 0) (get_or ys j 0) low high in
    record {
      low = omega (arith, a.low);
      whole = add_assoc sum (get_or xs j 0 * get_or ys j 0) (product_sum (drop (j + 1) xs) (drop (j + 1) ys)) ∙ rw (drop_next xs j 0 inside, drop_next ys j 0 room) at a.whole;
    }

pub added_all : {xs ys : List ℕ} {j sum : ℕ} → Added xs ys j sum → j ≡ length xs → sum ≡ product_sum xs ys
unfolding product_sum
added_all {xs} {ys} {j} {sum} a end = sym (add-zero sum) ∙ rw (end, drop-length xs) at a.whole
