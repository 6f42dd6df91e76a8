-- A list, and its images, as lists by index.
use mathlib.Core.Path.{◌≡◌, sym, ◌∙◌}
use mathlib.Core.List.{List, map}
use Prim.Native.Nat.{ℕ, ◌<◌}
use native.Mathlib.Nat.{zero-add}
use native.Mathlib.Omega.{arith}
use lib.ListN.{length, get_or, length-map}
use lib.Seq.{ext_get_or}
use Rattle.lists.specs.Rows.{from}
use Rattle.std.proofs.lemmas.List.{get_or-map}
use Rattle.lists.proofs.Rows.{length_from, get_or_from}

module _ (xs : List ℕ) (n : ℕ) (long : length xs ≡ n) where
  pub from_self : from (λ i. get_or xs i 0) 0 n ≡ xs
  from_self =
      ext_get_or 0 _ xs (length_from (λ i. get_or xs i 0) 0 n ∙ sym long)
      (λ i h. rw zero-add at (get_or_from (λ i. get_or xs i 0) 0 n i 0 (omega (arith, length_from (λ i. get_or xs i 0) 0 n))))

  pub from_map : (f : ℕ → ℕ) → from (λ i. f (get_or xs i 0)) 0 n ≡ map f xs
  from_map f =
      ext_get_or 0 _ (map f xs) (length_from (λ i. f (get_or xs i 0)) 0 n ∙ sym (length-map xs f ∙ long))
      (λ i h.
      let low : i < n = omega (arith, length_from (λ i. f (get_or xs i 0)) 0 n) in
      rw zero-add at (get_or_from (λ i. f (get_or xs i 0)) 0 n i 0 low) ∙ sym (get_or-map f xs i 0 0 (omega arith)))
