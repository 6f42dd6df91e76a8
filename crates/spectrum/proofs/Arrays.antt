-- Lists by index, and the exponents T(x).
use mathlib.Core.Path.{◌≡◌, sym, ap, ◌∙◌}
use mathlib.Core.List.{List, []}
use mathlib.Core.Logic.{◌⊎◌, inl, inr}
use Prim.Native.Nat.{ℕ, ◌+◌, ◌%◌, ◌≤◌, ◌<◌}
use native.Mathlib.Nat.{zero-add, mod-add-mod, add-mod-mod}
use native.Mathlib.Numerals.{add-one}
use native.Mathlib.Omega.{arith}
use lib.ListN.{length, get_or, length-drop}
use Rattle.lists.specs.Rows.{from}
use Rattle.lists.proofs.Paired.{Paired}
use Rattle.lists.proofs.Rows.{length_from, get_or_from}
use Rattle.spectrum.specs.Inner.Spectrum.{triangle}

-- value i of a list by index
pub value_at : (f : ℕ → ℕ) (m i : ℕ) → i < m → get_or (from f 0 m) i 0 ≡ f i
value_at f m i h = rw zero-add at (get_or_from f 0 m i 0 h)

-- and of a list that is one
pub listed_at : (f : ℕ → ℕ) (xs : List ℕ) (i : ℕ) → xs ≡ from f 0 (length xs) → i < length xs → get_or xs i 0 ≡ f i
listed_at f xs i is h = ap (λ (l : List ℕ). get_or l i 0) is ∙ value_at f (length xs) i h

pub listed_whole : (f : ℕ → ℕ) (xs : List ℕ) (m : ℕ) → xs ≡ from f 0 m → xs ≡ from f 0 (length xs)
listed_whole f xs m is = is ∙ ap (from f 0) (sym (ap length is ∙ length_from f 0 m))

-- T(x + 1) is T(x) and x more, modulo n
pub triangle_next : (n x : ℕ) → (triangle x % n + x % n) % n ≡ triangle (x + 1) % n
unfolding triangle
triangle_next n x = mod-add-mod (triangle x) n (x % n) ∙ add-mod-mod (triangle x) x n ∙ rw add-one

pub next_modulo : (n x : ℕ) → (x % n + 1) % n ≡ (x + 1) % n
next_modulo n x = mod-add-mod x n 1

-- nothing is left of one of two lists side by side: the first, where it is no longer than the other, is done
pub shorter_end : {xs ys left right : List ℕ} {i : ℕ} → Paired xs ys i left right → length xs ≤ length ys → (left ≡ []) ⊎ (right ≡ []) → length xs ≤ i
shorter_end {xs} {i = i} now less (inl none) = omega (arith, ap length (sym none ∙ now.first), length-drop i xs)
shorter_end {ys = ys} {i = i} now less (inr none) = omega (arith, less, ap length (sym none ∙ now.second), length-drop i ys)
