-- A symbol written as bytes, by the width.
use mathlib.Core.Path.{◌≡◌, ap}
use mathlib.Core.List.{List, [], ◌∷◌, ◌++◌}
use Prim.Native.Nat.{ℕ, ◌+◌, ◌<◌, ◌≤◌}
use native.Mathlib.Omega.{arith}
use lib.ListN.{length, get_or, set, drop, drop_of_length-le}
use Rattle.lists.proofs.Front.{drop_next}
use Rattle.layout.specs.Width.{symbol_bytes, bytes_of}

pub one_written : (w x : ℕ) (out : List ℕ) → w ≡ 1 → length out ≡ w → set out 0 x ≡ symbol_bytes w x
unfolding symbol_bytes
one_written w x [] one long = absurd (omega arith)
one_written w x (a ∷ []) one long = rw one
one_written w x (a ∷ b ∷ out) one long = absurd (omega arith)

-- what is left to write at symbol i
pub bytes_next : (w : ℕ) (xs : List ℕ) (i : ℕ) → i < length xs → bytes_of w (drop i xs) ≡ symbol_bytes w (get_or xs i 0) ++ bytes_of w (drop (i + 1) xs)
unfolding bytes_of
bytes_next w xs i h = ap (bytes_of w) (drop_next xs i 0 h)

pub bytes_none : (w : ℕ) (xs : List ℕ) (i : ℕ) → length xs ≤ i → bytes_of w (drop i xs) ≡ []
unfolding bytes_of
bytes_none w xs i h = ap (bytes_of w) (drop_of_length-le xs h)
