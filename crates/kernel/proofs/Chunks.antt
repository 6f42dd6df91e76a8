-- A list cut into chunks of n elements: where each element stands.
use Rattle.std.proofs.Common.{◌≡◌, ap, ◌∙◌, ℕ, zero, suc, ◌+◌, ◌*◌, ◌<◌, List, [], get_or, take, drop, arith}
use Rattle.std.specs.Simd.{first_chunks}
use Rattle.std.proofs.lemmas.List.{drop-drop, get_or-take, get_or-drop}
use native.Mathlib.Nat.{add_comm, zero-mul, suc-mul}

chunk_at : (n k i : ℕ) (s : List ℕ) → i < k → get_or (first_chunks n k s) i [] ≡ take n (drop (i * n) s)
chunk_at n zero i s h = absurd (omega arith)
chunk_at n (suc k) zero s h = rw zero-mul
chunk_at n (suc k) (suc i) s h =
    let next : n + i * n ≡ suc i * n = rw suc-mul (add_comm n (i * n)) in
    chunk_at n k i (drop n s) (omega arith) ∙ ap (take n) (drop-drop (i * n) n s) ∙ ap (λ (m : ℕ). take n (drop m s)) next

pub chunk_element : (n k i j : ℕ) (s : List ℕ) → i < k → j < n → get_or (get_or (first_chunks n k s) i []) j 0 ≡ get_or s (i * n + j) 0
chunk_element n k i j s h inside = rw (chunk_at n k i s h) (get_or-take n (drop (i * n) s) j 0 inside ∙ get_or-drop (i * n) s j 0)
