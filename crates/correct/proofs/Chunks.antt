-- Rows of one size, as chunks.
use mathlib.Core.Path.{◌≡◌, sym, ap}
use mathlib.Core.List.{List, ◌++◌}
use Prim.Native.Nat.{ℕ, ◌+◌, ◌-◌, ◌*◌, min, ◌≤◌, ◌<◌}
use native.Mathlib.Nat.{add-mul, one-mul, mul_comm, mul-le-mul, le_refl}
use native.Mathlib.Omega.{arith}
use borrow.Author.Tests.{leb-true, leb-false}
use lib.Dec.{leb}
use lib.ListN.{length, take, drop, length-drop}
use lib.Seq.{take_at, drop_at, drop-drop}
use Rattle.lists.proofs.Cases.{by_test}

-- none is left of l rows where t are gone
pub chunks_end : (size l t : ℕ) (s rest : List ℕ) → length s ≡ size * l → rest ≡ drop (t * size) s → 0 < size → length rest ≡ 0 → l ≤ t
chunks_end size l t s rest long left some none =
    by_test (leb l t)
    (leb-true l t)
    (λ e. absurd (omega (arith, mul-le-mul (leb-false l t e) (le_refl size), add-mul t 1 size, one-mul size, mul_comm l size, long, none, ap length left, length-drop (t * size) s)))

-- t of l rows are gone: the next chunk is row t, and the rows after it are left
module _ (size l t : ℕ) (s chunk rest rest' : List ℕ) (long : length s ≡ size * l) (left : rest ≡ drop (t * size) s) (parts : rest ≡ chunk ++ rest') (whole : length chunk ≡ min size (length rest)) (more : 0 < length rest) where
  pub chunk_inside : t < l
  chunk_inside =
      by_test (leb l t)
      (λ e. absurd (omega (arith, mul-le-mul (leb-true l t e) (le_refl size), mul_comm l size, long, more, ap length left, length-drop (t * size) s)))
      (λ e. leb-false l t e)

  chunk_long : length chunk ≡ size
  chunk_long = omega (arith, mul-le-mul chunk_inside (le_refl size), add-mul t 1 size, one-mul size, mul_comm l size, long, whole, ap length left, length-drop (t * size) s)

  pub chunk_is : chunk ≡ take (t * size + size - t * size) (drop (t * size) s)
  chunk_is = let e : t * size + size - t * size ≡ size = omega arith in rw (e, ← left, parts) (sym (take_at chunk rest' size chunk_long))

  pub chunks_left : rest' ≡ drop ((t + 1) * size) s
  chunks_left =
      let next : (t + 1) * size ≡ t * size + size = omega (arith, add-mul t 1 size, one-mul size) in
      rw (next, ← drop-drop, ← left, parts) (sym (drop_at chunk rest' size chunk_long))
