-- A list by index that a loop fills by parts, each through a part that is lent: before it the values of f, after it what was there.
use mathlib.Core.Path.{◌≡◌, sym, ap, ◌∙◌}
use mathlib.Core.List.{List, ◌++◌}
use Prim.Native.Nat.{ℕ, ◌+◌, ◌-◌, ◌≤◌, ◌<◌}
use native.Mathlib.Nat.{add-zero, zero-add, sub-zero}
use native.Mathlib.Omega.{arith}
use lib.ListN.{length, get_or, take, drop, get_or-append}
use lib.Seq.{get_or-take, length-take-le, ext_get_or}
use Rattle.lists.specs.Rows.{from}
use Rattle.lists.proofs.Rows.{length_from, get_or_from, from_append, from_move, from_end}
use Rattle.lists.proofs.Fill.{Fills, fills_start, fills_part, fills_all}

-- k values more
pub from_part : {A : Type 0} (f : ℕ → A) (n i k : ℕ) → i + k ≤ n → from f i (n - i) ≡ from (λ p. f (i + p)) 0 k ++ from f (i + k) (n - (i + k))
from_part f n i k h =
    let e : n - i ≡ k + (n - (i + k)) = omega arith in
    ap (from f i) e
    ∙ from_append f i k (n - (i + k))
    ∙ ap (λ l. l ++ from f (i + k) (n - (i + k))) (sym (from_move f i 0 k ∙ ap (λ c. from f c k) (add-zero i)))

-- a list of n elements that are values of f
pub from_at : (f : ℕ → ℕ) (xs : List ℕ) (n : ℕ) → length xs ≡ n → ((i : ℕ) → i < n → get_or xs i 0 ≡ f i) → xs ≡ from f 0 n
from_at f xs n long e =
    ext_get_or 0 xs (from f 0 n) (long ∙ sym (length_from f 0 n))
    (λ i h. let low : i < n = omega (arith, long) in e i low ∙ sym (rw zero-add at (get_or_from f 0 n i 0 low)))

-- of n places the first c hold the values of f
abbrev pub Valued : (ℕ → ℕ) → ℕ → List ℕ → List ℕ → ℕ → Type 0
Valued f n start now c = Fills start now c (from f c (n - c)) (from f 0 n)

pub valued_start : (f : ℕ → ℕ) (n : ℕ) (start : List ℕ) → Valued f n start start 0
valued_start f n start = rw sub-zero (fills_start start (from f 0 n))

-- k places more, written through their part; m is the part's length as code has it
pub valued_part : (f : ℕ → ℕ) (n : ℕ) {start now : List ℕ} {c : ℕ} (xs : List ℕ) (k m : ℕ) → Valued f n start now c → n ≤ length start → c + k ≤ n → m ≡ k → length xs ≡ k → ((p : ℕ) → p < k → get_or xs p 0 ≡ f (c + p)) → Valued f n start (take c now ++ (xs ++ drop m (drop c now))) (c + k)
valued_part f n {start} {now} {c} xs k m a long h size xs_size e =
    let values : xs ≡ from (λ p. f (c + p)) 0 k = from_at (λ p. f (c + p)) xs k xs_size e in
    rw size (fills_part xs k (rw (values, ← from_part f n c k h) a) xs_size (omega arith))

pub valued_all : (f : ℕ → ℕ) (n : ℕ) {start now : List ℕ} {c : ℕ} → Valued f n start now c → length start ≤ c → n ≤ c → now ≡ from f 0 n
valued_all f n {start} {now} {c} a h end = fills_all (rw (from_end f n c end) at a) h

-- a place that is written
pub valued_at : (f : ℕ → ℕ) (n : ℕ) {start now : List ℕ} {c : ℕ} → Valued f n start now c → c ≤ n → (p : ℕ) → p < c → get_or now p 0 ≡ f p
valued_at f n {start} {now} {c} a low p h =
    let size : length (take c now) ≡ c = length-take-le c now (omega (arith, a.long, a.inside)) in
    sym (get_or-take c now p 0 h)
    ∙ sym (get_or-append (take c now) (from f c (n - c)) 0 p (omega arith))
    ∙ ap (λ (l : List ℕ). get_or l p 0) a.written
    ∙ get_or_from f 0 n p 0 (omega arith)
    ∙ ap f (zero-add p)
