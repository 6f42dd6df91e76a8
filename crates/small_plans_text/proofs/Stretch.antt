-- Rows that are empty outside a stretch.
use mathlib.Core.Path.{◌≡◌, refl, sym, ap, ap₂, ◌∙◌}
use mathlib.Core.List.{List, [], ◌++◌, append-nil, append_assoc}
use Prim.Native.Nat.{ℕ, zero, suc, ◌+◌, ◌-◌, ◌≤◌, ◌<◌}
use native.Mathlib.Nat.{add-zero, zero-add, suc-add}
use native.Mathlib.Omega.{arith}
use Rattle.lists.specs.Rows.{rows_from}
use Rattle.lists.proofs.Rows.{rows_ext}

-- empty rows
pub rows_none : (g : ℕ → List ℕ) (i n : ℕ) → ((x : ℕ) → i ≤ x → x < i + n → g x ≡ []) → rows_from g i n ≡ []
unfolding rows_from
rows_none g i zero h = refl
rows_none g i (suc n) h = ap₂ ◌++◌ (h i (omega arith) (omega arith)) (rows_none g (i + 1) n (λ x a b. h x (omega arith) (omega arith)))

-- two stretches end to end
rows_append : (g : ℕ → List ℕ) (i m n : ℕ) → rows_from g i (m + n) ≡ rows_from g i m ++ rows_from g (i + m) n
unfolding rows_from
rows_append g i zero n = ap₂ (rows_from g) (sym (add-zero i)) (zero-add n)
rows_append g i (suc m) n =
    let e : i + 1 + m ≡ i + suc m = omega arith in
    ap (rows_from g i) (suc-add m n)
    ∙ ap (λ l. g i ++ l) (rows_append g (i + 1) m n ∙ ap (λ k. rows_from g (i + 1) m ++ rows_from g k n) e)
    ∙ sym (append_assoc (g i) (rows_from g (i + 1) m) (rows_from g (i + suc m) n))

-- of n rows only those from i on and before e hold anything, those of f
pub rows_part : (g f : ℕ → List ℕ) (i e n : ℕ) → i ≤ e → e ≤ n → ((x : ℕ) → x < i → g x ≡ []) → ((x : ℕ) → i ≤ x → x < e → g x ≡ f x) → ((x : ℕ) → e ≤ x → x < n → g x ≡ []) → rows_from g 0 n ≡ rows_from f i (e - i)
rows_part g f i e n low high front held back =
    let whole : n ≡ i + (e - i + (n - e)) = omega arith in
    ap (rows_from g 0) whole
    ∙ rows_append g 0 i (e - i + (n - e))
    ∙ ap₂ ◌++◌
    (rows_none g 0 i (λ x a b. front x (omega arith)))
    (ap (λ j. rows_from g j (e - i + (n - e))) (zero-add i)
    ∙ rows_append g i (e - i) (n - e)
    ∙ ap₂ ◌++◌
    (rows_ext g f i (e - i) (λ x a b. held x (omega arith) (omega arith)))
    (rows_none g (i + (e - i)) (n - e) (λ x a b. back x (omega arith) (omega arith)))
    ∙ append-nil (rows_from f i (e - i)))
