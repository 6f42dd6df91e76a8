-- A row begins at one node of the round: it is not zero there, and zero at the node before.
use mathlib.Core.Path.{◌≡◌, sym, ap, ◌∙◌}
use Prim.Native.Nat.{ℕ, ◌+◌, ◌-◌, ◌%◌, ◌≤◌, ◌<◌}
use native.Mathlib.Nat.{mod-lt, mod-eq_of_lt, mod-add-mod, add-mod_right}
use native.Mathlib.Omega.{arith}
use borrow.Author.Tests.{ltb-true, ltb-false}
use lib.Dec.{ltb}
use Rattle.lists.proofs.Cases.{by_test}
use Rattle.field.proofs.Modular.{mod_once}

-- the place after y on a round of n is 0 where it lies below all places that follow y
wraps : (n d y : ℕ) → y < n → d ≤ y → (y + 1) % n < d → (y + 1) % n ≡ 0
wraps n d y below high low =
    by_test (ltb (y + 1) n)
    (λ t. let e = mod-eq_of_lt {n = y + 1} {m = n} (ltb-true (y + 1) n t) in absurd (omega arith))
    (λ t. let l = ltb-false (y + 1) n t in sym (mod_once (y + 1) n 0 (omega arith) (omega arith)))

-- two shifts whose difference is no part of a round are equal
pub same_shift : (n s t : ℕ) → s < n → t < n → ((n - t) % n + s) % n ≡ 0 → t ≡ s
same_shift n s t hs ht e =
    let w : (n - t + s) % n ≡ 0 = sym (mod-add-mod (n - t) n s) ∙ e in
    by_test (ltb (n - t + s) n)
    (λ l. let z = mod-eq_of_lt {n = n - t + s} {m = n} (ltb-true (n - t + s) n l) in absurd (omega arith))
    (λ l. let q = ltb-false (n - t + s) n l in let z : n - t + s - n ≡ (n - t + s) % n = mod_once (n - t + s) n (n - t + s - n) (omega arith) (omega arith) in omega arith)

-- the row with the shift s begins at the first node of the row with the shift t only where the shifts are equal
pub same_start : (n d s t : ℕ) → s < n → t < n → ((n - t) % n + s) % n < d → d ≤ (((n - t) % n + (n - 1)) % n + s) % n → t ≡ s
same_start n d s t hs ht low high =
    let f = (n - t) % n in
    let before = (f + (n - 1)) % n in
    let y = (before + s) % n in
    let next : (y + 1) % n ≡ (f + s) % n = mod-add-mod (before + s) n 1 ∙ ap (λ (x : ℕ). x % n) (omega arith) ∙ mod-add-mod (f + (n - 1)) n (s + 1) ∙ ap (λ (x : ℕ). x % n) (omega arith) ∙ add-mod_right (f + s) n in
    same_shift n s t hs ht (sym next ∙ wraps n d y (mod-lt (before + s) (omega arith)) high (rw next low))
