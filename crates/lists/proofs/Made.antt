-- An array that calls of a closure make: one for each index, or one for each element of another array.
use Rattle.std.specs.Prelude.{◌≡◌, List, ℕ, zero, suc, ◌+◌, ◌<◌, get_or}
use mathlib.Core.Path.{sym, ap, ◌∙◌}
use native.Mathlib.Nat.{zero-add, add-zero}
use native.Mathlib.Omega.{arith}
use lib.Seq.{ext_get_or}
use denote.Param.Members.{Mut, Called}
use Rattle.std.specs.Array.{IsFromFnResultFrom, IsFromFnResult, IsMapOf}
use Rattle.lists.specs.Rows.{from}
use Rattle.lists.proofs.Rows.{length_from, get_or_from}

-- a closure of which `Holds` says what it captured: each call gives h of its index, and keeps what was captured
module _ {F B : Type 0} (g : Mut F (ℕ × Unit {0}) B) (Holds : F → Type 0) (h : ℕ → B) (gives : (f q : F) (i : ℕ) (y : B) → Holds f → Called g f (i, tt) y q → (y ≡ h i) × Holds q) where
  made_after : (f : F) (ys : List B) (i n : ℕ) → Holds f → IsFromFnResultFrom g f ys i n → (j : ℕ) (d : B) → j < n → get_or ys (i + j) d ≡ h (i + j)
  made_after f ys i zero held each j d low = absurd (omega arith)
  made_after f ys i (suc n) held (q, y, at, called, rest) zero d low = rw add-zero (at.1 d ∙ (gives f q i y held called).0)
  made_after f ys i (suc n) held (q, y, at, called, rest) (suc j) d low =
      let e : i + 1 + j ≡ i + suc j = omega arith in
      rw (← e) (made_after q ys (i + 1) n (gives f q i y held called).1 rest j d (omega arith))

  pub made_by_index : (f : F) (ys : List B) (n : ℕ) (d : B) → Holds f → IsFromFnResult g f ys n → ys ≡ from h 0 n
  made_by_index f ys n d held items =
      ext_get_or d ys (from h 0 n) (items.long ∙ sym (length_from h 0 n))
      (λ j low. let inside : j < n = omega (arith, items.long) in
      rw zero-add at (made_after f ys 0 n held items.each j d inside) ∙ sym (get_or_from h 0 n j d inside ∙ ap h (zero-add j)))

-- an array of what each element of another gives
module _ {F A B : Type 0} (g : Mut F (A × Unit {0}) B) (h : A → B) (gives : (f q : F) (x : A) (y : B) → Called g f (x, tt) y q → y ≡ h x) where
  pub made_by_element : (f : F) (xs : List A) (ys : List B) (n : ℕ) (d : A) (e : B) → IsMapOf g f xs ys n → ys ≡ from (λ j. h (get_or xs j d)) 0 n
  made_by_element f xs ys n d e items =
      let value : ℕ → B = λ j. h (get_or xs j d) in
      ext_get_or e ys (from value 0 n) (items.long ∙ sym (length_from value 0 n))
      (λ j low. let inside : j < n = omega (arith, items.long) in
      let (f, q, called) = items.at j d e inside in
      gives f q _ _ called ∙ sym (get_or_from value 0 n j e inside ∙ ap value (zero-add j)))
