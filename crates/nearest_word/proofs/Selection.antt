-- The elements of a list that have a decidable property.
use mathlib.Core.Path.{◌≡◌, refl}
use mathlib.Core.List.{List, [], ◌∷◌}
use Prim.Native.Nat.{ℕ, suc, ◌+◌, ◌<◌}
use native.Mathlib.Omega.{arith}
use lib.ListN.{length}
use Rattle.lists.proofs.All.{All, Distinct}
use Rattle.lists.proofs.Places.{Places}

-- The decision of the negation.
abbrev pub dec_not : {P : Type 0} → Dec P → Dec (P → ⊥)
dec_not (yes h) = no (λ f. f h)
dec_not (no h) = yes h

-- What is decided and not false is true.
pub stable : (P : Type 0) → Dec P → ((P → ⊥) → ⊥) → P
stable P (yes h) f = h
stable P (no h) f = absurd (f h)

module _ {A : Type 0} where
  -- x before l where P holds, l alone where not.
  abbrev pub cons_if : {P : Type 0} → Dec P → A → List A → List A
  cons_if (yes h) x l = x ∷ l
  cons_if (no h) x l = l

  module _ (P : A → Type 0) (d : (x : A) → Dec (P x)) where
    -- The elements with the property P.
    abbrev pub keep : List A → List A
    keep [] = []
    keep (x ∷ xs) = cons_if (d x) x (keep xs)

    keep_step : (x : A) (l : List A) (c : Dec (P x)) → All P l → All P (cons_if c x l)
    keep_step x l (yes p) h = (p, h)
    keep_step x l (no p) h = h

    -- They all have it.
    pub All-keep : (xs : List A) → All P (keep xs)
    All-keep [] = tt
    All-keep (x ∷ xs) = keep_step x (keep xs) (d x) (All-keep xs)

    also_step : (Q : A → Type 0) (x : A) (l : List A) (c : Dec (P x)) → Q x → All Q l → All Q (cons_if c x l)
    also_step Q x l (yes p) q h = (q, h)
    also_step Q x l (no p) q h = h

    -- They keep what holds of all.
    pub All-keep-also : (Q : A → Type 0) (xs : List A) → All Q xs → All Q (keep xs)
    All-keep-also Q [] h = tt
    All-keep-also Q (x ∷ xs) h = also_step Q x (keep xs) (d x) h.0 (All-keep-also Q xs h.1)

    unkeep_step : (Q : A → Type 0) (x : A) (l : List A) (c : Dec (P x)) → All Q (cons_if c x l) → (P x → Q x) × All Q l
    unkeep_step Q x l (yes p) h = (λ q. h.0, h.1)
    unkeep_step Q x l (no p) h = (λ q. absurd (p q), h)

    -- What holds of them holds of each element with the property.
    pub All-unkeep : (Q : A → Type 0) (xs : List A) → All Q (keep xs) → All (λ x. P x → Q x) xs
    All-unkeep Q [] h = tt
    All-unkeep Q (x ∷ xs) h = let u = unkeep_step Q x (keep xs) (d x) h in (u.0, All-unkeep Q xs u.1)

    distinct_step : (x : A) (l : List A) (c : Dec (P x)) → All (λ y. x ≡ y → ⊥) l → Distinct l → Distinct (cons_if c x l)
    distinct_step x l (yes p) n h = (n, h)
    distinct_step x l (no p) n h = h

    pub Distinct-keep : (xs : List A) → Distinct xs → Distinct (keep xs)
    Distinct-keep [] h = tt
    Distinct-keep (x ∷ xs) h = distinct_step x (keep xs) (d x) (All-keep-also (λ y. x ≡ y → ⊥) xs h.0) (Distinct-keep xs h.1)

  module _ (P : A → Type 0) (d : (x : A) → Dec (P x)) where
    length_step : (x : A) (l m : List A) (c : Dec (P x)) (n : ℕ) → length l + length m ≡ n → length (cons_if c x l) + length (cons_if (dec_not c) x m) ≡ suc n
    length_step x l m (yes p) n h = omega arith
    length_step x l m (no p) n h = omega arith

    -- Every element has the property or has it not.
    pub length_keep : (xs : List A) → length (keep P d xs) + length (keep (λ x. P x → ⊥) (λ x. dec_not (d x)) xs) ≡ length xs
    length_keep [] = refl
    length_keep (x ∷ xs) = length_step x (keep P d xs) (keep (λ x. P x → ⊥) (λ x. dec_not (d x)) xs) (d x) (length xs) (length_keep xs)

-- Places that are kept are places.
pub Places-keep : (P : ℕ → Type 0) (d : (j : ℕ) → Dec (P j)) (n m : ℕ) (js : List ℕ) → Places n m js → Places n (length (keep P d js)) (keep P d js)
Places-keep P d n m js h = record { low = All-keep-also P d (λ j. j < n) js h.low; distinct = Distinct-keep P d js h.distinct; size = refl }
