-- Lists whose elements all have a property, and lists of pairwise distinct elements.
use mathlib.Core.Path.{◌≡◌, refl, sym, ap}
use mathlib.Core.List.{List, [], ◌∷◌, map}
use Prim.Native.Nat.{ℕ, zero, suc, ◌<◌}
use native.Mathlib.Omega.{arith}
use lib.ListN.{length, get_or, take, drop, replicate}

module _ {A : Type 0} where
  -- Every element has the property P.
  abbrev pub All : (A → Type 0) → List A → Type 0
  All P [] = Unit {0}
  All P (x ∷ xs) = P x × All P xs

  -- No two elements are equal.
  abbrev pub Distinct : List A → Type 0
  Distinct [] = Unit {0}
  Distinct (x ∷ xs) = All (λ y. x ≡ y → ⊥) xs × Distinct xs

  -- Just one value has the property P.
  abbrev pub ExactlyOne : (A → Type 0) → Type 0
  ExactlyOne P = (x : A) × P x × ((y : A) → P y → y ≡ x)

  -- Index i left out.
  abbrev pub erase : ℕ → List A → List A
  erase i [] = []
  erase zero (x ∷ xs) = xs
  erase (suc i) (x ∷ xs) = x ∷ erase i xs

  -- A property that follows.
  pub All-imp : (P Q : A → Type 0) → ((x : A) → P x → Q x) → (xs : List A) → All P xs → All Q xs
  All-imp P Q f [] h = tt
  All-imp P Q f (x ∷ xs) h = (f x h.0, All-imp P Q f xs h.1)

  -- Two properties at once.
  pub All-both : (P Q : A → Type 0) (xs : List A) → All P xs → All Q xs → All (λ x. P x × Q x) xs
  All-both P Q [] h k = tt
  All-both P Q (x ∷ xs) h k = ((h.0, k.0), All-both P Q xs h.1 k.1)

  -- The property at an index.
  pub All-at : (P : A → Type 0) (d : A) (xs : List A) → All P xs → (i : ℕ) → i < length xs → P (get_or xs i d)
  All-at P d [] h i l = absurd (omega arith)
  All-at P d (x ∷ xs) h zero l = h.0
  All-at P d (x ∷ xs) h (suc i) l = All-at P d xs h.1 i (omega arith)

  -- The property at every index is the property of every element.
  pub All-of : (P : A → Type 0) (d : A) (xs : List A) → ((i : ℕ) → i < length xs → P (get_or xs i d)) → All P xs
  All-of P d [] h = tt
  All-of P d (x ∷ xs) h = (h 0 (omega arith), All-of P d xs (λ i l. h (suc i) (omega arith)))

  -- Elements that are equal only at equal indices are distinct.
  pub Distinct-of : (d : A) (xs : List A) → ((i j : ℕ) → i < length xs → j < length xs → get_or xs i d ≡ get_or xs j d → i ≡ j) → Distinct xs
  Distinct-of d [] h = tt
  Distinct-of d (x ∷ xs) h = (
    All-of (λ y. x ≡ y → ⊥) d xs (λ j l e. let z : 0 ≡ suc j = h 0 (suc j) (omega arith) (omega arith) e in omega arith),
    Distinct-of d xs (λ i j l k e. let z : suc i ≡ suc j = h (suc i) (suc j) (omega arith) (omega arith) e in omega arith),
  )

  -- And of distinct elements, equal ones stand at equal indices.
  pub Distinct-at : (d : A) (xs : List A) → Distinct xs → (i j : ℕ) → i < length xs → j < length xs → get_or xs i d ≡ get_or xs j d → i ≡ j
  Distinct-at d [] u i j l k e = absurd (omega arith)
  Distinct-at d (x ∷ xs) u zero zero l k e = refl
  Distinct-at d (x ∷ xs) u zero (suc j) l k e = absurd (All-at (λ y. x ≡ y → ⊥) d xs u.0 j (omega arith) e)
  Distinct-at d (x ∷ xs) u (suc i) zero l k e = absurd (All-at (λ y. x ≡ y → ⊥) d xs u.0 i (omega arith) (sym e))
  Distinct-at d (x ∷ xs) u (suc i) (suc j) l k e = ap suc (Distinct-at d xs u.1 i j (omega arith) (omega arith) e)

  pub All-replicate : (P : A → Type 0) (n : ℕ) (x : A) → P x → All P (replicate n x)
  All-replicate P zero x h = tt
  All-replicate P (suc n) x h = (h, All-replicate P n x h)

  -- To leave one element out keeps what holds of all, and that they are distinct.
  pub All-erase : (P : A → Type 0) (i : ℕ) (xs : List A) → All P xs → All P (erase i xs)
  All-erase P i [] h = tt
  All-erase P zero (x ∷ xs) h = h.1
  All-erase P (suc i) (x ∷ xs) h = (h.0, All-erase P i xs h.1)

  pub Distinct-erase : (i : ℕ) (xs : List A) → Distinct xs → Distinct (erase i xs)
  Distinct-erase i [] h = tt
  Distinct-erase zero (x ∷ xs) h = h.1
  Distinct-erase (suc i) (x ∷ xs) h = (All-erase (λ y. x ≡ y → ⊥) i xs h.0, Distinct-erase i xs h.1)

  pub length_erase : (i : ℕ) (xs : List A) → i < length xs → suc (length (erase i xs)) ≡ length xs
  length_erase i [] l = absurd (omega arith)
  length_erase zero (x ∷ xs) l = refl
  length_erase (suc i) (x ∷ xs) l = ap suc (length_erase i xs (omega arith))

  -- A property of all elements but one, and of that one.
  pub All-restore : (P : A → Type 0) (d : A) (i : ℕ) (xs : List A) → All P (erase i xs) → P (get_or xs i d) → All P xs
  All-restore P d i [] h k = tt
  All-restore P d zero (x ∷ xs) h k = (k, h)
  All-restore P d (suc i) (x ∷ xs) h k = (h.0, All-restore P d i xs h.1 k)

module _ {A B : Type 0} where
  -- The property of the images.
  pub All-map : (P : B → Type 0) (f : A → B) (xs : List A) → All (λ x. P (f x)) xs → All P (map f xs)
  All-map P f [] h = tt
  All-map P f (x ∷ xs) h = (h.0, All-map P f xs h.1)

  pub All-unmap : (P : B → Type 0) (f : A → B) (xs : List A) → All P (map f xs) → All (λ x. P (f x)) xs
  All-unmap P f [] h = tt
  All-unmap P f (x ∷ xs) h = (h.0, All-unmap P f xs h.1)

  -- A map that is injective on the elements with the property P keeps them distinct.
  pub Distinct-map : (P : A → Type 0) (f : A → B) → ((x y : A) → P x → P y → f x ≡ f y → x ≡ y) → (xs : List A) → All P xs → Distinct xs → Distinct (map f xs)
  Distinct-map P f inj [] h k = tt
  Distinct-map P f inj (x ∷ xs) h k = (
    All-map (λ y. f x ≡ y → ⊥) f xs (All-imp (λ y. P y × (x ≡ y → ⊥)) (λ y. f x ≡ f y → ⊥) (λ y g e. g.1 (inj x y h.0 g.0 e)) xs (All-both P (λ y. x ≡ y → ⊥) xs h.1 k.0)),
    Distinct-map P f inj xs h.1 k.1,
  )

  -- Two maps that agree on every element give one list, and the other way round.
  pub map_agree : (f g : A → B) (xs : List A) → All (λ x. f x ≡ g x) xs → map f xs ≡ map g xs
  map_agree f g [] h = refl
  map_agree f g (x ∷ xs) h = λ i. h.0 i ∷ map_agree f g xs h.1 i

  pub agree_map : (f g : A → B) (xs : List A) → map f xs ≡ map g xs → All (λ x. f x ≡ g x) xs
  agree_map f g [] e = tt
  agree_map f g (x ∷ xs) e = (cc, agree_map f g xs (cc))

  -- the images of a part
  pub map_take : (f : A → B) (i : ℕ) (xs : List A) → map f (take i xs) ≡ take i (map f xs)
  map_take f zero xs = refl
  map_take f (suc i) [] = refl
  map_take f (suc i) (x ∷ xs) = ap (λ l. f x ∷ l) (map_take f i xs)

  pub map_drop : (f : A → B) (i : ℕ) (xs : List A) → map f (drop i xs) ≡ drop i (map f xs)
  map_drop f zero xs = refl
  map_drop f (suc i) [] = refl
  map_drop f (suc i) (x ∷ xs) = map_drop f i xs
