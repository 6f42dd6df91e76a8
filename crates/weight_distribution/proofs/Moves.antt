-- One of several places moved to the front of their list or back; the first of several places.
use mathlib.Core.Path.{◌≡◌, sym, ◌∙◌}
use mathlib.Core.List.{List, [], ◌∷◌, ◌++◌}
use Prim.Native.Nat.{ℕ, zero, suc, ◌+◌, ◌≤◌, ◌<◌}
use native.Mathlib.Omega.{arith}
use lib.ListN.{length, take, length-append}
use lib.Seq.{length-take-le}
use Rattle.lists.proofs.All.{All, All-imp, Distinct}
use Rattle.lists.proofs.Places.{Places}

module _ {A : Type 0} where
  All-front : (P : A → Type 0) (i : A) (xs ys : List A) → All P (xs ++ (i ∷ ys)) → P i × All P (xs ++ ys)
  All-front P i [] ys h = h
  All-front P i (x ∷ xs) ys h = let (here, rest) = All-front P i xs ys h.1 in (here, (h.0, rest))

  All-back : (P : A → Type 0) (i : A) (xs ys : List A) → P i → All P (xs ++ ys) → All P (xs ++ (i ∷ ys))
  All-back P i [] ys p h = (p, h)
  All-back P i (x ∷ xs) ys p h = (h.0, All-back P i xs ys p h.1)

  Distinct-front : (i : A) (xs ys : List A) → Distinct (xs ++ (i ∷ ys)) → Distinct (i ∷ (xs ++ ys))
  Distinct-front i [] ys d = d
  Distinct-front i (x ∷ xs) ys d =
      let (other, rest) = Distinct-front i xs ys d.1 in
      let (apart, others) = All-front (λ y. x ≡ y → ⊥) i xs ys d.0 in
      (((λ e. apart (sym e)), other), (others, rest))

  Distinct-back : (i : A) (xs ys : List A) → Distinct (i ∷ (xs ++ ys)) → Distinct (xs ++ (i ∷ ys))
  Distinct-back i [] ys d = d
  Distinct-back i (x ∷ xs) ys d =
      (All-back (λ y. x ≡ y → ⊥) i xs ys (λ e. d.0.0 (sym e)) d.1.0, Distinct-back i xs ys (d.0.1, d.1.1))

  pub All-take : (P : A → Type 0) (i : ℕ) (xs : List A) → All P xs → All P (take i xs)
  All-take P zero xs h = tt
  All-take P (suc i) [] h = tt
  All-take P (suc i) (x ∷ xs) h = (h.0, All-take P i xs h.1)

  Distinct-take : (i : ℕ) (xs : List A) → Distinct xs → Distinct (take i xs)
  Distinct-take zero xs h = tt
  Distinct-take (suc i) [] h = tt
  Distinct-take (suc i) (x ∷ xs) h = (All-take (λ y. x ≡ y → ⊥) i xs h.0, Distinct-take i xs h.1)

length_moved : (i : ℕ) (xs ys : List ℕ) → length (xs ++ (i ∷ ys)) ≡ length (i ∷ (xs ++ ys))
length_moved i xs ys = omega (arith, length-append xs (i ∷ ys), length-append xs ys)

-- a place moved to the front
pub Places-front : (n k i : ℕ) (xs ys : List ℕ) → Places n k (xs ++ (i ∷ ys)) → Places n k (i ∷ (xs ++ ys))
Places-front n k i xs ys p =
    record {
      low = All-front (λ j. j < n) i xs ys p.low;
      distinct = Distinct-front i xs ys p.distinct;
      size = sym (length_moved i xs ys) ∙ p.size;
    }

-- and from the front into the list
pub Places-back : (n k i : ℕ) (xs ys : List ℕ) → Places n k (i ∷ (xs ++ ys)) → Places n k (xs ++ (i ∷ ys))
Places-back n k i xs ys p =
    record {
      low = All-back (λ j. j < n) i xs ys p.low.0 p.low.1;
      distinct = Distinct-back i xs ys p.distinct;
      size = length_moved i xs ys ∙ p.size;
    }

-- a new largest place
pub Places-next : (i : ℕ) (js : List ℕ) → Places i i js → Places (i + 1) (i + 1) (i ∷ js)
Places-next i js p =
    record {
      low = (omega arith, All-imp (λ j. j < i) (λ j. j < i + 1) (λ j l. omega arith) js p.low);
      distinct = (All-imp (λ j. j < i) (λ j. i ≡ j → ⊥) (λ j l e. omega arith) js p.low, p.distinct);
      size = omega (arith, p.size);
    }

-- the first i of m places
pub Places-take : (n m i : ℕ) (js : List ℕ) → Places n m js → i ≤ m → Places n i (take i js)
Places-take n m i js p l =
    record {
      low = All-take (λ j. j < n) i js p.low;
      distinct = Distinct-take i js p.distinct;
      size = length-take-le i js (omega (arith, p.size));
    }
