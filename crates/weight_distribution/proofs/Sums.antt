-- Tests of the elements of a list, and sums over them.
use mathlib.Core.Path.{◌≡◌, refl, ap, ap₂, fun_ext, sym, ◌∙◌}
use mathlib.Core.Bool.{Bool, true, false, ◌&&◌}
use mathlib.Core.List.{List, [], ◌∷◌, ◌++◌, map}
use Prim.Native.Nat.{ℕ, zero, suc, ◌+◌, ◌*◌}
use native.Mathlib.Nat.{zero-mul, one-mul, add-mul, suc-mul}
use native.Mathlib.Omega.{arith}
use lib.ListN.{length}
use Rattle.lists.specs.Choice.{when}
use Rattle.lists.specs.Counting.{count_from}
use Rattle.lists.specs.Rows.{from, range}
use Rattle.lists.proofs.All.{All}
use Rattle.std.proofs.lemmas.Bool.{and_parts}
use Rattle.lists.proofs.Cases.{same_test}
use Rattle.weight_distribution.specs.Counts.{sum_of}

module _ {A : Type 0} where
  -- every element passes the test
  abbrev pub all_pass : (A → Bool) → List A → Bool
  all_pass p [] = true
  all_pass p (x ∷ xs) = p x && all_pass p xs

  pub pass_all : (p : A → Bool) (xs : List A) → all_pass p xs ≡ true → All (λ x. p x ≡ true) xs
  pass_all p [] e = tt
  pass_all p (x ∷ xs) e = ((and_parts (p x) (all_pass p xs) e).0, pass_all p xs (and_parts (p x) (all_pass p xs) e).1)

  pub all_pass_lem : (p : A → Bool) (xs : List A) → All (λ x. p x ≡ true) xs → all_pass p xs ≡ true
  all_pass_lem p [] h = refl
  all_pass_lem p (x ∷ xs) h = rw h.0 (all_pass_lem p xs h.1)

  -- two lists end to end
  pub All-append : (P : A → Type 0) (xs ys : List A) → All P xs → All P ys → All P (xs ++ ys)
  All-append P [] ys a b = b
  All-append P (x ∷ xs) ys a b = (a.0, All-append P xs ys a.1 b)

  pub sum_ext : (P : A → Type 0) (xs : List A) (f g : A → ℕ) → All P xs → ((x : A) → P x → f x ≡ g x) → sum_of xs f ≡ sum_of xs g
  unfolding sum_of
  sum_ext P [] f g h e = refl
  sum_ext P (x ∷ xs) f g h e = ap₂ ◌+◌ (e x h.0) (sum_ext P xs f g h.1 e)

  pub sum_add : (xs : List A) (f g : A → ℕ) → sum_of xs (λ x. f x + g x) ≡ sum_of xs f + sum_of xs g
  unfolding sum_of
  sum_add [] f g = refl
  sum_add (x ∷ xs) f g = omega (arith, sum_add xs f g)

  pub sum_scale : (xs : List A) (f : A → ℕ) (c : ℕ) → sum_of xs (λ x. f x * c) ≡ sum_of xs f * c
  unfolding sum_of
  sum_scale [] f c = sym (zero-mul c)
  sum_scale (x ∷ xs) f c = omega (arith, sum_scale xs f c, add-mul (f x) (sum_of xs f) c)

  pub sum_const : (xs : List A) (c : ℕ) → sum_of xs (λ x. c) ≡ length xs * c
  unfolding sum_of
  sum_const [] c = sym (zero-mul c)
  sum_const (x ∷ xs) c = omega (arith, sum_const xs c, suc-mul (length xs) c)

  pub sum_zero : (xs : List A) → sum_of xs (λ x. 0) ≡ 0
  unfolding sum_of
  sum_zero [] = refl
  sum_zero (x ∷ xs) = omega (arith, sum_zero xs)

  -- a condition that does not depend on the element
  pub sum_when : (s : Bool) (p : A → Bool) (xs : List A) → sum_of xs (λ x. when (s && p x) 1) ≡ when s (sum_of xs (λ x. when (p x) 1))
  sum_when true p xs = refl
  sum_when false p xs = sum_zero xs

  pub sum_append : (xs ys : List A) (f : A → ℕ) → sum_of (xs ++ ys) f ≡ sum_of xs f + sum_of ys f
  unfolding sum_of
  sum_append [] ys f = omega arith
  sum_append (x ∷ xs) ys f = omega (arith, sum_append xs ys f)

module _ {A B : Type 0} where
  pub sum_swap : (xs : List A) (ys : List B) (f : A → B → ℕ) → sum_of xs (λ x. sum_of ys (f x)) ≡ sum_of ys (λ y. sum_of xs (λ x. f x y))
  unfolding sum_of
  sum_swap [] ys f = sym (sum_zero ys)
  sum_swap (x ∷ xs) ys f = ap (λ c. sum_of ys (f x) + c) (sum_swap xs ys f) ∙ sym (sum_add ys (f x) (λ y. sum_of xs (λ x. f x y)))

  pub pass_map : (p : B → Bool) (g : A → B) (xs : List A) → all_pass p (map g xs) ≡ all_pass (λ x. p (g x)) xs
  pass_map p g [] = refl
  pass_map p g (x ∷ xs) = ap (λ b. p (g x) && b) (pass_map p g xs)

  pub sum_map : (g : A → B) (xs : List A) (f : B → ℕ) → sum_of (map g xs) f ≡ sum_of xs (λ x. f (g x))
  unfolding sum_of
  sum_map g [] f = refl
  sum_map g (x ∷ xs) f = ap (λ c. f (g x) + c) (sum_map g xs f)

-- a count is a sum
pub sum_count : (f i : ℕ) (p : ℕ → Bool) → sum_of (range i f) (λ x. when (p x) 1) ≡ count_from f i p
unfolding sum_of from count_from
sum_count zero i p = refl
sum_count (suc f) i p = ap (λ c. when (p i) 1 + c) (sum_count f (i + 1) p)

-- an equality test, and a list that has each value with the property P just once
module _ {A : Type 0} (same : A → A → Bool) (same_eq : (x y : A) → same x y ≡ true → x ≡ y) (eq_same : (x : A) → same x x ≡ true) (P : A → Type 0) (xs : List A) (all : All P xs) (once : (y : A) → P y → sum_of xs (λ x. when (same x y) 1) ≡ 1) where
  -- the value at the one place where the test holds
  pub sum_pick : (y : A) (f : A → ℕ) → P y → sum_of xs (λ x. when (same x y) (f x)) ≡ f y
  sum_pick y f h =
      ap (sum_of xs) (fun_ext (λ x. value x (same x y) refl)) ∙ sum_scale xs (λ x. when (same x y) 1) (f y) ∙ ap (λ c. c * f y) (once y h) ∙ one-mul (f y)
    where
      value : (x : A) (b : Bool) → same x y ≡ b → when b (f x) ≡ when b 1 * f y
      value x true e = rw (same_eq x y e) (sym (one-mul (f y)))
      value x false e = sym (zero-mul (f y))

  -- a bijection of the values permutes the terms of a sum
  pub sum_permute : (g : A → A) → ((x : A) → P x → P (g x)) → ((y : A) → P y → (m : A) × P m × ((x : A) → P x → g x ≡ y → x ≡ m) × (g m ≡ y)) → (f : A → ℕ) → sum_of xs (λ x. f (g x)) ≡ sum_of xs f
  sum_permute g closed hit f =
      sum_ext P xs (λ x. f (g x)) (λ x. sum_of xs (λ y. when (same y (g x)) (f y))) all (λ x h. sym (sum_pick (g x) f (closed x h)))
      ∙ sum_swap xs xs (λ x y. when (same y (g x)) (f y))
      ∙ sum_ext P xs (λ y. sum_of xs (λ x. when (same y (g x)) (f y))) f all (λ y h. once_hit y (hit y h))
    where
      once_hit : (y : A) → (m : A) × P m × ((x : A) → P x → g x ≡ y → x ≡ m) × (g m ≡ y) → sum_of xs (λ x. when (same y (g x)) (f y)) ≡ f y
      once_hit y (m, h, u, e) =
          sum_ext P xs (λ x. when (same y (g x)) (f y)) (λ x. when (same x m) (f y)) all
          (λ x p.
          ap (λ b. when b (f y))
          (same_test (same y (g x)) (same x m)
          (λ t. rw (u x p (sym (same_eq y (g x) t))) (eq_same m))
          (λ t. rw (same_eq x m t, e) (eq_same y))))
          ∙ sum_pick m (λ x. f y) h
