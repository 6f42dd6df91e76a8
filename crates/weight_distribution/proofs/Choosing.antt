-- C(a, b) is the number of lists of b rising numbers below a.
use mathlib.Core.Path.{◌≡◌, refl, sym, ap, ap₂, subst, ◌∙◌}
use mathlib.Core.Logic.{by_cases}
use mathlib.Core.List.{List, [], ◌∷◌, ◌++◌, map}
use Prim.Native.Nat.{ℕ, zero, suc, ◌+◌, ◌<◌}
use native.Mathlib.Decide.{ℕ_discrete}
use native.Mathlib.Omega.{arith}
use lib.ListN.{length, get_or, take, length-append, length-map, get_or-append}
use lib.Seq.{take-suc, get_or-take, length-take-le, get_or_at, get_or-append-add, take_at, take_all}
use Rattle.std.proofs.lemmas.List.{get_or-map}
use Rattle.lists.proofs.All.{All, All-at, All-imp, All-map, Distinct, Distinct-at, Distinct-map}
use Rattle.weight_distribution.specs.Counts.{binomial}
use Rattle.weight_distribution.specs.Choosing.{Rising, choices, Choosing}
use Rattle.weight_distribution.proofs.Sums.{All-append}

-- a list stands at some place of a list of lists
abbrev StandsAt : List ℕ → List (List ℕ) → Type 0
StandsAt js xs = (i : ℕ) × (i < length xs) × (get_or xs i [] ≡ js)

stands_left : (js : List ℕ) (xs ys : List (List ℕ)) → StandsAt js xs → StandsAt js (xs ++ ys)
stands_left js xs ys (i, low, is) = (i, omega (arith, length-append xs ys), get_or-append xs ys [] i low ∙ is)

stands_right : (js : List ℕ) (xs ys : List (List ℕ)) → StandsAt js ys → StandsAt js (xs ++ ys)
stands_right js xs ys (i, low, is) = (length xs + i, omega (arith, length-append xs ys), get_or-append-add xs ys i [] ∙ is)

stands_map : (f : List ℕ → List ℕ) (js : List ℕ) (xs : List (List ℕ)) → StandsAt js xs → StandsAt (f js) (map f xs)
stands_map f js xs (i, low, is) = (i, omega (arith, length-map xs f), get_or-map f xs i [] [] low ∙ ap f is)

-- two lists of lists end to end
Distinct-append : (P Q : List ℕ → Type 0) → ((x y : List ℕ) → P x → Q y → x ≡ y → ⊥) → (xs ys : List (List ℕ)) → All P xs → All Q ys → Distinct xs → Distinct ys → Distinct (xs ++ ys)
Distinct-append P Q apart [] ys a b d e = e
Distinct-append P Q apart (x ∷ xs) ys a b d e =
    (All-append (λ y. x ≡ y → ⊥) xs ys d.0 (All-imp Q (λ y. x ≡ y → ⊥) (λ y q. apart x y a.0 q) ys b), Distinct-append P Q apart xs ys a.1 b d.1 e)

-- a list with one more number at its end
abbrev with_last : ℕ → List ℕ → List ℕ
with_last a js = js ++ (a ∷ [])

module _ (a b : ℕ) where
  last_rises : (js : List ℕ) → Rising a b js → Rising (suc a) (suc b) (with_last a js)
  last_rises js r =
      let here : (i : ℕ) → i < b → get_or (with_last a js) i 0 ≡ get_or js i 0 = λ i low. get_or-append js (a ∷ []) 0 i (omega (arith, r.long)) in
      let end : get_or (with_last a js) b 0 ≡ a = get_or_at js a [] 0 b r.long in
      record {
        long = length-append js (a ∷ []) ∙ omega (arith, r.long);
        below = λ i low. by_cases (ℕ_discrete i b) (λ is. rw is (omega (arith, end))) (λ other. omega (arith, here i (omega arith), r.below i (omega arith)));
        rises = λ i j up low.
            by_cases (ℕ_discrete j b)
            (λ is. rw is (omega (arith, end, here i (omega arith), r.below i (omega arith))))
            (λ other. omega (arith, here i (omega arith), here j (omega arith), r.rises i j up (omega arith)));
      }

  -- the last number is a, or all are below a
  last_known : (js : List ℕ) → Rising (suc a) (suc b) js → get_or js b 0 ≡ a → Rising a b (take b js) × (with_last a (take b js) ≡ js)
  last_known js r is =
      let size : length (take b js) ≡ b = length-take-le b js (omega (arith, r.long)) in
      let at : (i : ℕ) → i < b → get_or (take b js) i 0 ≡ get_or js i 0 = λ i low. get_or-take b js i 0 low in (
        record {
          long = size;
          below = λ i low. omega (arith, at i low, r.rises i b low (omega arith), is);
          rises = λ i j up low. omega (arith, at i (omega arith), at j low, r.rises i j up (omega arith));
        },
        ap (λ (x : ℕ). with_last x (take b js)) (sym is) ∙ sym (take-suc js b 0 (omega (arith, r.long))) ∙ take_all (suc b) js (omega (arith, r.long)),
      )

  last_lower : (js : List ℕ) → Rising (suc a) (suc b) js → (get_or js b 0 ≡ a → ⊥) → Rising a (suc b) js
  last_lower js r other =
      let most : get_or js b 0 < a = omega (arith, r.below b (omega arith)) in
      record {
        long = r.long;
        below = λ i low. by_cases (ℕ_discrete i b) (λ is. rw is most) (λ less. omega (arith, r.rises i b (omega arith) (omega arith)));
        rises = r.rises;
      }

wider : (a b : ℕ) (js : List ℕ) → Rising a b js → Rising (suc a) b js
wider a b js r = record { long = r.long; below = λ i low. omega (arith, r.below i low); rises = r.rises }

-- no numbers: one list
none_rise : (a : ℕ) → Rising a 0 []
none_rise a = record { long = refl; below = λ i low. absurd (omega arith); rises = λ i j up low. absurd (omega arith) }

no_numbers : (js : List ℕ) → length js ≡ 0 → [] ≡ js
no_numbers [] e = refl
no_numbers (j ∷ js) e = absurd (omega arith)

all_rise : (a b : ℕ) → All (Rising a b) (choices a b)
unfolding choices
all_rise zero zero = (none_rise 0, tt)
all_rise zero (suc b) = tt
all_rise (suc a) zero = (none_rise (suc a), tt)
all_rise (suc a) (suc b) =
    All-append (Rising (suc a) (suc b)) (map (with_last a) (choices a b)) (choices a (suc b))
    (All-map (Rising (suc a) (suc b)) (with_last a) (choices a b) (All-imp (Rising a b) (λ js. Rising (suc a) (suc b) (with_last a js)) (last_rises a b) (choices a b) (all_rise a b)))
    (All-imp (Rising a (suc b)) (Rising (suc a) (suc b)) (wider a (suc b)) (choices a (suc b)) (all_rise a (suc b)))

each_stands : (a b : ℕ) (js : List ℕ) → Rising a b js → StandsAt js (choices a b)
unfolding choices
each_stands zero zero js r = (0, omega arith, no_numbers js r.long)
each_stands zero (suc b) js r = absurd (omega (arith, r.below 0 (omega arith)))
each_stands (suc a) zero js r = (0, omega arith, no_numbers js r.long)
each_stands (suc a) (suc b) js r =
    by_cases (ℕ_discrete (get_or js b 0) a)
    (λ is.
    let (rest, whole) = last_known a b js r is in
    subst (λ (x : List ℕ). StandsAt x (map (with_last a) (choices a b) ++ choices a (suc b))) whole
    (stands_left (with_last a (take b js)) (map (with_last a) (choices a b)) (choices a (suc b)) (stands_map (with_last a) (take b js) (choices a b) (each_stands a b (take b js) rest))))
    (λ other. stands_right js (map (with_last a) (choices a b)) (choices a (suc b)) (each_stands a (suc b) js (last_lower a b js r other)))

apart_all : (a b : ℕ) → Distinct (choices a b)
unfolding choices
apart_all zero zero = (tt, tt)
apart_all zero (suc b) = tt
apart_all (suc a) zero = (tt, tt)
apart_all (suc a) (suc b) =
    Distinct-append (λ js. get_or js b 0 ≡ a) (Rising a (suc b)) (λ x y at r e. omega (arith, at, ap (λ (js : List ℕ). get_or js b 0) e, r.below b (omega arith)))
    (map (with_last a) (choices a b)) (choices a (suc b))
    (All-map (λ js. get_or js b 0 ≡ a) (with_last a) (choices a b) (All-imp (Rising a b) (λ js. get_or (with_last a js) b 0 ≡ a) (λ js r. get_or_at js a [] 0 b r.long) (choices a b) (all_rise a b)))
    (all_rise a (suc b))
    (Distinct-map (Rising a b) (with_last a) (λ x y p q e. sym (take_at x (a ∷ []) b p.long) ∙ ap (take b) e ∙ take_at y (a ∷ []) b q.long) (choices a b) (all_rise a b) (apart_all a b))
    (apart_all a (suc b))

count : (a b : ℕ) → length (choices a b) ≡ binomial a b
unfolding choices binomial
count zero zero = refl
count zero (suc b) = refl
count (suc a) zero = refl
count (suc a) (suc b) = length-append (map (with_last a) (choices a b)) (choices a (suc b)) ∙ ap₂ ◌+◌ (length-map (choices a b) (with_last a) ∙ count a b) (count a (suc b))

pub choosing : (a b : ℕ) → Choosing a b
choosing a b =
    record {
      count = count a b;
      each = each_stands a b;
      other = λ i low. All-at (Rising a b) [] (choices a b) (all_rise a b) i low;
      once = λ i j low high. Distinct-at [] (choices a b) (apart_all a b) i j low high;
    }
