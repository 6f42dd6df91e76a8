-- How many words have a given support: by differences, and place by place.
use mathlib.Core.Path.{◌≡◌, refl, sym, ap, ap₂, fun_ext, subst, ◌∙◌}
use mathlib.Core.Bool.{Bool, true, false, not, ◌&&◌, and-true, and-false}
use mathlib.Core.List.{List, [], ◌∷◌, ◌++◌, append_assoc, append-nil}
use Prim.Native.Nat.{ℕ, zero, suc, ◌+◌, ◌-◌, ◌*◌, ◌^◌, ◌≤◌, ◌<◌}
use native.Mathlib.Nat.{zero-add, add-zero, zero-mul, one-mul, add-mul}
use native.Mathlib.Omega.{arith}
use lib.Dec.{eqb, eqb-zero-suc, eqb-suc-zero, eqb-suc-suc}
use lib.ListN.{length, length-append}
use Rattle.lists.specs.Choice.{when}
use Rattle.lists.specs.Counting.{count_from}
use Rattle.lists.specs.Rows.{from, range}
use Rattle.lists.proofs.Places.{Places, Places-range, range_append, length_range}
use Rattle.weight_distribution.specs.Counts.{hamming_weight, binomial}
use Rattle.weight_distribution.specs.Inner.Prescribed.{prescribed}
use Rattle.weight_distribution.proofs.Sums.{all_pass, sum_add, sum_zero}
use Rattle.weight_distribution.proofs.Moves.{Places-front, Places-back, Places-next}
use Rattle.weight_distribution.proofs.Messages.{messages}
use Rattle.weight_distribution.proofs.Zeros.{Mds, zero_at, total, zero_on}

-- one word, that is zero at a place (b) or not
either : (b z v : Bool) → when (z && (not b && v)) 1 + when ((b && z) && v) 1 ≡ when (z && v) 1
either true true v = omega arith
either true false v = refl
either false true v = omega arith
either false false v = refl

-- the same, counted by its places from there on that are not zero
next_some : (b z v : Bool) (c w : ℕ) → when ((z && v) && eqb (when (not b) 1 + c) (suc w)) 1 ≡ when (((b && z) && v) && eqb c (suc w)) 1 + when ((z && (not b && v)) && eqb c w) 1
next_some true true v c w = rw (zero-add c) (omega arith)
next_some true false v c w = refl
next_some false true v c w = let e : 1 + c ≡ suc c = omega arith in rw (e, eqb-suc-suc c w) (omega arith)
next_some false false v c w = refl

next_none : (b z v : Bool) (c : ℕ) → when ((z && v) && eqb (when (not b) 1 + c) 0) 1 ≡ when (((b && z) && v) && eqb c 0) 1
next_none true z v c = rw (zero-add c)
next_none false z v c = let e : 1 + c ≡ suc c = omega arith in rw (e, eqb-suc-zero c, and-false (z && v))

pub binomial_zero : (a : ℕ) → binomial a 0 ≡ 1
unfolding binomial
binomial_zero zero = refl
binomial_zero (suc a) = refl

module _ {n k q : ℕ} {word : List ℕ → ℕ → ℕ} (code : Mds n k q word) where
  abbrev nonzero_at : List ℕ → ℕ → Bool
  nonzero_at m j = not (zero_at word m j)

  -- how many words are zero at the places Z and not zero at the places W
  abbrev within : List ℕ → List ℕ → ℕ
  within Z W = total q k (λ m. when (all_pass (zero_at word m) Z && all_pass (nonzero_at m) W) 1)

  within_split : (i : ℕ) (Z W : List ℕ) → within Z (i ∷ W) + within (i ∷ Z) W ≡ within Z W
  within_split i Z W =
      sym (sum_add (messages q k) (λ m. when (all_pass (zero_at word m) Z && (nonzero_at m i && all_pass (nonzero_at m) W)) 1) (λ m. when ((zero_at word m i && all_pass (zero_at word m) Z) && all_pass (nonzero_at m) W) 1))
      ∙ ap (total q k) (fun_ext (λ m. either (zero_at word m i) (all_pass (zero_at word m) Z) (all_pass (nonzero_at m) W)))

  -- one of the places W joins the others
  free : (i : ℕ) (W Z Y : List ℕ) → Places n n ((Z ++ Y) ++ (i ∷ W)) → Places n n ((Z ++ (Y ++ (i ∷ []))) ++ W)
  free i W Z Y p =
      let same : ((Z ++ Y) ++ (i ∷ W)) ≡ ((Z ++ (Y ++ (i ∷ []))) ++ W) = simp append_assoc in
      subst (Places n n) same p

  -- By induction on W; Y are the other places.
  within_count : (W Z Y : List ℕ) → Places n n ((Z ++ Y) ++ W) → within Z W ≡ prescribed n k q (length W) (n - length Z)
  unfolding prescribed
  within_count [] Z Y p =
      let all : Places n n (Z ++ Y) = subst (Places n n) (append-nil (Z ++ Y)) p in
      let exponent : k - length Z ≡ k + (n - length Z) - n = omega (arith, length-append Z Y, all.size) in
      ap (total q k) (fun_ext (λ m. ap (λ b. when b 1) (and-true (all_pass (zero_at word m) Z)))) ∙ zero_on code Z Y all ∙ ap (λ e. q ^ e) exponent
  within_count (i ∷ W) Z Y p =
      let less : n - length (i ∷ Z) ≡ n - length Z - 1 = omega arith in
      omega (arith, within_split i Z W, within_count W Z (Y ++ (i ∷ [])) (free i W Z Y p), within_count W (i ∷ Z) Y (Places-front n n i (Z ++ Y) W p), ap (prescribed n k q (length W)) less)

  -- No difference is cut off at zero.
  pub prescribed_mono : (w y : ℕ) → w < y → y ≤ n → prescribed n k q w (y - 1) ≤ prescribed n k q w y
  unfolding from
  prescribed_mono w y l h =
      let a : ℕ = n - y in
      let b : ℕ = y - w - 1 in
      let Z = range 0 a in
      let Y = range (0 + a) b in
      let i : ℕ = 0 + (a + b) in
      let W = range (i + 1) w in
      let count : n ≡ a + b + suc w = omega arith in
      let whole : range 0 n ≡ (Z ++ Y) ++ (i ∷ W) = ap (range 0) count ∙ range_append 0 (a + b) (suc w) ∙ ap (λ s. s ++ (i ∷ W)) (range_append 0 a b) in
      let p : Places n n ((Z ++ Y) ++ (i ∷ W)) = subst (Places n n) whole (Places-range n 0 n (omega arith)) in
      let more : prescribed n k q (length W) (n - length Z) ≡ prescribed n k q w y =
      ap₂ (prescribed n k q) (length_range (i + 1) w) (omega (arith, length_range 0 a)) in
      let less : prescribed n k q (length W) (n - length (i ∷ Z)) ≡ prescribed n k q w (y - 1) =
      ap₂ (prescribed n k q) (length_range (i + 1) w) (omega (arith, length_range 0 a)) in
      omega (arith, within_split i Z W, within_count W Z (Y ++ (i ∷ [])) (free i W Z Y p), within_count W (i ∷ Z) Y (Places-front n n i (Z ++ Y) W p), more, less)

  -- how many words are zero at the places Z, not zero at the places W, and not zero at w of the f places from i on
  abbrev with_weight : List ℕ → List ℕ → ℕ → ℕ → ℕ → ℕ
  with_weight Z W i f w = total q k (λ m. when ((all_pass (zero_at word m) Z && all_pass (nonzero_at m) W) && eqb (count_from f i (nonzero_at m)) w) 1)

  -- the place i is zero, or it is not
  weight_some : (Z W : List ℕ) (i f w : ℕ) → with_weight Z W i (suc f) (suc w) ≡ with_weight (i ∷ Z) W (i + 1) f (suc w) + with_weight Z (i ∷ W) (i + 1) f w
  unfolding count_from
  weight_some Z W i f w =
      let c : List ℕ → ℕ = λ m. count_from f (i + 1) (nonzero_at m) in
      ap (total q k) (fun_ext (λ m. next_some (zero_at word m i) (all_pass (zero_at word m) Z) (all_pass (nonzero_at m) W) (c m) w))
      ∙ sum_add (messages q k) (λ m. when (((zero_at word m i && all_pass (zero_at word m) Z) && all_pass (nonzero_at m) W) && eqb (c m) (suc w)) 1) (λ m. when ((all_pass (zero_at word m) Z && (nonzero_at m i && all_pass (nonzero_at m) W)) && eqb (c m) w) 1)

  weight_none : (Z W : List ℕ) (i f : ℕ) → with_weight Z W i (suc f) 0 ≡ with_weight (i ∷ Z) W (i + 1) f 0
  unfolding count_from
  weight_none Z W i f = ap (total q k) (fun_ext (λ m. next_none (zero_at word m i) (all_pass (zero_at word m) Z) (all_pass (nonzero_at m) W) (count_from f (i + 1) (nonzero_at m))))

  -- By induction on f: the place i joins Z or W.
  weight_on : (f i w : ℕ) (Z W : List ℕ) → Places i i (Z ++ W) → i + f ≡ n → with_weight Z W i f w ≡ binomial f w * prescribed n k q (length W + w) (length W + w)
  unfolding binomial count_from
  weight_on zero i zero Z W p e =
      let end : i ≡ n = omega arith in
      let all : Places n n ((Z ++ []) ++ W) = subst (λ l. Places n n (l ++ W)) (sym (append-nil Z)) (subst (λ j. Places j j (Z ++ W)) end p) in
      let rest : n - length Z ≡ length W = omega (arith, length-append Z W, p.size) in
      ap (total q k) (fun_ext (λ m. ap (λ b. when b 1) (and-true (all_pass (zero_at word m) Z && all_pass (nonzero_at m) W))))
      ∙ within_count W Z [] all
      ∙ rw (rest, add-zero (length W)) (sym (one-mul _))
  weight_on zero i (suc w) Z W p e =
      ap (total q k) (fun_ext (λ m. ap (λ b. when ((all_pass (zero_at word m) Z && all_pass (nonzero_at m) W) && b) 1) (eqb-zero-suc w) ∙ ap (λ b. when b 1) (and-false (all_pass (zero_at word m) Z && all_pass (nonzero_at m) W))))
      ∙ sum_zero (messages q k) ∙ sym (zero-mul _)
  weight_on (suc f) i zero Z W p e =
      weight_none Z W i f ∙ weight_on f (i + 1) 0 (i ∷ Z) W (Places-next i (Z ++ W) p) (omega arith) ∙ ap (λ c. c * prescribed n k q (length W + 0) (length W + 0)) (binomial_zero f)
  weight_on (suc f) i (suc w) Z W p e =
      let next = Places-next i (Z ++ W) p in
      let size : length (i ∷ W) + w ≡ length W + suc w = omega arith in
      let P : ℕ = prescribed n k q (length W + suc w) (length W + suc w) in
      let one : with_weight (i ∷ Z) W (i + 1) f (suc w) ≡ binomial f (suc w) * P = weight_on f (i + 1) (suc w) (i ∷ Z) W next (omega arith) in
      let two : with_weight Z (i ∷ W) (i + 1) f w ≡ binomial f w * P =
      weight_on f (i + 1) w Z (i ∷ W) (Places-back (i + 1) (i + 1) i Z W next) (omega arith) ∙ ap (λ v. binomial f w * prescribed n k q v v) size in
      omega (arith, weight_some Z W i f w, one, two, add-mul (binomial f w) (binomial f (suc w)) P)

  -- The words of Hamming weight w: each of C(n, w) supports has as many.
  pub by_support : (w : ℕ) → total q k (λ m. when (eqb (hamming_weight n (word m)) w) 1) ≡ binomial n w * prescribed n k q w w
  unfolding hamming_weight
  by_support w = weight_on n 0 w [] [] (record { low = tt; distinct = tt; size = refl }) (omega arith) ∙ ap (λ v. binomial n w * prescribed n k q v v) (zero-add w)
