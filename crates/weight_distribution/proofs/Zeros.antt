-- Codes of distance n − k + 1: how many messages have a word that is zero at given places.
use mathlib.Core.Path.{◌≡◌, refl, sym, ap, fun_ext, subst, ◌∙◌}
use mathlib.Core.Bool.{Bool, true}
use mathlib.Core.List.{List, ◌++◌, map, append_assoc}
use Prim.Native.Nat.{ℕ, ◌-◌, ◌^◌, ◌≤◌, ◌<◌}
use native.Mathlib.Decide.{dec_le}
use native.Mathlib.Omega.{arith}
use lib.Dec.{eqb}
use lib.ListN.{length, take, drop, replicate, length-replicate, length-map, take-append-drop}
use lib.Seq.{take-take, take_at, take-append-le}
use borrow.Author.Tests.{eqb-true, eq-eqb}
use Rattle.lists.specs.Choice.{when}
use Rattle.lists.proofs.All.{All, All-imp, All-both, All-map, All-replicate, ExactlyOne, map_agree, map_take}
use Rattle.lists.proofs.Places.{Places}
use Rattle.lists.proofs.Cases.{same_test}
use Rattle.weight_distribution.specs.Counts.{sum_of}
use Rattle.weight_distribution.proofs.Sums.{all_pass, pass_all, all_pass_lem, pass_map, sum_ext, sum_permute}
use Rattle.weight_distribution.proofs.Moves.{All-take, Places-take}
use Rattle.weight_distribution.proofs.Messages.{Message, messages, All-messages, same_list, same_list_lem, list_same, messages_once, messages_zero}

-- A code of n places in which any k symbols at any k places are of exactly one message (maximum distance separable):
-- `word m j` is place j of the word of message m.
pub record Mds (n k q : ℕ) (word : List ℕ → ℕ → ℕ) : Type 0 where
  pub some : 0 < q
  pub fits : k ≤ n
  pub symbol : (m : List ℕ) (j : ℕ) → Message q k m → j < n → word m j < q
  pub one : (js ys : List ℕ) → Places n k js → Message q k ys → ExactlyOne (λ m. Message q k m × (map (word m) js ≡ ys))
  pub zeros : (j : ℕ) → j < n → word (replicate k 0) j ≡ 0

-- place j of the word is zero
abbrev pub zero_at : (List ℕ → ℕ → ℕ) → List ℕ → ℕ → Bool
zero_at word m j = eqb (word m j) 0

-- a sum over all messages
abbrev pub total : ℕ → ℕ → (List ℕ → ℕ) → ℕ
total q k f = sum_of (messages q k) f

module _ {n k q : ℕ} {word : List ℕ → ℕ → ℕ} (code : Mds n k q word) where
  values : (js : List ℕ) → Places n k js → (m : List ℕ) → Message q k m → Message q k (map (word m) js)
  values js p m h =
      record {
        size = length-map js (word m) ∙ p.size;
        below = All-map (λ x. x < q) (word m) js (All-imp (λ j. j < n) (λ j. word m j < q) (λ j l. code.symbol m j h l) js p.low);
      }

  -- a sum over all messages is one over all symbols at k places
  total_values : (js : List ℕ) → Places n k js → (f : List ℕ → ℕ) → total q k (λ m. f (map (word m) js)) ≡ total q k f
  total_values js p f =
      sum_permute same_list same_list_lem list_same (Message q k) (messages q k) (All-messages q k) (messages_once q k) (λ m. map (word m) js) (values js p)
      (λ y h. let (m, e, u) = code.one js y p h in (m, e.0, (λ x g d. u x (g, d)), e.1)) f

  -- zero at no more than k places
  zero_few : (Z Y : List ℕ) → Places n n (Z ++ Y) → length Z ≤ k → total q k (λ m. when (all_pass (zero_at word m) Z) 1) ≡ q ^ (k - length Z)
  zero_few Z Y p l =
      let js = take k (Z ++ Y) in
      let first : take (length Z) js ≡ Z = take-take (length Z) k (Z ++ Y) l ∙ take_at Z Y (length Z) refl in
      ap (total q k) (fun_ext (λ m. ap (λ b. when b 1) (sym (pass_map (λ x. eqb x 0) (word m) Z) ∙ ap (all_pass (λ x. eqb x 0)) (ap (map (word m)) (sym first) ∙ map_take (word m) (length Z) js))))
      ∙ total_values js (Places-take n n k (Z ++ Y) p code.fits) (λ y. when (all_pass (λ x. eqb x 0) (take (length Z) y)) 1)
      ∙ messages_zero q k (length Z) code.some

  -- the message of zeros
  zero_message : Message q k (replicate k 0)
  zero_message = record { size = length-replicate k 0; below = All-replicate (λ x. x < q) k 0 code.some }

  -- a word that is zero at k places is zero
  zero_all : (js : List ℕ) → Places n k js → (m : List ℕ) → Message q k m → all_pass (zero_at word m) js ≡ true → (j : ℕ) → j < n → zero_at word m j ≡ true
  zero_all js p m h e j l =
      let z : List ℕ = replicate k 0 in
      let unique = (code.one js (map (word z) js) p (values js p z zero_message)).2 in
      let here : All (λ j. word m j ≡ word z j) js =
      All-imp (λ j. (j < n) × (zero_at word m j ≡ true)) (λ j. word m j ≡ word z j) (λ j b. eqb-true (word m j) 0 b.1 ∙ sym (code.zeros j b.0)) js
      (All-both (λ j. j < n) (λ j. zero_at word m j ≡ true) js p.low (pass_all (zero_at word m) js e)) in
      let is_zero : m ≡ z = unique m (h, map_agree (word m) (word z) js here) ∙ sym (unique z (zero_message, refl)) in
      eq-eqb (word m j) 0 (ap (λ x. word x j) is_zero ∙ code.zeros j l)

  -- zero at k places or more
  zero_many : (Z Y : List ℕ) → Places n n (Z ++ Y) → k ≤ length Z → total q k (λ m. when (all_pass (zero_at word m) Z) 1) ≡ q ^ (k - length Z)
  zero_many Z Y p l =
      let first : Places n k (take k Z) = subst (Places n k) (take-append-le k Z Y l) (Places-take n n k (Z ++ Y) p code.fits) in
      let low : All (λ j. j < n) Z = subst (All (λ j. j < n)) (take_at Z Y (length Z) refl) (All-take (λ j. j < n) (length Z) (Z ++ Y) p.low) in
      let whole : take k Z ++ (drop k Z ++ Y) ≡ Z ++ Y = sym (append_assoc (take k Z) (drop k Z) Y) ∙ ap (λ l. l ++ Y) (take-append-drop k Z) in
      let none : k - length (take k Z) ≡ k - length Z = omega (arith, first.size) in
      sum_ext (Message q k) (messages q k) (λ m. when (all_pass (zero_at word m) Z) 1) (λ m. when (all_pass (zero_at word m) (take k Z)) 1) (All-messages q k)
      (λ m h.
      ap (λ b. when b 1)
      (same_test (all_pass (zero_at word m) Z) (all_pass (zero_at word m) (take k Z))
      (λ e. all_pass_lem (zero_at word m) (take k Z) (All-take (λ j. zero_at word m j ≡ true) k Z (pass_all (zero_at word m) Z e)))
      (λ e. all_pass_lem (zero_at word m) Z (All-imp (λ j. j < n) (λ j. zero_at word m j ≡ true) (λ j b. zero_all (take k Z) first m h e j b) Z low))))
      ∙ zero_few (take k Z) (drop k Z ++ Y) (subst (Places n n) (sym whole) p) (omega (arith, first.size))
      ∙ ap (λ e. q ^ e) none

  -- How many words are zero at the places Z, the other places being Y.
  pub zero_on : (Z Y : List ℕ) → Places n n (Z ++ Y) → total q k (λ m. when (all_pass (zero_at word m) Z) 1) ≡ q ^ (k - length Z)
  zero_on Z Y p = by_size (dec_le (length Z) k)
    where
      by_size : Dec (length Z ≤ k) → total q k (λ m. when (all_pass (zero_at word m) Z) 1) ≡ q ^ (k - length Z)
      by_size (yes l) = zero_few Z Y p l
      by_size (no l) = zero_many Z Y p (omega arith)
