-- A list that is read from its end: the last of it are done, and the rest is to come.
use mathlib.Core.Path.{◌≡◌, sym, ap, ◌∙◌}
use mathlib.Core.Bool.{true}
use mathlib.Core.List.{List, [], ◌∷◌, ◌++◌, append-nil, append_assoc}
use Prim.Native.Nat.{ℕ, ◌+◌, ◌-◌, ◌≤◌, ◌<◌}
use native.Mathlib.Omega.{arith}
use lib.ListN.{length, drop, length-append}
use lib.Seq.{drop_at}
use Rattle.std.specs.List.{push}
use Rattle.lists.specs.Numbers.{all_below}
use Rattle.lists.proofs.Numbers.{below_cons}

pub record FromEnd (xs rest : List ℕ) (Holds : List ℕ → Type 0) : Type 0 where
  pub done : List ℕ
  pub parts : rest ++ done ≡ xs
  pub holds : Holds done

pub from_end_start : (xs : List ℕ) (Holds : List ℕ → Type 0) → Holds [] → FromEnd xs xs Holds
from_end_start xs Holds h = record { done = []; parts = append-nil xs; holds = h }

-- the numbers of a part after others are below what all are below
below_after : (q : ℕ) (front back : List ℕ) → all_below q (front ++ back) ≡ true → all_below q back ≡ true
below_after q [] back b = b
below_after q (x ∷ front) back b = below_after q front back (below_cons q x (front ++ back) b).1

module _ {xs before : List ℕ} (after : List ℕ) (x : ℕ) {Holds : List ℕ → Type 0} (last : before ≡ push after x) (now : FromEnd xs before Holds) where
  -- the number that comes next
  parts_next : after ++ (x ∷ now.done) ≡ xs
  parts_next = sym (append_assoc after (x ∷ []) now.done) ∙ ap (λ (ys : List ℕ). ys ++ now.done) (sym last) ∙ now.parts

  both_below : (q : ℕ) → all_below q xs ≡ true → (x < q) × (all_below q now.done ≡ true)
  both_below q below = below_cons q x now.done (below_after q after (x ∷ now.done) (rw parts_next below))

  pub next_below : (q : ℕ) → all_below q xs ≡ true → x < q
  next_below q below = (both_below q below).0

  pub done_below : (q : ℕ) → all_below q xs ≡ true → all_below q now.done ≡ true
  done_below q below = (both_below q below).1

  pub done_short : length now.done + 1 + length after ≡ length xs
  done_short = omega (arith, ap length parts_next, length-append after (x ∷ now.done))

  -- the numbers that are done are the last of all
  pub done_last : (m : ℕ) → m ≡ length now.done → now.done ≡ drop (length xs - m) xs
  done_last m is = sym (drop_at before now.done (length xs - m) (omega (arith, is, ap length now.parts, length-append before now.done))) ∙ ap (drop (length xs - m)) now.parts

  pub from_end_next : (Next : List ℕ → Type 0) → Next (x ∷ now.done) → FromEnd xs after Next
  from_end_next Next h = record { done = x ∷ now.done; parts = parts_next; holds = h }

-- nothing is left
pub done_all : {xs rest : List ℕ} {Holds : List ℕ → Type 0} (now : FromEnd xs rest Holds) (m : ℕ) → m ≡ length now.done → length rest ≡ 0 → length xs ≤ m
done_all {rest = rest} now m is none = omega (arith, is, none, ap length now.parts, length-append rest now.done)
