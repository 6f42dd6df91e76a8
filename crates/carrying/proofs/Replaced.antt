-- A part of a list that is replaced: nothing, its length, and in joined lists.
use mathlib.Core.Path.{◌≡◌, refl, sym, ap, ◌∙◌}
use mathlib.Core.Bool.{true}
use mathlib.Core.List.{List, [], ◌∷◌, ◌++◌}
use Prim.Native.Nat.{ℕ, zero, suc, ◌+◌, ◌-◌, ◌≤◌}
use native.Mathlib.Nat.{sub-zero, zero-sub, suc-sub-suc}
use native.Mathlib.Omega.{arith}
use lib.ListN.{length, take, drop, length-append, length-drop, take-append-drop}
use lib.Seq.{length-take-le, take_all, take_at}
use Rattle.lists.specs.Numbers.{all_below}
use Rattle.lists.proofs.Numbers.{below_take, below_drop, below_append}
use Rattle.carrying.specs.Changing.{part_replaced}

-- nothing is replaced
pub none_replaced : (at : ℕ) (s : List ℕ) → part_replaced at [] s ≡ s
unfolding part_replaced
none_replaced at s = take-append-drop at s

-- as many as there were
pub length_replaced : (at : ℕ) (bs s : List ℕ) → at + length bs ≤ length s → length (part_replaced at bs s) ≡ length s
unfolding part_replaced
length_replaced at bs s fits =
    length-append (take at s) (bs ++ drop (length bs) (drop at s))
    ∙ omega (
      arith,
      length-take-le at s (omega arith),
      length-append bs (drop (length bs) (drop at s)),
      length-drop (length bs) (drop at s),
      length-drop at s,
    )

pub below_replaced : (n at : ℕ) (bs s : List ℕ) → all_below n bs ≡ true → all_below n s ≡ true → all_below n (part_replaced at bs s) ≡ true
unfolding part_replaced
below_replaced n at bs s low all =
    below_append n (take at s) (bs ++ drop (length bs) (drop at s)) (below_take n at s all)
    (below_append n bs (drop (length bs) (drop at s)) low (below_drop n (length bs) (drop at s) (below_drop n at s all)))

-- from the first place on, of a list and those behind it
first_replaced : (bs s t : List ℕ) →
    bs ++ drop (length bs) (s ++ t) ≡ (take (length s) bs ++ drop (length (take (length s) bs)) s) ++ (drop (length s) bs ++ drop (length (drop (length s) bs)) t)
first_replaced bs [] t = refl
first_replaced [] (x ∷ s) t = refl
first_replaced (b ∷ bs) (x ∷ s) t = ap (λ (l : List ℕ). b ∷ l) (first_replaced bs s t)

-- a part that reaches from one list into the next
pub replaced_joined : (at : ℕ) (bs s t : List ℕ) → part_replaced at bs (s ++ t) ≡ part_replaced at (take (length s - at) bs) s ++ part_replaced (at - length s) (drop (length s - at) bs) t
unfolding part_replaced
replaced_joined zero bs s t = rw (sub-zero, zero-sub) (first_replaced bs s t)
replaced_joined (suc at) bs [] t = rw (zero-sub, sub-zero) refl
replaced_joined (suc at) bs (x ∷ s) t = rw (suc-sub-suc, suc-sub-suc) (ap (λ (l : List ℕ). x ∷ l) (replaced_joined at bs s t))

-- so many numbers from the front, where the part lies in them
pub front_replaced : (n at : ℕ) (bs s : List ℕ) → at + length bs ≤ n → n ≤ length s → take n (part_replaced at bs s) ≡ part_replaced at bs (take n s)
front_replaced n at bs s inside all =
    let front = take n s in
    let long = length-take-le n s all in
    let here : take (length front - at) bs ≡ bs = take_all (length front - at) bs (omega (arith, long)) in
    ap (λ (l : List ℕ). take n (part_replaced at bs l)) (sym (take-append-drop n s))
    ∙ ap (take n) (replaced_joined at bs front (drop n s) ∙ ap (λ (x : List ℕ). part_replaced at x front ++ part_replaced (at - length front) (drop (length front - at) bs) (drop n s)) here)
    ∙ take_at (part_replaced at bs front) (part_replaced (at - length front) (drop (length front - at) bs) (drop n s)) n (length_replaced at bs front (omega (arith, long)) ∙ long)
