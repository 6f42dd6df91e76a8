-- The shares after some lanes of a run have changed: the lanes to come and those outside, and how many symbols differ.
use mathlib.Core.Path.{◌≡◌, refl, sym, ap, ◌∙◌}
use mathlib.Core.Bool.{Bool}
use mathlib.Core.List.{List}
use mathlib.Core.Logic.{by_cases}
use Prim.Native.Nat.{ℕ, zero, suc, ◌+◌, ◌*◌, ◌≤◌, ◌<◌}
use native.Mathlib.Decide.{ℕ_discrete}
use native.Mathlib.Omega.{arith}
use native.Mathlib.Nat.{mul-zero, mul-one, mul-add, add-zero, zero-add}
use borrow.Author.Tests.{eq-eqb, ne_eqb}
use lib.Dec.{eqb}
use lib.ListN.{length, get_or}
use Rattle.lists.specs.Choice.{when, pick}
use Rattle.lists.specs.Counting.{count_from, differ}
use Rattle.lists.proofs.Count.{count_below}
use Rattle.lists.proofs.Differ.{unlike, differ_same}
use Rattle.layout.specs.Layout.{held, lane_of, share_layout}
use Rattle.layout.proofs.Places.{share_lawful}
use Rattle.layout.proofs.Buffers.{get_or_lane}
use Rattle.generator.specs.declared.Header.{Header}
use Rattle.blocks.specs.Blocks.{updated}
use Rattle.blocks.proofs.Updates.{length_updated, updated_others}
use Rattle.update_lanes.specs.Runs.{run_updated}

-- a count whose test is one of two that never pass together
count_sum : (f i : ℕ) (p q r : ℕ → Bool) → ((j : ℕ) → i ≤ j → j < i + f → when (r j) 1 ≡ when (p j) 1 + when (q j) 1) → count_from f i r ≡ count_from f i p + count_from f i q
unfolding count_from
count_sum zero i p q r one = refl
count_sum (suc f) i p q r one =
    let here : when (r i) 1 ≡ when (p i) 1 + when (q i) 1 = one i (omega arith) (omega arith) in
    let rest = count_sum f (i + 1) p q r (λ j low high. one j (omega arith) (omega arith)) in
    omega (arith, here, rest)

module _ (h : Header) (l r first : ℕ) (old new s : List ℕ) where
  -- the shares after i lanes
  abbrev after : ℕ → List ℕ
  after i = run_updated h l r first old new i s

  pub length_after : (i : ℕ) → length s ≡ h.n * l → length (after i) ≡ h.n * l
  unfolding run_updated
  length_after zero long = long
  length_after (suc i) long = length_updated share_lawful h l r (first + i) (get_or old i 0) (get_or new i 0) (after i)

  -- a lane that is no one of them is as it was
  pub lane_apart : (i q : ℕ) → q < l → ((j : ℕ) → j < i → q ≡ first + j → ⊥) → lane_of share_layout h.n l q (after i) ≡ lane_of share_layout h.n l q s
  unfolding run_updated
  lane_apart zero q inside other = refl
  lane_apart (suc i) q inside other =
      updated_others share_lawful h l r (first + i) (get_or old i 0) (get_or new i 0) (after i) q inside (other i (omega arith))
      ∙ lane_apart i q inside (λ j low. other j (omega arith))

  -- lane first + i before its turn
  pub lane_before : (i : ℕ) → first + i < l → lane_of share_layout h.n l (first + i) (after i) ≡ lane_of share_layout h.n l (first + i) s
  lane_before i inside = lane_apart i (first + i) inside (λ j low e. omega arith)

  -- and after the m lanes of the run what its turn made of it
  pub lane_turned : (m i : ℕ) → i < m → first + i < l → lane_of share_layout h.n l (first + i) (after m) ≡ lane_of share_layout h.n l (first + i) (updated share_layout h l r (first + i) (get_or old i 0) (get_or new i 0) (after i))
  unfolding run_updated
  lane_turned zero i low inside = absurd (omega arith)
  lane_turned (suc m) i low inside =
      by_cases (ℕ_discrete i m)
      (λ same. rw same)
      (λ other.
      updated_others share_lawful h l r (first + m) (get_or old m 0) (get_or new m 0) (after m) (first + i) inside (λ e. other (omega arith))
      ∙ lane_turned m i (omega arith) inside)

  -- one lane more: what differs in it differs from the start, and the others are as they were
  pub differ_next : (i : ℕ) → length s ≡ h.n * l → first + i < l → differ s (after i) + differ (after i) (updated share_layout h l r (first + i) (get_or old i 0) (get_or new i 0) (after i)) ≡ differ s (updated share_layout h l r (first + i) (get_or old i 0) (get_or new i 0) (after i))
  unfolding differ held
  differ_next i long inside =
      let t = first + i in
      let u = after i in
      let v = updated share_layout h l r t (get_or old i 0) (get_or new i 0) u in
      let many : length u ≡ length s = length_after i long ∙ sym long in
      let same : (q j : ℕ) → j < h.n → (a b : List ℕ) → lane_of share_layout h.n l q a ≡ lane_of share_layout h.n l q b → held share_layout h.n l a j q ≡ held share_layout h.n l b j q =
      λ q j node a b e. sym (get_or_lane share_layout h.n l q a j node) ∙ ap (λ (x : List ℕ). get_or x j 0) e ∙ get_or_lane share_layout h.n l q b j node in
      let laid = share_lawful in
      sym
      (count_sum (length s) 0 (unlike s u) (unlike u v) (unlike s v)
      (λ x low high.
      let (row, lane, at) = laid.covers h.n l x (omega (arith, long)) in
      by_cases (ℕ_discrete ((share_layout h.n l).lane x) t)
      (λ e.
      let kept : get_or s x 0 ≡ get_or u x 0 =
      sym (ap (λ (y : ℕ). get_or s y 0) at) ∙ sym (same ((share_layout h.n l).lane x) ((share_layout h.n l).row x) row u s (rw e (lane_before i inside))) ∙ ap (λ (y : ℕ). get_or u y 0) at in
      rw (kept, eq-eqb (get_or u x 0) (get_or u x 0) refl) (omega arith))
      (λ other.
      let kept : get_or v x 0 ≡ get_or u x 0 =
      sym (ap (λ (y : ℕ). get_or v y 0) at)
      ∙ same ((share_layout h.n l).lane x) ((share_layout h.n l).row x) row v u (updated_others share_lawful h l r t (get_or old i 0) (get_or new i 0) u ((share_layout h.n l).lane x) lane other)
      ∙ ap (λ (y : ℕ). get_or u y 0) at in
      rw (kept, eq-eqb (get_or u x 0) (get_or u x 0) refl) (omega arith)))
      ∙ ap (λ (f : ℕ). count_from (length s) 0 (unlike s u) + count_from f 0 (unlike u v)) (sym many))

  -- where each lane of the run alters d symbols, or none where its two symbols are one, so many are altered over all
  pub lanes_differ : (d m : ℕ) → length s ≡ h.n * l → ((i : ℕ) → i < m → first + i < l) → ((i : ℕ) → i < m → differ (after i) (updated share_layout h l r (first + i) (get_or old i 0) (get_or new i 0) (after i)) ≡ pick (eqb (get_or new i 0) (get_or old i 0)) 0 d) → differ s (after m) ≡ d * count_from m 0 (unlike old new)
  unfolding run_updated count_from
  lanes_differ d zero long inside each = differ_same s ∙ sym (mul-zero d)
  lanes_differ d (suc m) long inside each =
      let before = lanes_differ d m long (λ i low. inside i (omega arith)) (λ i low. each i (omega arith)) in
      let step = sym (differ_next m long (inside m (omega arith))) ∙ ap (λ (x : ℕ). differ s (after m) + x) (each m (omega arith)) ∙ ap (λ (x : ℕ). x + pick (eqb (get_or new m 0) (get_or old m 0)) 0 d) before in
      step
      ∙ by_cases (ℕ_discrete (get_or new m 0) (get_or old m 0))
      (λ same. rw (count_below m (unlike old new), same, eq-eqb (get_or old m 0) (get_or old m 0) refl) (rw add-zero (ap (λ (x : ℕ). d * x) (sym (zero-add (count_from m 0 (unlike old new)))))))
      (λ other. rw (count_below m (unlike old new), ne_eqb (get_or new m 0) (get_or old m 0) other, ne_eqb (get_or old m 0) (get_or new m 0) (λ e. other (sym e))) (omega (arith, mul-add d 1 (count_from m 0 (unlike old new)), mul-one d)))
