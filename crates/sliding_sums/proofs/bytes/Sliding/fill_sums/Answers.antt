-- `fill_sums` meets its contract. The loop's invariant: the sums below `at` are there, and `at` is a multiple of 64.
use mathlib.Core.Path.{◌≡◌, refl, ap, ◌∙◌}
use mathlib.Core.List.{List, ◌++◌}
use Prim.Native.Nat.{ℕ, ◌+◌, ◌-◌, ◌*◌, ◌/◌, ◌%◌, ◌≤◌, ◌<◌}
use native.Mathlib.Nat.{zero-add}
use native.Mathlib.Omega.{arith}
use lib.ListN.{length, get_or, take, drop, length-take, length-drop}
use Rattle.lists.specs.Rows.{from}
use Rattle.lists.proofs.Parts.{Valued, valued_part, valued_all}
use Rattle.lists.proofs.Rows.{get_or_from, length_from}
use Rattle.sliding_sums.specs.declared.bytes.Sliding.{Sliding}
use Rattle.sliding_sums.specs.Inner.Sliding.{part_sums, sum_from}
use Rattle.sliding_sums.specs.Inner.Tables.{sum_at}
use Rattle.sliding_sums.proofs.bytes.Sliding.fill_sums.Goals as goal
use Rattle.sliding_sums.proofs.bytes.Sliding.fill_sums.Goals.{After-fill_part}

-- a sum of the part from `at` on
value : (s : Sliding) (at p r : ℕ) → at % 64 ≡ 0 → p < r → r ≤ 64 → get_or (from (λ t. get_or (part_sums s at 8) t 0) 0 r) p 0 ≡ sum_from s (at + p)
unfolding sum_at
value s at p r turn low few =
    let part : (at + p) / 64 * 64 ≡ at = omega arith in
    let place : (at + p) % 64 ≡ p = omega arith in
    rw zero-add at (get_or_from (λ t. get_or (part_sums s at 8) t 0) 0 r p 0 low) ∙ rw (part, place)

-- the sums before the part's end are there
written : (c : After-fill_part)
    → let a = c.args in
    let l = c.loop-at in
    let k = c.min-end.result - l.at in
    Valued (sum_from a.self) (length a.sums.now) a.sums.now (take l.at l.sums ++ (c.fill_part.new.out ++ drop k (drop l.at l.sums))) (l.at + k)
written c =
    let s = c.args.self in
    let l = c.loop-at in
    let k : ℕ = c.min-end.result - l.at in
    let f : ℕ → ℕ = λ t. get_or (part_sums s l.at 8) t 0 in
    let long : length (take k (drop l.at l.sums)) ≡ k = simp (length-take, length-drop) (omega arith) in
    let is : c.fill_part.new.out ≡ from f 0 k = c.fill_part.ensures ∙ ap (from f 0) long in
    valued_part _ _ c.fill_part.new.out k k l.invariant.1 (omega arith) (omega arith) refl (ap length is ∙ length_from f 0 k) (λ p h. ap (λ (xs : List ℕ). get_or xs p 0) is ∙ value s l.at p k l.invariant.0 h (omega arith))

pub loop-at-preserved : goal.loop-at-preserved
loop-at-preserved c =
    let next : c.loop-at.at + (c.min-end.result - c.loop-at.at) ≡ c.loop-at.at + 64 = omega arith in
    (omega arith, rw next at (written (goal.at.loop-at-preserved c).After-fill_part))

pub returns : goal.returns
returns c = valued_all _ _ c.loop-at.invariant.1 (omega arith) (omega arith)

-- after the last part
pub returns-2 : goal.returns-2
returns-2 c = valued_all _ _ (written (goal.at.returns-2 c).After-fill_part) (omega arith) (omega arith)
