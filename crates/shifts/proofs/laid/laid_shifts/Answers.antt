-- `laid_shifts` meets its contract. Invariant: the shifts of the first r rows are written.
use Rattle.std.proofs.lemmas.List.{take-replicate}
use mathlib.Core.Path.{◌≡◌, ap, ◌∙◌}
use mathlib.Core.List.{List, ◌++◌}
use Prim.Native.Nat.{ℕ, ◌≤◌}
use native.Mathlib.Omega.{arith}
use lib.ListN.{take, drop}
use Rattle.lists.specs.Rows.{from}
use Rattle.lists.specs.Padded.{zeros, padded}
use Rattle.lists.proofs.Fill.{Filled, filled_start, filled_put, fills_all, drop_zeros, length_zeros}
use Rattle.lists.proofs.Rows.{from_end, length_from}
use Rattle.generator.specs.Shifts.{negative, laid_shifts}
use Rattle.shifts.proofs.laid.laid_shifts.Goals as goal

-- the front of the array, before and after the loop
begun : (k : ℕ) (f : ℕ → ℕ) → k ≤ 255 → Filled k k f 0 (take k (zeros 255))
unfolding zeros
begun k f fits = rw (take-replicate {X = ℕ} k 255 0 fits) (filled_start k k f (omega arith))

ended : (k i : ℕ) (f : ℕ → ℕ) (now : List ℕ) → Filled k k f i now → k ≤ i → now ++ drop k (zeros 255) ≡ padded 255 (from f 0 k)
unfolding padded
ended k i f now filled all =
    let whole : now ≡ from f 0 k = fills_all (rw (from_end f k i all) at filled.fills) (omega (arith, length_zeros k)) in
    rw (whole, drop_zeros, length_from)

pub loop-r-init : goal.loop-r-init
unfolding zeros
loop-r-init c = begun c.args.dimensions.k _ (omega arith)

pub loop-r-preserved : goal.loop-r-preserved
loop-r-preserved c =
    filled_put c.loop-r.invariant (omega (arith, c.loop-r.invariant.fills.long, length_zeros c.args.dimensions.k)) (c.negative.ensures.0 ∙ ap (negative _) (rw c.distance-d.ensures at c.laid_at-first.ensures.0))

pub returns : goal.returns
unfolding laid_shifts zeros
returns c = ended c.args.dimensions.k _ _ _ c.loop-r.invariant (omega (arith, c.loop-r.invariant.fills.long, length_zeros c.args.dimensions.k))
