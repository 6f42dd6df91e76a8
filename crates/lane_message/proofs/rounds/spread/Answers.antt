-- `spread` meets its contract. The loop's invariant: the coefficients below j are there, and j is a multiple of g.
use Rattle.std.proofs.lemmas.Nat.{mod-mul-add}
use mathlib.Core.Path.{◌≡◌, sym, ◌∙◌}
use mathlib.Core.List.{List}
use Prim.Native.Nat.{ℕ, zero, suc, ◌+◌, ◌-◌, ◌*◌, ◌/◌, ◌%◌, ◌≤◌, ◌<◌}
use native.Mathlib.Nat.{add-zero, mul-mod_left}
use native.Mathlib.Omega.{arith}
use borrow.Author.Tests.{ne_eqb}
use lib.ListN.{get_or, set}
use Rattle.lists.proofs.Fill.{Filled, fills_keep, filled_put, filled_end, length_zeros}
use Rattle.lists.proofs.Padding.{get_or_zeros}
use Rattle.lists.proofs.Rows.{from_next}
use Rattle.lane_message.specs.Inner.Rows.{spaced_of}
use Rattle.lane_message.proofs.rounds.spread.Invariants.{coefficient, Spread}
use Rattle.lane_message.proofs.rounds.spread.Goals as goal

-- values that are 0 are there already
skipped : {n m : ℕ} {f : ℕ → ℕ} {i : ℕ} {now : List ℕ} → Filled n m f i now → (d : ℕ) → i + d ≤ m → ((k : ℕ) → i ≤ k → k < i + d → f k ≡ 0) → Filled n m f (i + d) now
skipped s zero fits none = rw add-zero s
skipped {n} {m} {f} {i} s (suc d) fits none =
    let t = skipped s d (omega arith) (λ k a b. none k a (omega arith)) in
    let next : i + d + 1 ≡ i + suc d = omega arith in
    rw (← next)
    record {
      some = omega arith;
      fits = t.fits;
      fills = fills_keep (rw (from_next f m (i + d) (omega arith)) at t.fills) (omega (arith, length_zeros n, t.fits)) 0 (none (i + d) (omega arith) (omega arith) ∙ sym (get_or_zeros n (i + d)));
    }

-- with the coefficient at j those before the next multiple of g are there
written : {g l j : ℕ} {q out : List ℕ} → Spread g l j q out → j < l → (e : ℕ) → j < e → e ≤ j + g → e ≤ l → Filled 256 l (coefficient g q) e (set out j (get_or q (j / g) 0))
written {g} {l} {j} {q} s low e above near inside =
    let here : j % g ≡ 0 = rw s.place (mul-mod_left s.turns g) in
    let next : j + 1 + (e - (j + 1)) ≡ e = omega arith in
    rw next at (skipped (filled_put s.filled low {x = get_or q (j / g) 0} (rw here)) (e - (j + 1)) (omega arith)
    (λ k a b.
    let parts : s.turns * g + (k - j) ≡ k = omega (arith, s.place) in
    rw (rw parts at (mod-mul-add s.turns g (k - j) (omega arith)), ne_eqb (k - j) 0 (λ z. omega arith))))

pub loop-j-preserved : goal.loop-j-preserved
loop-j-preserved c =
    let s = c.loop-j.invariant in
    record { turns = s.turns + 1; place = omega (arith, s.place); filled = written s (omega arith) _ (omega arith) (omega arith) (omega arith) }

-- after the last one
pub returns-2 : goal.returns-2
unfolding spaced_of
returns-2 c = filled_end (written c.loop-j.invariant (omega arith) c.args.l (omega arith) (omega arith) (omega arith)) (omega arith)
