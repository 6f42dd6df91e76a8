-- `write_weights` meets its contract: the lines of the counts, or nothing.
use mathlib.Core.Path.{◌≡◌, refl}
use mathlib.Core.List.{List}
use Prim.Native.Nat.{ℕ, ◌+◌, ◌≤◌}
use native.Mathlib.Omega.{arith}
use lib.ListN.{length, take}
use lib.Seq.{length-take-le}
use Rattle.generator.proofs.Answered.{exit}
use Rattle.text.proofs.Written.{writes_none}
use Rattle.weights_text.specs.Weights.{weights_for}
use Rattle.weights_text.proofs.Answers.{done_text, refused_text, counts_below}
use Rattle.weights_text.proofs.write_weights.Goals as goal

-- the list that is lent has a place for each weight
lent : (size n : ℕ) (list : List ℕ) → size ≡ n → n + 1 ≤ length list → length (take (size + 1) list) ≡ n + 1
lent size n list e fits = rw e (length-take-le (n + 1) list fits)

pub returns-in_err-code : goal.returns-in_err-code
unfolding weights_for
returns-in_err-code c = rw (exit _ c.from_residual.ensures.1, ← c.in_err-code.ensures) (writes_none _, refl)

pub returns-in_err-counts_accepted : goal.returns-in_err-counts_accepted
returns-in_err-counts_accepted c =
    rw (exit _ c.from_residual-in_err-counts_accepted.ensures.1, ← c.in_ok-code.ensures) (writes_none _, refused_text c.in_ok-code.code.header _ _ _ c.in_err-counts_accepted.ensures (lent _ _ _ c.from-size.ensures (omega arith)))

pub write_counts-requires-clause-below : goal.write_counts-requires-clause-below
write_counts-requires-clause-below c =
    let code = c.in_ok-code.code in
    let (text, is, few) = done_text code.header _ _ c.in_ok-counts_accepted.ensures (lent _ _ _ c.from-size.ensures (omega arith)) in
    (counts_below code.header (record { sound = code.sound; few = few }) (omega arith) _ is).0

pub returns : goal.returns
returns c =
    rw (← c.in_ok-code.ensures, (done_text c.in_ok-code.code.header _ _ c.in_ok-counts_accepted.ensures (lent _ _ _ c.from-size.ensures (omega arith))).0) c.write_counts.ensures
