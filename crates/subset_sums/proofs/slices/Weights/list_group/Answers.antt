-- `Weights::list_group` meets its contract. The loop's invariant: the digits before b are a group further.
use Rattle.std.proofs.Common.{◌≡◌, ℕ, ◌+◌, ◌-◌, ◌*◌, ◌/◌, ◌%◌, ◌^◌, eqb, length, get_or, sym, add-zero}
use native.Mathlib.Nat.{zero-div}
use Rattle.lists.specs.Choice.{pick}
use Rattle.lists.proofs.Cases.{by_test}
use Rattle.subset_sums.proofs.Spreading.{streams_skip, streams_turn}
use Rattle.subset_sums.proofs.slices.Weights.list_group.Goals as goal

pub returns-then-subsets-eq0 : goal.returns-then-subsets-eq0
returns-then-subsets-eq0 c =
    let a = c.args in
    streams_skip (length a.list.now / 8) a.self.weights.now a.g c.requires.1 (λ b h. sym (rw (c.if-subsets-eq0.true, zero-div) at (c.subsets-subsets.ensures b h))) c.requires.2

pub loop-b-preserved : goal.loop-b-preserved
loop-b-preserved c =
    let l = c.loop-b in
    let a = c.args in
    let v : ℕ = c.subsets-subsets.result / 2 ^ (56 - 8 * l.b) % 16 in
    let n : ℕ = get_or l.counts l.b 0 in
    let count : n + c.from.result ≡ pick (eqb v 0) n (n + 1) = by_test (eqb v 0) (λ e. rw (c.from.ensures, e, add-zero)) (λ e. rw (c.from.ensures, e)) in
    rw (c.entry.ensures, count) (streams_turn (length a.list.now / 8) a.self.weights.now a.g c.requires.1 l.b v c.loop-b-test.true (c.subsets-subsets.ensures l.b c.loop-b-test.true) l.invariant)
