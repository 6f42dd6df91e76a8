-- What the answers of the count mean for its text.
use Rattle.std.specs.Prelude.{Ok, Err}
use mathlib.Core.Path.{◌≡◌}
use mathlib.Core.Bool.{true, false}
use mathlib.Core.List.{List, [], ◌∷◌}
use Prim.Native.Nat.{ℕ, ◌+◌, ◌^◌, ◌≤◌}
use native.Mathlib.Omega.{arith}
use borrow.Author.Tests.{eq-eqb, ltb-false}
use lib.ListN.{length}
use Rattle.lists.specs.Choice.{when}
use Rattle.lists.specs.Numbers.{all_below}
use Rattle.lists.specs.Rows.{from}
use Rattle.lists.proofs.Cases.{by_test, never}
use Rattle.lists.proofs.Numbers.{at_below}
use Rattle.lists.proofs.Rows.{length_from, get_or_from}
use Rattle.generator.specs.declared.Header.{Header}
use Rattle.generator.specs.Records.{size}
use Rattle.generator.proofs.Answered.{done_is, refused_is}
use Rattle.text.specs.Text.{ascii, line}
use Rattle.weight_counts.specs.Weights.{weight_counts, weight_count_of, messages_bad, weights_fault, WeightsPromise}
use Rattle.weight_counts.specs.Inner.Counting.{Small}
use Rattle.weight_counts.proofs.Table.{count_fits}
use Rattle.weights_text.specs.Weights.{count_lines, weights_for}

-- an answer, by whether there are too many messages
by_messages : (h : Header) (counts : List ℕ) → length counts ≡ h.n + 1 → weights_fault h (length counts) ≡ when (messages_bad h) 16
unfolding weights_fault
by_messages h counts long = rw (eq-eqb (length counts) (h.n + 1) long)

few : (h : Header) → messages_bad h ≡ false → size h ^ h.k ≤ 65536
unfolding messages_bad
few h e = ltb-false 65536 (size h ^ h.k) e

module _ (h : Header) (counts counts' : List ℕ) where
  pub done_text : WeightsPromise counts counts' (Ok tt) h (weights_fault h (length counts)) → length counts ≡ h.n + 1 → (weights_for (Ok h) ≡ count_lines counts') × (counts' ≡ weight_counts h) × (size h ^ h.k ≤ 65536)
  unfolding weights_for
  done_text made long =
      let none : weights_fault h (length counts) ≡ 0 = done_is _ _ made.answered in
      let is : counts' ≡ weight_counts h = rw none at made.written in
      by_test (messages_bad h)
      (λ t. never (let met : ◌≡◌ {A = ℕ} 16 0 = rw (by_messages h counts long, t) at none in absurd (omega arith)))
      (λ t. (rw (t, is), is, few h t))

  pub refused_text : (g : ℕ) → WeightsPromise counts counts' (Err g) h (weights_fault h (length counts)) → length counts ≡ h.n + 1 → weights_for (Ok h) ≡ line (ascii "refused") (g ∷ [])
  unfolding weights_for
  refused_text g made long =
      let (met, some) = refused_is _ _ g made.answered in
      by_test (messages_bad h)
      (λ t. let same : g ≡ 16 = rw (by_messages h counts long, t) at met in rw (t, same))
      (λ t. absurd (some (rw (by_messages h counts long, t) at met)))

-- the counts of a record with few messages have at most five digits
pub counts_below : (h : Header) → Small h → h.n ≤ 255 → (counts : List ℕ) → counts ≡ weight_counts h → (all_below 100000 counts ≡ true) × (length counts ≡ h.n + 1)
unfolding weight_counts
counts_below h small byte counts is =
    rw is (at_below 100000 (from (weight_count_of h) 0 (h.n + 1)) (λ i l. rw (get_or_from (weight_count_of h) 0 (h.n + 1) i 0 (rw (length_from (weight_count_of h) 0 (h.n + 1)) at l)) (omega (arith, count_fits h small byte (0 + i)))), length_from (weight_count_of h) 0 (h.n + 1))
