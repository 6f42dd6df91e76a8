-- The messages of the lanes before t are the nearest, those of the others that of the first k symbols: one lane more.
use mathlib.Core.Path.{◌≡◌, sym, ap, ◌∙◌}
use mathlib.Core.List.{List}
use mathlib.Core.Logic.{by_cases}
use Prim.Native.Nat.{ℕ, ◌+◌, ◌≤◌, ◌<◌}
use native.Mathlib.Decide.{ℕ_discrete, dec_lt}
use native.Mathlib.Omega.{arith}
use borrow.Author.Tests.{eq-eqb, ne_eqb, lt-ltb, le-ltb}
use lib.Dec.{ltb}
use lib.ListN.{get_or}
use Rattle.lists.specs.Choice.{pick}
use Rattle.layout.specs.Layout.{row_after_row, buffer, with_lane}
use Rattle.layout.proofs.Lawful.{by_row}
use Rattle.layout.proofs.Buffers.{held_buffer, buffer_ext}

module _ (k l : ℕ) (near first : ℕ → List ℕ) where
  -- row i of lane q when the lanes before t are done
  abbrev part : ℕ → ℕ → ℕ → ℕ
  part t i q = get_or (pick (ltb q t) (near q) (first q)) i 0

  -- the message buffer then
  abbrev pub messages_to : ℕ → List ℕ
  messages_to t = buffer row_after_row k l (part t)

  pub messages_none : messages_to 0 ≡ buffer row_after_row k l (λ i q. get_or (first q) i 0)
  messages_none = buffer_ext by_row k l _ _ (λ i q row inside. rw (le-ltb q 0 (omega arith)))

  pub messages_all : (t : ℕ) → l ≤ t → messages_to t ≡ buffer row_after_row k l (λ i q. get_or (near q) i 0)
  messages_all t end = buffer_ext by_row k l _ _ (λ i q row inside. rw (lt-ltb q t (omega arith)))

  -- other lanes are as they were
  other : (t i q : ℕ) → (q ≡ t → ⊥) → part t i q ≡ part (t + 1) i q
  other t i q n = by_cases (dec_lt q t) (λ b. rw (lt-ltb q t b, lt-ltb q (t + 1) (omega arith))) (λ b. rw (le-ltb q t (omega arith), le-ltb q (t + 1) (omega arith)))

  -- lane t is written
  pub messages_written : (t : ℕ) → t < l → with_lane row_after_row k l t (λ i. get_or (near t) i 0) (messages_to t) ≡ messages_to (t + 1)
  unfolding with_lane
  messages_written t inside =
      buffer_ext by_row k l _ _
      (λ i q row lane.
      by_cases (ℕ_discrete q t)
      (λ e. rw (e, eq-eqb t t e_refl, lt-ltb t (t + 1) (omega arith)))
      (λ n. rw (ne_eqb q t n) (held_buffer by_row k l (part t) i q row lane ∙ other t i q n)))
    where
      e_refl : t ≡ t
      e_refl = omega arith

  -- or it stays
  pub messages_stay : (t : ℕ) → near t ≡ first t → messages_to t ≡ messages_to (t + 1)
  messages_stay t same =
      buffer_ext by_row k l _ _
      (λ i q row lane.
      by_cases (ℕ_discrete q t)
      (λ e. rw (e, le-ltb t t (omega arith), lt-ltb t (t + 1) (omega arith)) (ap (λ (ms : List ℕ). get_or ms i 0) (sym same)))
      (λ n. other t i q n))
