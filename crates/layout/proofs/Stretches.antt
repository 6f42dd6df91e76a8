-- A loop that fills the rows of a buffer stretch by stretch: a few lanes of each row, then the next lanes of each row.
use mathlib.Core.Path.{◌≡◌, sym, ap, ◌∙◌}
use mathlib.Core.List.{List, ◌++◌}
use mathlib.Core.Logic.{◌⊎◌, inl, inr, by_cases}
use Prim.Native.Nat.{ℕ, ◌+◌, ◌-◌, ◌*◌, ◌≤◌, ◌<◌}
use native.Mathlib.Decide.{ℕ_discrete, dec_lt}
use native.Mathlib.Omega.{arith}
use borrow.Author.Tests.{lt-ltb, le-ltb}
use lib.Dec.{ltb}
use lib.ListN.{length, get_or, take, drop}
use Rattle.lists.specs.Choice.{pick}
use Rattle.lists.proofs.Rows.{row_inside}
use Rattle.layout.specs.Layout.{row_after_row, held, buffer}
use Rattle.layout.specs.Inner.Filling.{RowsFilled}
use Rattle.layout.proofs.Lawful.{by_row}
use Rattle.layout.proofs.Buffers.{length_buffer, held_buffer, held_equal}
use Rattle.layout.proofs.Places.{held_by_row}
use Rattle.layout.proofs.Runs.{replaced, length_replaced, replaced_before, replaced_inside, replaced_after}

-- the first r rows have come to lane t + c, the others to lane t
abbrev pub stretch : ℕ → ℕ → ℕ → ℕ → ℕ
stretch t c r i = pick (ltb i r) (t + c) t

module _ {rows l : ℕ} {f : ℕ → ℕ → ℕ} where
  -- before the first stretch, and before the first row of each
  pub rows_start : (now : List ℕ) → length now ≡ rows * l → RowsFilled rows l f (λ i. 0) now
  rows_start now long = record { long = long; done = λ i t row lane none. absurd (omega arith) }

  module _ (t c : ℕ) {now : List ℕ} where
    -- after its last row
    pub stretch_end : (r : ℕ) → rows ≤ r → RowsFilled rows l f (stretch t c r) now → RowsFilled rows l f (λ i. t + c) now
    stretch_end r all s = record { long = s.long; done = λ i q row lane low. s.done i q row lane (rw (lt-ltb i r (omega arith)) low) }

  -- after the last stretch
  pub rows_end : (t : ℕ) (now : List ℕ) → l ≤ t → RowsFilled rows l f (λ i. t) now → now ≡ buffer row_after_row rows l f
  rows_end t now all s =
      held_equal by_row rows l now _ s.long (length_buffer row_after_row rows l f)
      (λ i q row lane. s.done i q row lane (omega arith) ∙ sym (held_buffer by_row rows l f i q row lane))

  -- c lanes of row r more, written through their part
  module _ (t c r : ℕ) (row : r < rows) (fits : t + c ≤ l) {now : List ℕ} (s : RowsFilled rows l f (stretch t c r) now) (xs : List ℕ) (size : length xs ≡ c) (is : (q : ℕ) → q < c → get_or xs q 0 ≡ f r (t + q)) where
    abbrev a : ℕ
    a = r * l + t

    inside : a + c ≤ length now
    inside = omega (arith, s.long, row_inside rows r l row)

    abbrev after : List ℕ
    after = replaced now xs a c size inside

    -- another row, or another lane of the row, is as it was
    kept : (i q : ℕ) → i < rows → q < l → (i * l + q < a) ⊎ (a + c ≤ i * l + q) → held row_after_row rows l after i q ≡ held row_after_row rows l now i q
    kept i q hi hq apart = held_by_row rows l after i q ∙ same apart ∙ sym (held_by_row rows l now i q)
      where
        same : (i * l + q < a) ⊎ (a + c ≤ i * l + q) → get_or after (i * l + q) 0 ≡ get_or now (i * l + q) 0
        same (inl low) = replaced_before now xs a c size inside (i * l + q) low
        same (inr high) =
            let x : ℕ = i * l + q - (a + c) in
            let place : i * l + q ≡ a + (c + x) = omega arith in
            ap (λ (p : ℕ). get_or after p 0) place ∙ replaced_after now xs a c size inside x ∙ ap (λ (p : ℕ). get_or now p 0) (sym place)

    written : (q : ℕ) → q < c → held row_after_row rows l after r (t + q) ≡ f r (t + q)
    written q low =
        let place : r * l + (t + q) ≡ a + q = omega arith in
        held_by_row rows l after r (t + q) ∙ ap (λ (p : ℕ). get_or after p 0) place ∙ replaced_inside now xs a c size inside q low ∙ is q low

    pub stretch_row : RowsFilled rows l f (stretch t c (r + 1)) (take (r * l + t) now ++ (xs ++ drop c (drop (r * l + t) now)))
    stretch_row = record { long = length_replaced now xs a c size inside ∙ s.long; done = λ i q hi hq low. by_cases (ℕ_discrete i r) (λ e. own i q hi hq e low) (λ n. other i q hi hq n low) }
      where
        own : (i q : ℕ) → i < rows → q < l → i ≡ r → q < stretch t c (r + 1) i → held row_after_row rows l after i q ≡ f i q
        own i q hi hq e low =
            let near : q < t + c = rw (e, lt-ltb r (r + 1) (omega arith)) at low in
            rw e
            (by_cases (dec_lt q t)
            (λ before.
            kept r q row hq (inl (omega arith)) ∙ s.done r q row hq (rw (le-ltb r r (omega arith)) before))
            (λ past.
            let place : t + (q - t) ≡ q = omega arith in
            rw place at (written (q - t) (omega arith))))

        other : (i q : ℕ) → i < rows → q < l → (i ≡ r → ⊥) → q < stretch t c (r + 1) i → held row_after_row rows l after i q ≡ f i q
        other i q hi hq n low =
            by_cases (dec_lt i r)
            (λ less.
            kept i q hi hq (inl (omega (arith, row_inside r i l less)))
            ∙ s.done i q hi hq (rw (lt-ltb i r less) (rw (lt-ltb i (r + 1) (omega arith)) at low)))
            (λ past.
            let more : r < i = omega arith in
            kept i q hi hq (inr (omega (arith, row_inside i r l more)))
            ∙ s.done i q hi hq (rw (le-ltb i r (omega arith)) (rw (le-ltb i (r + 1) (omega arith)) at low)))
