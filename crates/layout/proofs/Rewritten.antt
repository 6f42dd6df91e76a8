-- A loop that rewrites one lane of a buffer, row after row.
use mathlib.Core.Path.{◌≡◌, sym, ap, ◌∙◌}
use mathlib.Core.List.{List}
use mathlib.Core.Logic.{by_cases}
use Prim.Native.Nat.{ℕ, ◌+◌, ◌*◌, ◌≤◌, ◌<◌}
use native.Mathlib.Decide.{ℕ_discrete, dec_lt}
use native.Mathlib.Omega.{arith}
use borrow.Author.Tests.{lt-ltb, le-ltb}
use lib.Dec.{ltb}
use lib.ListN.{length, set, length-set}
use lib.Seq.{get_or-set_same, get_or-set_other}
use Rattle.lists.specs.Choice.{pick}
use Rattle.layout.specs.Layout.{Arrangement, held, with_lane}
use Rattle.layout.proofs.Lawful.{Lawful}
use Rattle.layout.proofs.Buffers.{held_equal}
use Rattle.layout.proofs.OneLane.{length_with_lane, held_changed, held_kept, with_lane_ext, with_lane_same}

-- the first j rows of lane t hold g, the others what they held
unfoldable pub rewritten : Arrangement → ℕ → ℕ → ℕ → (ℕ → ℕ) → List ℕ → ℕ → List ℕ
rewritten y rows l t g s j = with_lane y rows l t (λ i. pick (ltb i j) (g i) (held y rows l s i t)) s

module _ {y : Arrangement} (a : Lawful y) (rows l t : ℕ) (g : ℕ → ℕ) (s : List ℕ) where
  -- what row i of the lane holds when j rows are rewritten
  abbrev part : ℕ → ℕ → ℕ
  part j i = pick (ltb i j) (g i) (held y rows l s i t)

  pub length_rewritten : (j : ℕ) → length (rewritten y rows l t g s j) ≡ rows * l
  unfolding rewritten
  length_rewritten j = length_with_lane a rows l t (part j) s

  -- before the first row
  pub rewritten_none : length s ≡ rows * l → rewritten y rows l t g s 0 ≡ s
  unfolding rewritten
  rewritten_none long = with_lane_ext a rows l t s _ _ (λ i hi. rw (le-ltb i 0 (omega arith))) ∙ with_lane_same a rows l t s long

  -- after the last
  pub rewritten_all : (j : ℕ) → rows ≤ j → rewritten y rows l t g s j ≡ with_lane y rows l t g s
  unfolding rewritten
  rewritten_all j end = with_lane_ext a rows l t s _ _ (λ i hi. rw (lt-ltb i j (omega arith)))

  module _ (inside : t < l) (j : ℕ) (row : j < rows) where
    -- the next row is as it was
    pub rewritten_held : held y rows l (rewritten y rows l t g s j) j t ≡ held y rows l s j t
    unfolding rewritten
    rewritten_held = held_changed a rows l t (part j) s j row inside ∙ rw (le-ltb j j (omega arith))

    -- what another row holds stays
    part_other : (i : ℕ) → (i ≡ j → ⊥) → part j i ≡ part (j + 1) i
    part_other i n = by_cases (dec_lt i j) (λ q. rw (lt-ltb i j q, lt-ltb i (j + 1) (omega arith))) (λ q. rw (le-ltb i j (omega arith), le-ltb i (j + 1) (omega arith)))

    -- it is written
    pub rewritten_row : (v : ℕ) → v ≡ g j → set (rewritten y rows l t g s j) ((y rows l).place j t) v ≡ rewritten y rows l t g s (j + 1)
    unfolding rewritten held
    rewritten_row v e =
        held_equal a rows l _ _ (length-set u ((y rows l).place j t) v ∙ length_rewritten j) (length_rewritten (j + 1))
        (λ i q hi hq. by_cases (ℕ_discrete q t) (λ p. lane i q hi hq p) (λ p. other i q hi hq p))
      where
        u : List ℕ
        u = with_lane y rows l t (part j) s

        lane : (i q : ℕ) → i < rows → q < l → q ≡ t → held y rows l (set u ((y rows l).place j t) v) i q ≡ held y rows l (with_lane y rows l t (part (j + 1)) s) i q
        lane i q hi hq p =
            rw p
            (by_cases (ℕ_discrete i j)
            (λ n.
            rw n
            (get_or-set_same u ((y rows l).place j t) v 0 (rw (length_rewritten j) (a.inside rows l j t row inside))
            ∙ e
            ∙ sym (held_changed a rows l t (part (j + 1)) s j row inside ∙ rw (lt-ltb j (j + 1) (omega arith)))))
            (λ n.
            get_or-set_other u ((y rows l).place j t) ((y rows l).place i t) v 0 (λ z. n (sym (a.row_back rows l i t hi inside) ∙ ap (y rows l).row z ∙ a.row_back rows l j t row inside))
            ∙ held_changed a rows l t (part j) s i hi inside
            ∙ part_other i n
            ∙ sym (held_changed a rows l t (part (j + 1)) s i hi inside)))

        other : (i q : ℕ) → i < rows → q < l → (q ≡ t → ⊥) → held y rows l (set u ((y rows l).place j t) v) i q ≡ held y rows l (with_lane y rows l t (part (j + 1)) s) i q
        other i q hi hq p =
            get_or-set_other u ((y rows l).place j t) ((y rows l).place i q) v 0 (λ z. p (sym (a.lane_back rows l i q hi hq) ∙ ap (y rows l).lane z ∙ a.lane_back rows l j t row inside))
            ∙ held_kept a rows l t (part j) s i q hi hq p
            ∙ sym (held_kept a rows l t (part (j + 1)) s i q hi hq p)
