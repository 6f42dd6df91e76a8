-- Listed rows of a buffer, added to a row one after the other.
use mathlib.Core.Path.{◌≡◌, sym, ap, ap₂, ◌∙◌}
use mathlib.Core.List.{List}
use Prim.Native.Nat.{ℕ, ◌+◌, ◌-◌, ◌*◌, ◌/◌, ◌<◌}
use native.Mathlib.Omega.{arith}
use lib.Bits.{bit_xor, xor_zero_r, xor_assoc}
use lib.ListN.{length, get_or, take, drop}
use lib.Seq.{drop-length}
use Rattle.lists.proofs.Front.{drop_next}
use Rattle.lists.proofs.Rows.{get_d_part}
use Rattle.layout.proofs.Places.{held_by_row}
use Rattle.kernel.specs.Inner.Lanes.{lanewise}
use Rattle.kernel.proofs.Lanes.{lanewise_same, lanewise_ext, lanewise_twice}
use Rattle.row_sums.specs.Inner.Digits.{row_at, xor_sum, rows_added}

module _ (l : ℕ) (s : List ℕ) where
  -- lane t of the sum of listed rows
  abbrev rows_at : List ℕ → ℕ → ℕ
  rows_at js t = xor_sum (λ j. row_at l s j t) js

  -- a row that is lent as a part of the buffer
  abbrev pub part : ℕ → List ℕ
  part a = take (a + l - a) (drop a s)

  part_lane : (a j t : ℕ) → a ≡ j * l → t < l → get_or (part a) t 0 ≡ row_at l s j t
  unfolding row_at
  part_lane a j t e inside = rw e (get_d_part (j * l) l s t inside) ∙ sym (held_by_row (length s / l) l s j t)

  -- no row
  pub added_none : (js acc : List ℕ) (i : ℕ) → i ≡ length js → rows_added l s (drop i js) acc ≡ acc
  unfolding rows_added xor_sum
  added_none js acc i e = rw (e, drop-length) (lanewise_same _ acc (λ t inside. xor_zero_r (get_or acc t 0)))

  -- a change c of every lane before, with the first listed rows added: one row ..
  module _ (c : ℕ → ℕ) (js acc : List ℕ) (long : length acc ≡ l) (i a : ℕ) (first : i < length js) (a_is : a ≡ get_or js i 0 * l) where
    pub added_one : rows_added l s (drop (i + 1) js) (lanewise (λ t y. bit_xor (c y) (get_or (part a) t 0)) acc) ≡ rows_added l s (drop i js) (lanewise (λ t y. c y) acc)
    unfolding rows_added xor_sum
    added_one =
        rw (lanewise_twice, lanewise_twice, drop_next js i 0 first)
        (lanewise_ext _ _ acc
        (λ t inside.
        xor_assoc (c (get_or acc t 0)) (get_or (part a) t 0) (rows_at (drop (i + 1) js) t)
        ∙ ap (λ (v : ℕ). bit_xor (c (get_or acc t 0)) (bit_xor v (rows_at (drop (i + 1) js) t))) (part_lane a (get_or js i 0) t a_is (omega arith))))

    -- .. and two
    module _ (b : ℕ) (second : i + 1 < length js) (b_is : b ≡ get_or js (i + 1) 0 * l) where
      pub added_two : rows_added l s (drop (i + 2) js) (lanewise (λ t y. bit_xor (bit_xor (c y) (get_or (part a) t 0)) (get_or (part b) t 0)) acc) ≡ rows_added l s (drop i js) (lanewise (λ t y. c y) acc)
      unfolding rows_added xor_sum
      added_two =
          let next : i + 2 ≡ i + 1 + 1 = omega arith in
          rw (next, lanewise_twice, lanewise_twice, drop_next js i 0 first, drop_next js (i + 1) 0 second)
          (lanewise_ext _ _ acc
          (λ t inside.
          let y : ℕ = c (get_or acc t 0) in
          let rest : ℕ = rows_at (drop (i + 1 + 1) js) t in
          xor_assoc (bit_xor y (get_or (part a) t 0)) (get_or (part b) t 0) rest
          ∙ xor_assoc y (get_or (part a) t 0) (bit_xor (get_or (part b) t 0) rest)
          ∙ ap₂ (λ (u v : ℕ). bit_xor y (bit_xor u (bit_xor v rest))) (part_lane a (get_or js i 0) t a_is (omega arith)) (part_lane b (get_or js (i + 1) 0) t b_is (omega arith))))

      -- where nothing is changed before
      pub added_pair : ((y : ℕ) → c y ≡ y) → rows_added l s (drop (i + 2) js) (lanewise (λ t y. bit_xor (bit_xor (c y) (get_or (part a) t 0)) (get_or (part b) t 0)) acc) ≡ rows_added l s (drop i js) acc
      added_pair same = added_two ∙ ap (rows_added l s (drop i js)) (lanewise_same (λ t y. c y) acc (λ t inside. same (get_or acc t 0)))
