-- Lanes put beside lanes, row by row, and lanes gathered so, 64 at a time.
use Rattle.std.proofs.Common.{◌≡◌, sym, ap, ◌∙◌, List, ◌++◌, ℕ, ◌+◌, ◌-◌, ◌*◌, ◌≤◌, ◌<◌, arith, length, get_or, take, drop}
use native.Mathlib.Decide.{ℕ_discrete, dec_lt}
use mathlib.Core.Logic.{by_cases}
use Rattle.lists.proofs.Rows.{row_inside}
use Rattle.layout.specs.Layout.{row_after_row, lane_after_lane, held, lane_of, rearranged}
use Rattle.layout.proofs.Lawful.{by_row}
use Rattle.layout.proofs.Places.{held_by_row, held_by_lane}
use Rattle.layout.proofs.Buffers.{get_or_lane, held_buffer, held_equal, length_buffer}
use Rattle.layout.proofs.Runs.{held_part, length_replaced, replaced_before, replaced_inside, replaced_after}
use Rattle.tiles.specs.Inner.Beside.{Beside}

-- row r more, whose lanes are replaced through their part; m is the part's length as code has it
module _ (rows lanes first count r : ℕ) (block start now xs : List ℕ) (fits : first + count ≤ lanes) (long : length start ≡ rows * lanes) (row : r < rows) (size : length xs ≡ count) (same : (q : ℕ) → q < count → get_or xs q 0 ≡ get_or block (r * 64 + q) 0) (b : Beside lanes first count r block start now) where
  abbrev a : ℕ
  a = r * lanes + first

  inside_now : a + count ≤ length now
  inside_now = omega (arith, b.long, row_inside rows r lanes row)

  next : List ℕ
  next = take a now ++ (xs ++ drop count (drop a now))

  put_next : (i q : ℕ) → i < r + 1 → q < count → get_or next (i * lanes + (first + q)) 0 ≡ get_or block (i * 64 + q) 0
  unfolding next
  put_next i q low inside =
      by_cases (ℕ_discrete i r)
      (λ e.
      let place : r * lanes + (first + q) ≡ a + q = omega arith in
      rw (e, place) (replaced_inside now xs a count size inside_now q inside ∙ same q inside))
      (λ n.
      let less : i < r = omega arith in
      replaced_before now xs a count size inside_now (i * lanes + (first + q)) (omega (arith, row_inside r i lanes less)) ∙ b.put i q less inside)

  kept_next : (i t : ℕ) → t < first → get_or next (i * lanes + t) 0 ≡ get_or start (i * lanes + t) 0
  unfolding next
  kept_next i t low =
      by_cases (dec_lt r i)
      (λ more.
      let x : ℕ = i * lanes + t - (a + count) in
      let place : i * lanes + t ≡ a + (count + x) = omega (arith, row_inside i r lanes more) in
      ap (λ (p : ℕ). get_or next p 0) place ∙ replaced_after now xs a count size inside_now x ∙ ap (λ (p : ℕ). get_or now p 0) (sym place) ∙ b.kept i t low)
      (λ not.
      by_cases (ℕ_discrete i r)
      (λ e. rw e (replaced_before now xs a count size inside_now (r * lanes + t) (omega arith) ∙ b.kept r t low))
      (λ n.
      let less : i < r = omega arith in
      replaced_before now xs a count size inside_now (i * lanes + t) (omega (arith, row_inside r i lanes less)) ∙ b.kept i t low))

  pub beside_row : (m : ℕ) → m ≡ count → Beside lanes first count (r + 1) block start (take a now ++ (xs ++ drop m (drop a now)))
  unfolding next
  beside_row m e = rw e (record { long = length_replaced now xs a count size inside_now ∙ b.long; put = put_next; kept = kept_next })

-- the lanes before `first` are gathered
unfoldable pub Gathered : ℕ → ℕ → List ℕ → ℕ → List ℕ → Type 0
Gathered rows lanes part first tile = (i t : ℕ) → i < rows → t < first → get_or tile (i * lanes + t) 0 ≡ get_or part (t * rows + i) 0

module _ (rows lanes : ℕ) (part : List ℕ) (long : length part ≡ rows * lanes) where
  pub gathered_none : (tile : List ℕ) → Gathered rows lanes part 0 tile
  unfolding Gathered
  gathered_none tile i t row none = absurd (omega arith)

  -- `count` lanes more
  pub gathered_more : (first count : ℕ) (block start now : List ℕ) → first + count ≤ lanes → ((t : ℕ) → t < count → lane_of row_after_row rows 64 t block ≡ lane_of lane_after_lane rows count t (take (first * rows + count * rows - first * rows) (drop (first * rows) part))) → Beside lanes first count rows block start now → Gathered rows lanes part first start → Gathered rows lanes part (first + count) now
  unfolding Gathered
  gathered_more first count block start now fits lanes_are b g i t row low =
      by_cases (dec_lt t first)
      (λ old. b.kept i t old ∙ g i t row old)
      (λ new.
      let q : ℕ = t - first in
      let back : first + q ≡ t = omega arith in
      let inside : q < count = omega arith in
      let piece : List ℕ = take (first * rows + count * rows - first * rows) (drop (first * rows) part) in
      let moved : get_or now (i * lanes + (first + q)) 0 ≡ get_or part ((first + q) * rows + i) 0 =
      b.put i q row inside
      ∙ sym (held_by_row rows 64 block i q)
      ∙ sym (get_or_lane row_after_row rows 64 q block i row)
      ∙ ap (λ (l : List ℕ). get_or l i 0) (lanes_are q inside)
      ∙ get_or_lane lane_after_lane rows count q piece i row
      ∙ held_part rows lanes part long first count i q row inside
      ∙ held_by_lane rows lanes part i (first + q) in
      rw back at moved)

  -- all lanes
  pub gathered_all : (first : ℕ) (tile : List ℕ) → length tile ≡ rows * lanes → lanes ≤ first → Gathered rows lanes part first tile → tile ≡ rearranged lane_after_lane row_after_row rows lanes part
  unfolding Gathered rearranged
  gathered_all first tile size all g =
      held_equal by_row rows lanes tile _ size (length_buffer row_after_row rows lanes _)
      (λ i t row lane. held_by_row rows lanes tile i t ∙ g i t row (omega arith) ∙ sym (held_by_lane rows lanes part i t) ∙ sym (held_buffer by_row rows lanes (held lane_after_lane rows lanes part) i t row lane))
