-- The product of one row of weights and the lanes of a block is the sums with these weights.
use mathlib.Core.Path.{◌≡◌, refl, sym, ap, ◌∙◌}
use mathlib.Core.List.{List, [], ◌++◌, append-nil}
use Prim.Native.Nat.{ℕ, ◌≤◌}
use native.Mathlib.Omega.{arith}
use lib.ListN.{length, get_or, take, drop, take-append-drop}
use lib.Seq.{length-take-le, get_or-take}
use Rattle.lists.specs.Rows.{from, rows_from}
use Rattle.lists.proofs.Rows.{from_ext}
use Rattle.lists.proofs.Parts.{from_at}
use Rattle.layout.specs.Layout.{row_after_row, lane_after_lane, lane_of, buffer}
use Rattle.layout.specs.Width.{bytes_of}
use Rattle.layout.proofs.Buffers.{length_lane}
use Rattle.layout.proofs.Places.{buffer_by_row}
use Rattle.field.specs.Inner.Sums.{dot}
use Rattle.row_sums.specs.Inner.Combined.{combined}
use Rattle.row_sums.proofs.Columns.{dot_column}

-- the sums as they are written
pub row_combined : (p w rows l : ℕ) (ws s : List ℕ) → bytes_of w (buffer row_after_row 1 l (λ i t. dot p (lane_of lane_after_lane rows l t s) ws)) ≡ bytes_of w (combined lane_after_lane p rows l ws s)
unfolding combined rows_from
row_combined p w rows l ws s = ap (bytes_of w) (buffer_by_row 1 l (λ i t. dot p (lane_of lane_after_lane rows l t s) ws) ∙ append-nil _)

-- weights after the last symbol's count for nothing
module _ (p rows : ℕ) (ws : List ℕ) (enough : rows ≤ length ws) where
  abbrev weight : ℕ → ℕ
  weight i = get_or ws i 0

  front : take rows ws ≡ from weight 0 rows
  front = from_at weight (take rows ws) rows (length-take-le rows ws enough) (λ i h. get_or-take rows ws i 0 h)

  whole : from weight 0 rows ++ drop rows ws ≡ ws
  whole = ap (λ (x : List ℕ). x ++ drop rows ws) (sym front) ∙ take-append-drop rows ws

  -- the sum over as many weights as there are symbols
  with_rest : (ys rest : List ℕ) → length ys ≤ rows → dot p ys (from weight 0 rows ++ rest) ≡ dot p ys (from weight 0 (length ys))
  unfolding dot from
  with_rest ys rest few = dot_column p weight (λ r ms. dot p ms (from weight r (length ms))) (λ r. refl) (λ r m ms. refl) 0 rows ys rest few

  sum_front : (ys : List ℕ) → length ys ≤ rows → dot p ys (take rows ws) ≡ dot p ys ws
  sum_front ys few =
      ap (dot p ys) (front ∙ sym (append-nil (from weight 0 rows)))
      ∙ with_rest ys [] few
      ∙ sym (with_rest ys (drop rows ws) few)
      ∙ ap (dot p ys) whole

  pub combined_front : (w l : ℕ) (s : List ℕ) → bytes_of w (combined lane_after_lane p rows l (take rows ws) s) ≡ bytes_of w (combined lane_after_lane p rows l ws s)
  unfolding combined
  combined_front w l s =
      ap (bytes_of w)
      (from_ext _ _ 0 l
      (λ t low high.
      let size : length (lane_of lane_after_lane rows l t s) ≡ rows = length_lane lane_after_lane rows l t s in
      sum_front (lane_of lane_after_lane rows l t s) (omega arith)))
