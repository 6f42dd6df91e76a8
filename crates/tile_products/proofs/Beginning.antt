-- The lists of a matrix while they are made, output after output, and the outputs of a tile.
use Rattle.std.proofs.Common.{◌≡◌, ℕ, ◌+◌, ◌*◌, ◌<◌, ◌≤◌, List, ◌++◌, length, take, drop, sym, ap, ◌∙◌, arith, ext_get_or}
use mathlib.Core.Logic.{by_cases, ∥∥₁_elim, ∥∥₁_prop}
use Rattle.std.proofs.lemmas.Grind.{merely}
use native.Mathlib.Decide.{ℕ_discrete}
use Rattle.lists.proofs.Rows.{part_length, get_d_part, row_inside}
use Rattle.layout.proofs.Runs.{replaced, length_replaced, replaced_before, replaced_inside}
use Rattle.tile_products.specs.Inner.Products.{groups_of, Prepared, Lists}
use Rattle.tile_products.specs.Inner.Matrices.{part_of, Begun, Made}

-- parts of a list of which part j was replaced
module _ (size j : ℕ) (xs s : List ℕ) (long : length xs ≡ size) (fits : j * size + size ≤ length s) where
  abbrev now : List ℕ
  now = replaced s xs (j * size) size long fits

  part_before : (i : ℕ) → i < j → part_of size i now ≡ part_of size i s
  part_before i low =
      let room : i * size + size ≤ j * size = row_inside j i size low in
      let a : length (part_of size i now) ≡ size = part_length (i * size) size now (omega (arith, length_replaced s xs (j * size) size long fits)) in
      let b : length (part_of size i s) ≡ size = part_length (i * size) size s (omega arith) in
      ext_get_or 0 (part_of size i now) (part_of size i s) (a ∙ sym b)
      (λ x h.
      let inside : x < size = omega (arith, a) in
      get_d_part (i * size) size now x inside
      ∙ replaced_before s xs (j * size) size long fits (i * size + x) (omega arith)
      ∙ sym (get_d_part (i * size) size s x inside))

  part_here : part_of size j now ≡ xs
  part_here =
      let a : length (part_of size j now) ≡ size = part_length (j * size) size now (omega (arith, length_replaced s xs (j * size) size long fits)) in
      ext_get_or 0 (part_of size j now) xs (a ∙ sym long)
      (λ x h.
      let inside : x < size = omega (arith, a) in
      get_d_part (j * size) size now x inside ∙ replaced_inside s xs (j * size) size long fits x inside)

-- one output more
pub begun_row : {p rows : ℕ} (w : ℕ → List ℕ) (j : ℕ) (lists counts : List ℕ) {ws xs ys : List ℕ} → w j ≡ ws → j * (8 * groups_of rows) + 8 * groups_of rows ≤ length lists → j * 8 + 8 ≤ length counts → Prepared p ws xs ys → Begun p rows w j lists counts → Begun p rows w (j + 1) (take (j * (8 * groups_of rows)) lists ++ (xs ++ drop (8 * groups_of rows) (drop (j * (8 * groups_of rows)) lists))) (take (j * 8) counts ++ (ys ++ drop 8 (drop (j * 8) counts)))
begun_row {p} {rows} w j lists counts {ws} {xs} {ys} is lists_fit counts_fit made b =
    let size : ℕ = 8 * groups_of rows in
    let rows_of : length ws ≡ rows = ap length (sym is) ∙ b.size j in
    let long : length xs ≡ size = rw rows_of at made.long in
    record {
      size = b.size;
      each = λ i below.
          by_cases (ℕ_discrete i j)
          (λ e. rw (e, part_here size j xs lists long lists_fit, part_here 8 j ys counts made.counted counts_fit, is) made)
          (λ n. rw (part_before size j xs lists long lists_fit i (omega arith), part_before 8 j ys counts made.counted counts_fit i (omega arith)) (b.each i (omega arith)));
    }

pub begun_none : (p rows : ℕ) (w : ℕ → List ℕ) (lists counts : List ℕ) → ((i : ℕ) → length (w i) ≡ rows) → Begun p rows w 0 lists counts
begun_none p rows w lists counts size = record { size = size; each = λ i none. absurd (omega arith) }

-- all outputs have lists
pub begun_made : {p rows : ℕ} {w : ℕ → List ℕ} {outputs : ℕ} {lists counts : List ℕ} → outputs ≤ 255 → outputs * (8 * groups_of rows) ≤ length lists → outputs * 8 ≤ length counts → Begun p rows w outputs lists counts → Made p rows outputs lists counts
begun_made {p} {rows} {w} few lists_room counts_room b =
    record { few = few; lists_room = lists_room; counts_room = counts_room; each = λ i low. record { weights = w i; size = b.size i; prepared = b.each i low } }

-- what is known of the parts where the weights are not named
module _ {p rows outputs : ℕ} {lists counts : List ℕ} (made : ∥ Made p rows outputs lists counts ∥₁) where
  pub part_made : (j : ℕ) → j < outputs → ∥ Lists p rows (part_of (8 * groups_of rows) j lists) (part_of 8 j counts) ∥₁
  part_made j low = ∥∥₁_elim made ∥∥₁_prop (λ m. merely (m.each j low))
