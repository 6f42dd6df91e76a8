-- The plan sheet, sentence by sentence. The program writes the text `sheet_for`.
use Rattle.std.specs.Prelude.{◌≡◌, List, [], ◌∷◌, ◌++◌, ℕ, ◌<◌, get_or}
use Rattle.lists.specs.Rows.{from, rows_from}
use Rattle.generator.specs.Records.{record_fault, record_of, header_of, distance, low_reads, high_reads}
use Rattle.generator.specs.Shifts.{shifts, firsts}
use Rattle.generator.specs.Generator.{entry}
use Rattle.text.specs.Text.{ascii, line}
use Rattle.sheet_text.specs.Sheet.{roundings, sheet_for}

pub record Sheets : Type 0 where
  -- of a record that is turned away it is the number ..
  pub refused : (rec : List ℕ) (f : ℕ) → record_fault rec ≡ f → 0 < f → sheet_for (record_of rec) ≡ line (ascii "refused") (f ∷ [])
  -- .. and of every other one a line of n, k, d and k·d / n rounded down and up, then a line for each row: its number, its shift, its first node
  -- and its entries, node after node
  pub accepted : (rec : List ℕ) → record_fault rec ≡ 0 →
      let h = header_of rec in
      sheet_for (record_of rec)
      ≡ line (ascii "plan") (h.n ∷ h.k ∷ distance h ∷ roundings (low_reads h) (high_reads h))
      ++ rows_from (λ r. line (ascii "row") (r ∷ get_or (shifts h) r 0 ∷ get_or (firsts h) r 0 ∷ from (entry h r) 0 h.n)) 0 h.k
