-- `SmallCode::fill_counts` meets its contract: the powers, their differences, and each times its binomial.
use Rattle.std.proofs.Common.{ℕ, ◌*◌, ◌≤◌, List, length, get_or, ap, ◌∙◌, ap₂, le_trans, le_of_eq, arith}
use Rattle.weight_counts.proofs.Table.{length_table, length_row, count_fits, product_is, counts_are}
use Rattle.weight_counts.proofs.SmallCode.fill_counts.Goals as goal

pub scale-requires : goal.scale-requires
scale-requires c =
    let h = c.args.self.code.header in
    let small = c.args.self.small in
    let byte : h.n ≤ 255 = omega arith in
    let table = c.take_differences.ensures in
    let row = c.pascal_row-row.ensures in
    let long = ap length table ∙ length_table h h.n in (
      omega (arith, long, ap length row, length_row h.n),
      λ w l. le_trans (le_of_eq (ap₂ ◌*◌ (ap (λ (s : List ℕ). get_or s w 0) table) (ap (λ (s : List ℕ). get_or s w 0) row) ∙ product_is h small byte w (omega (arith, long)))) (count_fits h small byte w),
    )

pub returns : goal.returns
returns c =
    let h = c.args.self.code.header in
    let byte : h.n ≤ 255 = omega arith in
    let table = c.take_differences.ensures in
    let row = c.pascal_row-row.ensures in
    c.scale.ensures ∙ rw (table, row, length_table h h.n) (counts_are h c.args.self.small byte)
