-- `fill_terms` meets its contract. The loop's invariant: the terms of the rows below r are written, and the others are to come.
use mathlib.Core.Path.{◌≡◌, sym, ap, ◌∙◌}
use Prim.Native.Nat.{ℕ, ◌+◌, ◌*◌, ◌≤◌}
use native.Mathlib.Nat.{mul_comm, mul-le-mul, le_refl, add-sub_cancel_left}
use native.Mathlib.Omega.{arith}
use lib.ListN.{length, take}
use Rattle.lists.proofs.Padding.{take_padded}
use Rattle.lists.proofs.Rows.{rows_next, rows_end, row_after, row_inside, part_length}
use Rattle.lists.proofs.Fill.{fills_part, fills_all}
use Rattle.layout.specs.Width.{bytes_of}
use Rattle.layout.proofs.LaneParts.{bytes_rows}
use Rattle.layout.proofs.Widths.{length_bytes}
use Rattle.generator.specs.Records.{modulus_of, width}
use Rattle.generator.proofs.Widths.{symbols_fit}
use Rattle.node_weights.specs.declared.Setup.{Setup}
use Rattle.node_weights.specs.Inner.Rows.{setup_of, row_terms}
use Rattle.node_weights.proofs.Parts.{Symbols, term_symbols}
use Rattle.recover_matrix.proofs.Prepared.{few}
use Rattle.recover_matrix.proofs.Inverse.fill_terms.Goals as goal
use Rattle.recover_matrix.proofs.Inverse.fill_terms.Goals.{After-row_terms-row, In-loop-r}

-- a row lies within the buffer
row_in : (c : In-loop-r) → let h = c.args.self.codec.code.header in c.loop-r.r * (width h * h.k) + width h * h.k ≤ length c.args.out.now
row_in c =
    let h = c.args.self.codec.code.header in
    omega (arith, c.requires, mul_comm (width h * h.k) h.k, row_inside h.k c.loop-r.r (width h * h.k) c.loop-r-test.true)

-- the row's terms, k symbols
terms : (c : In-loop-r) → let h = c.args.self.codec.code.header in Symbols (modulus_of h) h.k (row_terms h c.loop-r.r)
terms c = let s = c.args.self.codec.code.sound in term_symbols c.args.self.codec.code.header s (few s) c.loop-r.r c.loop-r-test.true

-- they are what is lent
taken : (c : After-row_terms-row) → let h = c.args.self.codec.code.header in take h.k c.row_terms-row.result ≡ row_terms h c.loop-r.r
taken c = rw c.row_terms-row.ensures (take_padded 255 _ _ (terms (goal.at.After-row_terms-row c).In-loop-r).size)

pub row_terms-row-requires : goal.row_terms-row-requires
unfolding setup_of
row_terms-row-requires c =
    let v = c.args.self in
    (ap (λ (t : Setup). t.shifts) v.prepared, ap (λ (t : Setup). t.base) v.prepared, c.loop-r-test.true)

pub write_symbols-requires : goal.write_symbols-requires
write_symbols-requires c =
    let h = c.args.self.codec.code.header in
    let wide = c.width_of-w.ensures in
    let l = c.loop-r in
    let row = terms (goal.at.write_symbols-requires c).In-loop-r in
    rw (taken (goal.at.write_symbols-requires c).After-row_terms-row, wide)
    (symbols_fit h c.args.self.codec.code.sound (row_terms h l.r) row.are.below, part_length (l.r * (width h * h.k)) (width h * h.k) l.out (omega (arith, l.invariant.long, row_in (goal.at.write_symbols-requires c).In-loop-r)) ∙ mul_comm (width h) h.k ∙ ap (λ (x : ℕ). x * width h) (sym row.size))

pub loop-r-preserved : goal.loop-r-preserved
loop-r-preserved c =
    let h = c.args.self.codec.code.header in
    let w = width h in
    let l = c.loop-r in
    let row = row_terms h l.r in
    let size = (terms (goal.at.loop-r-preserved c).In-loop-r).size in
    rw (c.write_symbols.ensures, taken (goal.at.loop-r-preserved c).After-row_terms-row, c.width_of-w.ensures, row_after, add-sub_cancel_left)
    (fills_part (bytes_of w row) (w * h.k) (rw (rows_next _ _ _ c.loop-r-test.true) at l.invariant) (length_bytes w row ∙ ap (λ (x : ℕ). x * w) size ∙ mul_comm h.k w) (row_in (goal.at.loop-r-preserved c).In-loop-r))

pub returns : goal.returns
returns c =
    let h = c.args.self.codec.code.header in
    fills_all (rw (rows_end _ _ _ c.loop-r-test.false) at c.loop-r.invariant) (rw (c.requires, mul_comm (width h * h.k) h.k) (mul-le-mul c.loop-r-test.false (le_refl _)))
    ∙ bytes_rows (width h) (row_terms h) 0 h.k
