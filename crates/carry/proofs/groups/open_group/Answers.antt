-- `open_group` meets its contract: one byte more.
use mathlib.Core.Path.{sym, ◌∙◌}
use Prim.Native.Nat.{◌≤◌}
use native.Mathlib.Omega.{arith}
use lib.ListN.{length, take}
use lib.Seq.{get_or-take, length-take-le}
use Rattle.lists.proofs.Rows.{from_next}
use Rattle.lists.proofs.Fill.{fills_put}
use Rattle.lists.proofs.Parts.{from_at, valued_all}
use Rattle.layout.specs.Width.{symbols_of, bytes_of}
use Rattle.layout.proofs.Widths.{length_symbols, length_bytes}
use Rattle.carrying.specs.Masks.{opened}
use Rattle.carrying.proofs.Carried.{length_opened}
use Rattle.carry.proofs.Words.{mask_at, opened_byte}
use Rattle.carry.proofs.groups.open_group.Goals as goal

pub loop-i-preserved : goal.loop-i-preserved
loop-i-preserved c =
    let l = c.loop-i in
    let mask = mask_at c.args.group.now l.i c.mask_byte.result c.mask_byte.ensures.even c.mask_byte.ensures.odd in
    rw mask (fills_put (rw (from_next _ (length c.args.out.now) l.i (omega arith)) at l.invariant) (omega arith))

pub returns : goal.returns
returns c =
    let g = c.args.group.now in
    let n = length c.args.out.now in
    let xs = symbols_of 2 g in
    let all = bytes_of 2 (opened xs) in
    let fits : n ≤ length all = omega (arith, length_bytes 2 (opened xs), length_symbols 2 g, length_opened xs (omega (arith, length_symbols 2 g)), c.requires) in
    valued_all _ _ c.loop-i.invariant (omega arith) (omega arith)
    ∙ sym (from_at _ (take n all) n (length-take-le n all fits) (λ i h. get_or-take n all i 0 h ∙ opened_byte g (λ j. omega (arith, c.type_inv.group j)) i c.requires.0 (omega (arith, c.requires))))
