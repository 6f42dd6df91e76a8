-- `add` meets its contract: the kernel's sum of two rows with the weights 1 and 1.
use mathlib.Core.Path.{refl, sym, ap, ◌∙◌}
use Prim.Native.Nat.{ℕ, ◌*◌}
use native.Mathlib.Omega.{arith}
use lib.Seq.{length-take-le}
use Rattle.differences.proofs.Tiles.{row_bytes_long, row_few, pair_ready, ones_below}
use Rattle.differences.proofs.rows.Rows.add.Goals as goal

pub slice_bounds-pair-end-2 : goal.slice_bounds-pair-end-2
slice_bounds-pair-end-2 c = sym (length-take-le _ _ (omega (arith, row_few c.requires.0)))

pub load_pair-requires : goal.load_pair-requires
load_pair-requires c =
    (row_bytes_long c.requires.1, row_bytes_long c.requires.0, length-take-le _ _ (omega (arith, row_few c.requires.0)) ∙ ap (λ (x : ℕ). 2 * x) (row_bytes_long c.requires.0))

pub combine_symbols-requires : goal.combine_symbols-requires
combine_symbols-requires c =
    rw c.load_pair.ensures (pair_ready c.requires.1 c.requires.0 refl (ones_below _ c.requires.0.symbol_rows.sound) (row_bytes_long c.requires.1))
