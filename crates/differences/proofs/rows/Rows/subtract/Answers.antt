-- `subtract` meets its contract: the kernel's sum of two rows with the weights 1 and −1.
use mathlib.Core.Path.{refl, sym, ap, ◌∙◌}
use Prim.Native.Nat.{ℕ, ◌*◌, ◌<◌}
use lib.Seq.{length-take-le}
use native.Mathlib.Omega.{arith}
use Rattle.field.specs.Fields.{sub}
use Rattle.generator.specs.Records.{modulus_of, size}
use Rattle.differences.proofs.Sums.{minus_below}
use Rattle.differences.proofs.Tiles.{row_bytes_long, row_few, pair_ready, weights_below}
use Rattle.differences.proofs.rows.Rows.subtract.Goals as goal
use Rattle.differences.proofs.rows.Rows.subtract.Goals.{Start}

-- −1 is a symbol
minus : (start : Start) → sub (modulus_of start.args.self.code.header) 0 1 < size start.args.self.code.header
minus start = minus_below (modulus_of start.args.self.code.header) start.requires.0.symbol_rows.sound.field

pub slice_bounds-pair-end-2 : goal.slice_bounds-pair-end-2
slice_bounds-pair-end-2 c = sym (length-take-le _ _ (omega (arith, row_few c.requires.0)))

pub load_pair-requires : goal.load_pair-requires
load_pair-requires c =
    (row_bytes_long c.requires.0, row_bytes_long c.requires.1, length-take-le _ _ (omega (arith, row_few c.requires.0)) ∙ ap (λ (x : ℕ). 2 * x) (row_bytes_long c.requires.0))

pub combine_symbols-requires : goal.combine_symbols-requires
combine_symbols-requires c =
    rw (c.load_pair.ensures, c.sub-minus_one.ensures) (pair_ready c.requires.0 c.requires.1 refl (weights_below _ c.requires.0.symbol_rows.sound _ (minus (goal.at.combine_symbols-requires c).Start)) c.requires.2)
