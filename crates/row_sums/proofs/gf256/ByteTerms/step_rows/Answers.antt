-- `step_rows` meets its contract: the listed rows are those of the digit.
use Rattle.row_sums.proofs.Listing.{listed_rows}
use Rattle.row_sums.proofs.gf256.ByteTerms.step_rows.Goals as goal

pub multiply_x_first-others-requires : goal.multiply_x_first-others-requires
multiply_x_first-others-requires c =
    rw c.list_rows-count.ensures.1 (listed_rows c.args.digit.place _ c.args.self.terms.weights.now c.args.self.bytes _ c.requires.1)

pub add_pairs-requires : goal.add_pairs-requires
add_pairs-requires c = let started = c.multiply_x_first-others.ensures in (started.listed, started.even)
