-- `Weights::subsets` meets its contract.
use Rattle.subset_sums.proofs.Spreading.{pack_digit}
use Rattle.subset_sums.proofs.slices.Weights.subsets.Goals as goal

pub returns : goal.returns
returns c =
    pack_digit c.args.self.weights.now c.args.g _ _ _ _ c.digits.ensures.0 c.digits-2.ensures.0 c.digits-3.ensures.0 c.digits-4.ensures.0
