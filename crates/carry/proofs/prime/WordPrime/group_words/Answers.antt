-- `group_words` meets its contract: a group of two symbols or more is left.
use native.Mathlib.Omega.{arith}
use Rattle.carrying.specs.Carrying.{group_words}
use Rattle.carrying.proofs.Carried.{two_symbols}
use Rattle.carry.proofs.prime.WordPrime.group_words.Goals as goal

pub returns : goal.returns
unfolding group_words
returns c =
    let two = two_symbols c.args.self.p (omega arith) (omega arith) in
    (omega (arith, c.min.ensures), omega (arith, c.min.ensures, two), omega (arith, c.min.ensures))
