-- `place` meets its contract.
use mathlib.Core.Path.{refl}
use Rattle.sliding_sums.specs.Inner.Tables.{place_of}
use Rattle.sliding_sums.proofs.bytes.place.Goals as goal

pub returns : goal.returns
unfolding place_of
returns c = refl
