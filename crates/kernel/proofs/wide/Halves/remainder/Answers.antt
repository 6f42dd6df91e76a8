-- `Halves::remainder` meets its contract.
use Rattle.std.proofs.Common.{ℕ, ◌+◌, ◌*◌, ◌%◌, ap₂}
use Rattle.kernel.specs.Inner.Halves.{rest_of}
use Rattle.kernel.proofs.wide.Halves.remainder.Goals as goal

pub returns : goal.returns
unfolding rest_of
returns c = ap₂ (λ (x y : ℕ). (x * 65536 + y) % c.args.p) c.total.ensures.value c.total-2.ensures.value
