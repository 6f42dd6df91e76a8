-- `Halves::remainders` meets its contract.
use mathlib.Core.Path.{◌≡◌, refl}
use Rattle.std.proofs.Common.{rules, get_or}
use Rattle.lists.proofs.Made.{made_by_index}
use Rattle.kernel.specs.Inner.Halves.{rest_of}
use Rattle.kernel.proofs.wide.Halves.remainders.Goals as goal

pub returns : goal.returns
returns c =
    let a = c.args in
    let s = a.self.now in
    made_by_index _ (λ f. (f.0.now ≡ s) × (f.1.now ≡ a.p)) (λ t. rest_of a.p (get_or s.low.rest t 0) (get_or s.low.upper t 0) (get_or s.high.rest t 0) (get_or s.high.upper t 0)) (λ f q i y held called. let (s, t) = held in (search rules, (search rules, search rules))) _ _ 16 0 (refl, refl) c.from_fn.ensures.items
