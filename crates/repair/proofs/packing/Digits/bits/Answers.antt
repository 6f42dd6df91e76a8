-- `Digits::bits` meets its contract.
use mathlib.Core.Path.{◌≡◌, refl}
use Prim.Native.Nat.{◌/◌, ◌%◌, ◌^◌}
use lib.ListN.{get_or}
use Rattle.std.proofs.Common.{rules}
use Rattle.lists.proofs.Made.{made_by_index}
use Rattle.repair.proofs.packing.Digits.bits.Goals as goal

pub returns : goal.returns
returns c =
    let a = c.args in
    made_by_index _ (λ f. (f.0.now ≡ a.bit) × (f.1.now ≡ a.self.table.now)) (λ x. get_or a.self.table.now x 0 / 2 ^ a.bit.place % 2) (λ f q i y held called. let (b, s) = held in (search rules, (search rules, search rules))) _ _ 256 0 (refl, refl) c.from_fn.ensures.items
