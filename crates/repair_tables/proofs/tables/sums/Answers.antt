-- `sums` meets its contract.
use mathlib.Core.Path.{◌≡◌, refl}
use Prim.Native.Nat.{◌/◌, ◌%◌}
use lib.Bits.{bit_xor}
use lib.ListN.{get_or}
use Rattle.std.proofs.Common.{rules}
use Rattle.lists.proofs.Made.{made_by_index}
use Rattle.repair_tables.proofs.tables.sums.Goals as goal

pub returns : goal.returns
returns c =
    let low = c.args.low.now in
    let high = c.args.high.now in
    made_by_index _ (λ f. (f.0.now ≡ low) × (f.1.now ≡ high)) (λ x. bit_xor (get_or low (x % 16) 0) (get_or high (x / 16) 0)) (λ f q i y held called. let (l, h) = held in (search rules, (search rules, search rules))) _ _ 256 0 (refl, refl) c.from_fn.ensures.items
