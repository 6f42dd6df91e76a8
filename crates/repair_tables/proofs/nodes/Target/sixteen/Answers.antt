-- `Target::sixteen` meets its contract.
use mathlib.Core.Path.{◌≡◌, refl}
use Prim.Native.Nat.{◌*◌}
use Rattle.std.proofs.Common.{rules}
use Rattle.lists.proofs.Made.{made_by_index}
use Rattle.generator.specs.Records.{modulus_of}
use Rattle.repair_tables.specs.Inner.Bits.{bit_count}
use Rattle.repair_tables.proofs.Steps.{digit_of}
use Rattle.repair_tables.proofs.nodes.Target.sixteen.Goals as goal

pub returns : goal.returns
returns c =
    let a = c.args in
    made_by_index _ (λ f. (f.0.now ≡ a.self) × (f.1.now ≡ a.f) × (f.2.now ≡ a.step)) (λ i. digit_of (modulus_of a.self.codec.code.header) (bit_count a.self.bits) a.f (i * a.step)) (λ f q i y held called. let (s, t, u) = held in (search rules, (search rules, search rules, search rules))) _ _ 16 0 (refl, refl, refl) c.from_fn.ensures.items
