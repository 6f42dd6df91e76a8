-- `add_up` meets its contract.
use mathlib.Core.List.{List}
use mathlib.Core.Path.{◌≡◌, refl, sym, ap₂, ◌∙◌}
use Prim.Native.Nat.{ℕ, ◌*◌, ◌≤◌}
use native.Mathlib.Nat.{mul_assoc}
use native.Mathlib.Omega.{arith}
use lib.ListN.{length, take}
use lib.Seq.{length-take-le}
use Rattle.lists.specs.Rows.{from}
use Rattle.lists.proofs.Rows.{length_from}
use Rattle.lists.proofs.Padding.{take_padded}
use Rattle.kernel.specs.Inner.Lanes.{lanewise}
use Rattle.traces.specs.Repairs.{bits, senders}
use Rattle.repair_tables.specs.Inner.Weights.{bit_weight}
use Rattle.traces.proofs.Claims.{senders_many}
use Rattle.repair_tables.proofs.Steps.{bits_fit}
use Rattle.repair.specs.Packing.{packed_size}
use Rattle.repair.specs.Inner.Sums.{plane_sums, lane_byte}
use Rattle.repair.proofs.Digits.{plane_small}
use Rattle.repair.proofs.Adding.{table_long, share_is}
use Rattle.repair.proofs.add_up.Goals as goal
use Rattle.repair.proofs.add_up.Goals.{After-count}

-- the weights fit
fit : (c : After-count) → c.senders-senders.result * c.count.result ≤ 1020
fit c = rw c.count.ensures (bits_fit _ c.args.target.bits (omega (arith, c.senders-senders.ensures, c.args.target.codec.code.sound.byte)))

-- the weights that are lent
lent : (c : After-count) → let t = c.args.target in let h = t.codec.code.header in let b = bits h (length t.missing.now) in let js = senders h t.node t.missing.now in
    take (c.senders-senders.result * c.count.result) c.weights-weights.result ≡ from (bit_weight h b t.node js) 0 (length js * b)
lent c =
    let t = c.args.target in
    let b = c.count.ensures ∙ t.needed in
    let count = c.senders-senders.ensures ∙ sym (senders_many _ _ _ t.repairing t.different) in
    ap₂ (λ (n : ℕ) (ws : List ℕ). take n ws) (ap₂ ◌*◌ count b) (rw t.needed at c.weights-weights.ensures) ∙ take_padded 1020 _ _ (length_from _ 0 _)

pub invariant_of-planes : goal.invariant_of-planes
unfolding packed_size
invariant_of-planes c =
    let (few, rows) = c.requires in
    let long = length-take-le (c.senders-senders.result * c.count.result) c.weights-weights.result (omega (arith, fit (goal.at.invariant_of-planes c).After-count)) in
    let size = c.plane_size.ensures in
    record {
      whole = rows ∙ rw (long, c.count.ensures, size, c.senders-senders.ensures) (sym (mul_assoc _ _ _));
      small = rw size (plane_small _ few);
    }

pub returns : goal.returns
returns c =
    let a = c.args in
    let t = a.target in
    let ws = take (c.senders-senders.result * c.count.result) c.weights-weights.result in
    let are = lent (goal.at.returns c).After-count in
    c.combine.ensures
    ∙ ap₂ (λ (n size : ℕ). lanewise (λ i y. lane_byte (plane_sums ws n size a.rows.now) i) a.out.now) (table_long _ _ _ are) c.plane_size.ensures
    ∙ share_is t.codec.code.header t.codec.code.sound _ t.node t.missing.now a.rows.now ws t.repairing.some are a.out.now refl
