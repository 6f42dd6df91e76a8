-- `Repair::sent_size` meets its contract.
use mathlib.Core.Path.{◌≡◌, sym, ap, ◌∙◌}
use Prim.Native.Nat.{ℕ, ◌*◌, ◌≤◌}
use native.Mathlib.Nat.{zero-mul}
use native.Mathlib.Omega.{arith}
use Rattle.std.specs.Prelude.{Option, None, Some, MatchOption}
use Rattle.std.proofs.Common.{rules}
use Rattle.repair_tables.specs.declared.bits.Bits.{Bits}
use Rattle.repair_tables.specs.Inner.Bits.{bit_count}
use Rattle.repair_tables.proofs.Steps.{width_some}
use Rattle.repair.specs.Packing.{packed_size}
use Rattle.repair.proofs.Digits.{size_fits}
use Rattle.repair.proofs.Repair.sent_size.Goals as goal

-- the size for the bits that there may be, or 0
size_told : (o : Option Bits) (q r l : ℕ) → l ≤ 4294967295 → MatchOption o (q ≡ 0) (λ b. bit_count b ≡ q) → MatchOption o (r ≡ 0) (λ b. r ≡ packed_size (bit_count b) l) → (r ≡ packed_size q l) × (r ≤ 4 * 536870912)
unfolding packed_size
size_told None q r l few none told = (told ∙ sym (ap (λ (b : ℕ). packed_size b l) none ∙ zero-mul _), omega (arith, told))
size_told (Some b) q r l few some told = (told ∙ ap (λ (b : ℕ). packed_size b l) some, rw told (size_fits _ _ (width_some b).1 few))

pub returns-clause-size : goal.returns-clause-size
returns-clause-size c =
    let told : MatchOption c.new.result (c.map_or.result ≡ 0) (λ b. c.map_or.result ≡ packed_size (bit_count b) c.args.self.lanes) = search rules in
    (size_told c.new.result _ _ _ c.args.self.counted c.new.ensures told).0

pub returns-clause-fits : goal.returns-clause-fits
returns-clause-fits c =
    let told : MatchOption c.new.result (c.map_or.result ≡ 0) (λ b. c.map_or.result ≡ packed_size (bit_count b) c.args.self.lanes) = search rules in
    (size_told c.new.result _ _ _ c.args.self.counted c.new.ensures told).1
