-- `write_nodes` meets its contract: there is a window for each node, and the sums are symbols, so they fit their bytes.
use mathlib.Core.Path.{◌≡◌, sym, ap, ◌∙◌}
use mathlib.Core.Bool.{true}
use mathlib.Core.List.{List}
use Prim.Native.Nat.{ℕ, ◌+◌, ◌-◌, ◌*◌, ◌^◌}
use native.Mathlib.Nat.{mul_comm, lt_of_lt_of_le}
use native.Mathlib.Omega.{arith}
use lib.ListN.{length, take}
use lib.Seq.{length-take-le}
use Rattle.lists.specs.Numbers.{all_below}
use Rattle.lists.proofs.Numbers.{at_below, below_at}
use Rattle.generator.specs.declared.Header.{Header}
use Rattle.generator.specs.Records.{size, distance}
use Rattle.generator.proofs.Widths.{size_fits_width}
use Rattle.plan.specs.Inner.Planned.{Planned}
use Rattle.plan.proofs.Plans.{base_room}
use Rattle.sliding_sums.specs.Inner.Windows.{Windows}
use Rattle.sliding_sums.proofs.Tables.{length_windows}
use Rattle.encode.specs.Inner.Encoded.{record_header}
use Rattle.encode.proofs.OneLane.{entries_below, nodes_below, length_by_node}
use Rattle.encode.proofs.message.Message.write_nodes.Goals as goal
use Rattle.encode.proofs.message.Message.write_nodes.Goals.{Start}

module _ {h : Header} {shifts base : List ℕ} (p : Planned h shifts base) where
  -- the entries of the base word that are not zero, as they are lent
  weights_long : length (take (h.n - h.k + 1) base) ≡ h.n - h.k + 1
  weights_long = length-take-le _ _ (rw p.base_is (omega (arith, base_room h, p.sound.some, p.sound.fits)))

  windows : {row : List ℕ} {l : ℕ} → length row ≡ 510 → all_below (size h) row ≡ true → l ≡ h.n → Windows (size h) (take (h.n - h.k + 1) base) row l
  unfolding distance
  windows wide symbols places =
      let sound = p.sound in
      record {
        few = omega (arith, weights_long, sound.byte, sound.some);
        places = omega (arith, sound.byte);
        room = omega (arith, weights_long, wide, sound.byte, sound.some);
        short = omega (arith, wide);
        weights = rw p.base_is (entries_below h sound);
        symbols = symbols;
      }

of_start : (start : Start) → let h = record_header start.args.self in Windows (size h) (take (h.n - h.k + 1) start.args.self.generator.now.base) start.args.row.now (length start.args.sums.now)
of_start start = windows start.args.self.generator.now.planned start.requires.0 start.requires.1 start.requires.2

pub window_sums-requires : goal.window_sums-requires
window_sums-requires c = (c.args.self.generator.now.planned.sound.usable_field, rw c.checks-d.ensures (of_start (goal.at.window_sums-requires c).Start))

pub write_symbols-requires : goal.write_symbols-requires
write_symbols-requires c =
    let m = c.args.self in
    let sound = m.generator.now.planned.sound in
    let made = of_start (goal.at.write_symbols-requires c).Start in
    let low = nodes_below _ sound.field _ c.args.row.now (length c.args.sums.now) made.weights made.symbols in
    rw (c.turn.ensures, c.window_sums.ensures, c.checks-d.ensures)
    (at_below (256 ^ m.width.bytes) _ (λ i inside. lt_of_lt_of_le (below_at _ _ low i inside) (rw m.rows.wide (size_fits_width _ sound))), c.requires.3 ∙ mul_comm m.width.bytes (record_header m).n ∙ ap (λ (x : ℕ). x * m.width.bytes) (sym (length_by_node _ ∙ length_windows _ _ _ _ ∙ c.requires.2)))
