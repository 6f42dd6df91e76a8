-- `fill_lane` meets its contract: the sums of the base word with the placed symbols are the lane's encoding.
use mathlib.Core.Path.{◌≡◌, ap, ◌∙◌}
use mathlib.Core.Bool.{true}
use mathlib.Core.List.{List}
use Prim.Native.Nat.{ℕ}
use borrow.Author.Rules.{rules}
use lib.ListN.{length, take}
use lib.Seq.{length-take-le}
use Rattle.lists.specs.Numbers.{all_below}
use Rattle.lists.specs.Padded.{zeros}
use Rattle.lists.proofs.Fill.{length_zeros}
use Rattle.lists.proofs.Padding.{below_zeros}
use Rattle.layout.specs.Width.{bytes_of}
use Rattle.field.proofs.FieldOf.{size_pos}
use Rattle.generator.specs.declared.Header.{Header}
use Rattle.generator.specs.Records.{modulus_of, size, distance}
use Rattle.generator.specs.Codewords.{encoding}
use Rattle.plan.specs.Inner.Planned.{Planned}
use Rattle.sliding_sums.specs.Inner.Windows.{window_sums}
use Rattle.encode.specs.Inner.OneLane.{placed_from, by_node}
use Rattle.encode.proofs.OneLane.{placed_below, length_placed, lane_sums}
use Rattle.encode.proofs.message.Message.fill_lane.Goals as goal

module _ (h : Header) (shifts base ms row : List ℕ) (p : Planned h shifts base) (long : length ms ≡ h.k) (symbols : all_below (size h) ms ≡ true) (placed : row ≡ placed_from h.n 0 shifts ms (zeros 510)) where
  row_long : length row ≡ 510
  row_long = ap length placed ∙ length_placed _ _ _ _ _ ∙ length_zeros 510

  row_symbols : all_below (size h) row ≡ true
  row_symbols = rw placed (placed_below (size h) _ 0 _ _ _ symbols (below_zeros (size h) 510 (size_pos (modulus_of h) p.sound.field)))

  encodes : (l : ℕ) → l ≡ h.n → by_node (window_sums (modulus_of h) (take (distance h) base) row l) ≡ encoding h ms
  encodes l places = rw (placed, places, p.shifts_are, p.base_is) (lane_sums h p.sound ms long symbols)

pub write_nodes-requires : goal.write_nodes-requires
write_nodes-requires c =
    let planned = c.args.self.generator.now.planned in
    let placed = c.placed-row.ensures in
    (row_long _ _ _ _ _ planned c.requires.0 c.requires.1 placed, row_symbols _ _ _ _ _ planned c.requires.0 c.requires.1 placed, length-take-le _ _ (search rules), c.requires.2)

pub returns : goal.returns
returns c =
    c.write_nodes.ensures
    ∙ ap (bytes_of c.args.self.width.bytes) (encodes _ _ _ _ _ c.args.self.generator.now.planned c.requires.0 c.requires.1 c.placed-row.ensures _ (length-take-le _ _ (search rules)))
