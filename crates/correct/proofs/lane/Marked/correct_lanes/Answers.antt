-- `correct_lanes` meets its contract. Invariant: the lanes before t are set right, and the count is of the places at which they differ.
use mathlib.Core.Path.{◌≡◌, sym, ap₂, ◌∙◌}
use mathlib.Core.List.{List}
use Prim.Native.Nat.{ℕ, ◌+◌, ◌*◌, ◌≤◌}
use native.Mathlib.Omega.{arith}
use lib.ListN.{length, drop}
use Rattle.lists.specs.Counting.{differ}
use Rattle.lists.proofs.Differ.{differ_most}
use Rattle.lists.proofs.Rows.{row_after}
use Rattle.layout.specs.Layout.{share_layout, lane_of}
use Rattle.layout.proofs.Buffers.{length_lane}
use Rattle.layout.proofs.Places.{share_lawful}
use Rattle.generator.specs.declared.Header.{Header}
use Rattle.generator.specs.Records.{width}
use Rattle.generator.proofs.Widths.{width_some}
use Rattle.tiles.proofs.Parts.{fills_stretch}
use Rattle.correct.specs.Blocks.{corrected_bytes}
use Rattle.correct.proofs.Shares.{lane_corrected}
use Rattle.correct.proofs.Counting.{apart_to, apart_lane}
use Rattle.correct.proofs.LaneBytes.{symbols_long, part_inside, part_lane, part_marked, part_corrected, corrected_size}
use Rattle.correct.proofs.lane.Marked.correct_lanes.Invariants.{after, before}
use Rattle.correct.proofs.lane.Marked.correct_lanes.Goals as goal
use Rattle.correct.proofs.lane.Marked.correct_lanes.Goals.{After-write_nearest-count, In-loop-t}

-- lane t, before and after
abbrev old_lane : Header → ℕ → List ℕ → ℕ → List ℕ
old_lane h l shares t = lane_of share_layout h.n l t (before h shares)

abbrev new_lane : Header → ℕ → List ℕ → ℕ → List ℕ
new_lane h l shares t = lane_of share_layout h.n l t (after h l shares)

untouched : (c : In-loop-t) → let h = c.args.self.rows.code.header in let a = c.loop-t.t * (width h * h.n) in drop a c.loop-t.shares ≡ drop a c.args.shares.now
untouched c = c.loop-t.invariant.2.kept

pub write_nearest-count-requires : goal.write_nearest-count-requires
write_nearest-count-requires c =
    (c.loop-t-test.true, rw (c.width_of.ensures, untouched (goal.at.write_nearest-count-requires c).In-loop-t) (part_marked c.requires (width_some _) c.loop-t.t c.loop-t-test.true))

-- how many symbols of lane t differ
altered : (c : After-write_nearest-count)
    → let v = c.args.self in
    let l = length v.marks.now in
    c.write_nearest-count.result ≡ differ (old_lane v.rows.code.header l c.args.shares.now c.loop-t.t) (new_lane v.rows.code.header l c.args.shares.now c.loop-t.t)
altered c =
    let h = c.args.self.rows.code.header in
    let m = c.requires in
    let lane = part_lane m (width_some _) c.loop-t.t c.loop-t-test.true in
    let right = lane_corrected share_lawful h m.sound (length c.args.self.marks.now) (before h c.args.shares.now) (symbols_long m (width_some _)) m.symbols c.loop-t.t c.loop-t-test.true in
    rw (lane, ← right) at (rw (c.width_of.ensures, untouched (goal.at.After-write_nearest-count c).In-loop-t) at c.write_nearest-count.ensures.1)

few : (c : After-write_nearest-count) → c.write_nearest-count.result ≤ 255
few c =
    let h = c.args.self.rows.code.header in
    let l = length c.args.self.marks.now in
    let shares = c.args.shares.now in
    let t = c.loop-t.t in
    omega (arith, altered c, differ_most (old_lane h l shares t) (new_lane h l shares t), length_lane share_layout h.n l t (before h shares), c.requires.sound.byte)

pub overflow_add-count : goal.overflow_add-count
overflow_add-count c =
    omega (arith, few (goal.at.overflow_add-count c).After-write_nearest-count, c.loop-t.invariant.0, c.loop-t-test.true, c.requires.few_lanes)

pub loop-t-preserved : goal.loop-t-preserved
loop-t-preserved c =
    let h = c.args.self.rows.code.header in
    let lanes = length c.args.self.marks.now in
    let shares = c.args.shares.now in
    let m = c.requires in
    let l = c.loop-t in
    let k = width h * h.n in
    let taken = c.loop-t-test.true in
    let whole = corrected_bytes share_layout h lanes shares in
    let count : l.count + c.write_nearest-count.result ≡ apart_to h.n (before h shares) (after h lanes shares) (l.t + 1) =
    ap₂ (λ (x z : ℕ). x + z) l.invariant.1 (altered (goal.at.loop-t-preserved c).After-write_nearest-count) ∙ sym (apart_lane h.n lanes (before h shares) (after h lanes shares) l.t) in (
      omega (arith, few (goal.at.loop-t-preserved c).After-write_nearest-count, l.invariant.0),
      count,
      rw (row_after l.t k, c.width_of.ensures)
          (fills_stretch whole (l.t * k) _ k l.invariant.2 (rw (c.width_of.ensures, untouched (goal.at.loop-t-preserved c).In-loop-t) at c.write_nearest-count.ensures.0 ∙ part_corrected m (width_some _) l.t taken) (corrected_size m (width_some _)) (part_inside m (width_some _) l.t taken)),
    )
