-- `correct_lanes` meets its contract. Invariant: the lanes before t are set right, and the count is of the places at which they differ.
use mathlib.Core.Path.{◌≡◌}
use mathlib.Core.List.{List}
use Prim.Native.Nat.{ℕ, ◌*◌, ◌≤◌}
use lib.ListN.{length, drop}
use Rattle.lists.proofs.Fill.{Fills}
use Rattle.layout.specs.Layout.{share_layout}
use Rattle.layout.specs.Width.{symbols_of}
use Rattle.generator.specs.declared.Header.{Header}
use Rattle.generator.specs.Records.{width}
use Rattle.correct.specs.Blocks.{corrected_shares, corrected_bytes}
use Rattle.correct.proofs.Counting.{apart_to}
use Rattle.correct.proofs.lane.Marked.correct_lanes.Given as goal

-- the symbols of the shares, and of the shares set right
abbrev pub before : Header → List ℕ → List ℕ
before h shares = symbols_of (width h) shares

abbrev pub after : Header → ℕ → List ℕ → List ℕ
after h l shares = corrected_shares share_layout h l (before h shares)

abbrev pub invariant-loop-t : goal.invariant-loop-t
invariant-loop-t l =
    let h = l.self.rows.code.header in
    let lanes = length l.self.marks.now in
    let whole = corrected_bytes share_layout h lanes l.initial.shares in
    (l.count ≤ l.t * 255)
    × (l.count ≡ apart_to h.n (before h l.initial.shares) (after h lanes l.initial.shares) l.t)
    × Fills l.initial.shares l.shares (l.t * (width h * h.n)) (drop (l.t * (width h * h.n)) whole) whole
