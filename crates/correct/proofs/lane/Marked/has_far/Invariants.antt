-- `has_far` meets its contract. Invariant: the search from 0 on is the search from t on, and the lanes from t on are left.
use mathlib.Core.Path.{◌≡◌}
use mathlib.Core.Bool.{Bool}
use mathlib.Core.List.{List}
use Prim.Native.Nat.{ℕ, ◌-◌, ◌*◌, ◌≤◌}
use lib.ListN.{length, drop}
use Rattle.std.specs.Iterator.Adapters.{enumerate_source, enumerate_count}
use Rattle.std.specs.Slice.Iter.{chunks_rest, chunks_size}
use Rattle.lists.specs.Search.{first_false}
use Rattle.layout.specs.Layout.{share_layout, lane_of}
use Rattle.layout.specs.Width.{symbols_of}
use Rattle.generator.specs.declared.Header.{Header}
use Rattle.generator.specs.Records.{width}
use Rattle.nearest_word.specs.Nearest.{has_near}
use Rattle.correct.proofs.lane.Marked.has_far.Given as goal

-- lane t has a word near enough
abbrev pub near : Header → ℕ → List ℕ → ℕ → Bool
near h l shares t = has_near h (lane_of share_layout h.n l t (symbols_of (width h) shares))

abbrev pub invariant-loop-t : goal.invariant-loop-t
invariant-loop-t l =
    let h = l.self.rows.code.header in
    let lanes = length l.self.marks.now in
    let t = enumerate_count l.t-iterator in
    goal.iterator-loop-t.can_next l.t-iterator
    × goal.iterator-loop-t.is_finite l.t-iterator
    × (chunks_size (enumerate_source l.t-iterator) ≡ width h * h.n)
    × (chunks_rest (enumerate_source l.t-iterator) ≡ drop (t * (width h * h.n)) l.shares)
    × (t ≤ lanes)
    × (first_false lanes 0 (near h lanes l.shares) ≡ first_false (lanes - t) t (near h lanes l.shares))
