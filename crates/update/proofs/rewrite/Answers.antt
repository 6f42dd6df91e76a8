-- `rewrite` meets its contract: `RewritingBytes` is the invariant, and each way through a turn is one of its laws.
use Prim.Native.Nat.{◌+◌, ◌*◌, ◌≤◌, ◌<◌}
use mathlib.Core.Path.{◌≡◌, sym, ◌∙◌}
use native.Mathlib.Nat.{lt_of_lt_of_le}
use native.Mathlib.Omega.{arith}
use lib.ListN.{length}
use Rattle.lists.proofs.Numbers.{at_below, below_at}
use Rattle.lists.proofs.Rows.{part_length}
use Rattle.layout.specs.Width.{symbol_at, symbols_of}
use Rattle.generator.specs.Records.{size}
use Rattle.generator.proofs.Bounds.{entry_below}
use Rattle.generator.proofs.Widths.{size_fits_width}
use Rattle.update.proofs.Lane.{word_long}
use Rattle.update.proofs.Rewriting.{after}
use Rattle.update.proofs.LaneBytes.{after_below, bytes_start, bytes_end, place_inside, bytes_inside, bytes_held, bytes_put, bytes_skip}
use Rattle.update.proofs.rewrite.Goals as goal
use Rattle.update.proofs.rewrite.Goals.{After-renewed-after, In-loop-j, else-after-before, then-after-before}

-- node j's bytes lie in the lane
inside : (c : In-loop-j) → let a = c.args in c.loop-j.j * a.w.bytes + a.w.bytes ≤ length c.loop-j.lane
inside c = bytes_inside c.requires.0 _ c.loop-j.invariant c.loop-j-test.true

-- its symbol is one of the field
held : (c : In-loop-j) → let a = c.args in symbol_at a.w.bytes c.loop-j.lane c.loop-j.j < size a.generator.now.codec.code.header
held c =
    let ready = c.requires.0 in
    rw (bytes_held ready _ c.loop-j.invariant c.loop-j-test.true) (below_at _ _ ready.symbols _ (omega (arith, word_long ready, c.loop-j-test.true)))

-- and becomes what the update says
becomes : (c : After-renewed-after) → let a = c.args in c.renewed-after.result ≡ after a.generator.now.codec.code.header a.which a.x (symbols_of a.w.bytes a.lane.now) c.loop-j.j
becomes c =
    let (ready, factor) = c.requires in
    let node = c.loop-j-test.true in
    rw (← c.entry-entry.ensures, ← bytes_held ready _ c.loop-j.invariant node, ← c.symbol_at-before.ensures) c.renewed-after.ensures

pub loop-j-init : goal.loop-j-init
loop-j-init c =
    bytes_start c.requires.0 _ (at_below 256 _ (λ i h. omega (arith, c.type_inv.lane i)))

pub symbol_at-before-requires : goal.symbol_at-before-requires
symbol_at-before-requires c =
    let ready = c.requires.0 in place_inside ready _ c.loop-j.invariant c.loop-j-test.true

pub renewed-after-requires : goal.renewed-after-requires
renewed-after-requires c =
    let (ready, factor) = c.requires in (factor, rw c.entry-entry.ensures (entry_below _ ready.sound _ _), rw c.symbol_at-before.ensures (held (goal.at.renewed-after-requires c).In-loop-j))

pub write_symbol-requires : goal.write_symbol-requires
write_symbol-requires c =
    let (ready, factor) = c.requires in
    let j = c.loop-j.j in (
      rw (ready.wide, becomes (goal.at.write_symbol-requires c).After-renewed-after) (lt_of_lt_of_le (after_below ready c.args.x factor j c.loop-j-test.true) (size_fits_width c.args.generator.now.codec.code.header ready.sound)),
      part_length (j * c.args.w.bytes) c.args.w.bytes _ (inside (goal.at.write_symbol-requires c).In-loop-j),
    )

pub loop-j-preserved : goal.loop-j-preserved
loop-j-preserved c =
    let (ready, factor) = c.requires in
    let turn = c.loop-j.invariant in
    let node = c.loop-j-test.true in
    elim c.if-after-before.branch [ then-after-before u ↦ rw (u.lane-is, u.count-is, u.write_symbol.ensures) (bytes_put ready _ turn node _ (becomes (goal.at.loop-j-preserved c).After-renewed-after) (λ e. u.if-after-before.true (e ∙ sym c.symbol_at-before.ensures))) | else-after-before u ↦ rw (u.lane-is, u.count-is) (bytes_skip ready _ turn node _ (becomes (goal.at.loop-j-preserved c).After-renewed-after) (u.if-after-before.false ∙ c.symbol_at-before.ensures)) ]

pub returns : goal.returns
returns c = bytes_end c.requires.0 _ c.loop-j.invariant c.loop-j-test.false
