-- `symbols_below` meets its contract. The loop's invariant: all are below the size where those from i on are.
use mathlib.Core.Path.{sym, ◌∙◌}
use native.Mathlib.Nat.{sub-zero}
use Rattle.layout.specs.Width.{symbols_of}
use Rattle.symbols.proofs.Below.{below_step, below_stop, below_none}
use Rattle.symbols.proofs.Width.symbols_below.Goals as goal

pub loop-i-init : goal.loop-i-init
unfolding symbols_of
loop-i-init c = rw sub-zero

pub returns-then-size-symbol_at : goal.returns-then-size-symbol_at
returns-then-size-symbol_at c =
    let l = c.loop-i in
    sym (l.invariant ∙ below_stop _ _ _ _ c.loop-i-test.true (rw c.symbol_at.ensures at c.if-size-symbol_at.true))

pub loop-i-preserved : goal.loop-i-preserved
loop-i-preserved c =
    let l = c.loop-i in
    l.invariant ∙ below_step _ _ _ _ c.loop-i-test.true (rw c.symbol_at.ensures at c.if-size-symbol_at.false)

pub returns : goal.returns
returns c = sym (c.loop-i.invariant ∙ below_none _ _ _ _ c.loop-i-test.false)
