-- `largest_pair` meets its contract. The loop's invariant: all are below m where the largest so far and those from i on are.
use mathlib.Core.Path.{◌≡◌, ◌∙◌}
use Prim.Native.Nat.{◌/◌, ◌<◌}
use native.Mathlib.Nat.{sub-zero}
use borrow.Author.Tests.{lt-ltb}
use lib.ListN.{length}
use Rattle.layout.specs.Width.{symbol_at, symbols_of}
use native.Mathlib.Omega.{arith}
use Rattle.symbols.proofs.Sizes.{pair_read}
use Rattle.symbols.proofs.Below.{ltb_max, below_larger, below_largest}
use Rattle.symbols.proofs.largest_pair.Goals as goal

pub loop-pair-init : goal.loop-pair-init
unfolding symbols_of
loop-pair-init c = λ m some. rw (sub-zero, lt-ltb 0 m some)

pub loop-pair-preserved : goal.loop-pair-preserved
loop-pair-preserved c =
    let l = c.loop-pair in
    let inside : l.pair-index < length c.args.s.now / 2 = omega (arith, c.as_chunks.ensures.front_len) in
    let read : c.from_be_bytes.result ≡ symbol_at 2 c.args.s.now l.pair-index = c.from_be_bytes.ensures ∙ rw c.as_chunks.ensures.front (pair_read _ _ inside) in
    λ m some. l.invariant m some ∙ below_larger m _ _ l.pair-index _ _ inside (rw (c.max-top.ensures, read) (ltb_max l.top _ m))

pub returns : goal.returns
returns c = λ m some. c.loop-pair.invariant m some ∙ below_largest m _ _ c.loop-pair.pair-index _ (omega (arith, c.as_chunks.ensures.front_len))
