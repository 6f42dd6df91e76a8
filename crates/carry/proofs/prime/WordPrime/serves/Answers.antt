-- `WordPrime::serves` meets its contract. The loop's invariant: all words are symbols where those from i on are.
use mathlib.Core.Path.{refl, sym, ap, ◌∙◌}
use Prim.Native.Nat.{◌≤◌, ◌<◌}
use native.Mathlib.Omega.{arith}
use borrow.Author.Tests.{lt-ltb, le-ltb}
use lib.Bits.{bit_xor}
use lib.ListN.{get_or, drop_of_length-le}
use Rattle.lists.specs.Numbers.{all_below}
use Rattle.carrying.specs.Masks.{masked}
use Rattle.carry.proofs.Changes.{serves_next}
use Rattle.carry.proofs.prime.WordPrime.serves.Goals as goal

pub returns-then-self-word : goal.returns-then-self-word
returns-then-self-word c =
    let words = c.args.words.now in
    let i = c.loop-word.word-index in
    let high : c.args.self.p ≤ bit_xor (get_or words i 0) c.args.c = omega arith in
    sym (c.loop-word.invariant ∙ serves_next c.args.self.p c.args.c words i c.loop-word-test.true ∙ rw (le-ltb (bit_xor (get_or words i 0) c.args.c) c.args.self.p high) refl)

pub loop-word-preserved : goal.loop-word-preserved
loop-word-preserved c =
    let words = c.args.words.now in
    let i = c.loop-word.word-index in
    let low : bit_xor (get_or words i 0) c.args.c < c.args.self.p = omega arith in
    c.loop-word.invariant ∙ serves_next c.args.self.p c.args.c words i c.loop-word-test.true ∙ rw (lt-ltb (bit_xor (get_or words i 0) c.args.c) c.args.self.p low) refl

pub returns : goal.returns
unfolding masked all_below
returns c =
    let words = c.args.words.now in sym (c.loop-word.invariant ∙ ap (λ ws. all_below c.args.self.p (masked c.args.c ws)) (drop_of_length-le words {i = c.loop-word.word-index} c.loop-word-test.false))
