-- `word_at` meets its contract: the last of an odd number of bytes stands high.
use mathlib.Core.Path.{◌≡◌, sym, ◌∙◌}
use Prim.Native.Nat.{◌*◌, ◌/◌}
use native.Mathlib.Omega.{arith}
use lib.ListN.{length, get_or}
use Rattle.carrying.specs.Carrying.{word_count}
use Rattle.carry.proofs.Words.{word_at, last_word}
use Rattle.carry.proofs.groups.word_at.Goals as goal

pub bounds-s-i : goal.bounds-s-i
unfolding word_count
bounds-s-i c = omega arith

pub returns-then-i-s : goal.returns-then-i-s
unfolding word_count
returns-then-i-s c =
    let s = c.args.s.now in
    let at : c.args.i ≡ length s / 2 = omega arith in
    let word = rw at at c.from_be_bytes.ensures in
    let high : c.from_be_bytes.result ≡ get_or s (length s / 2 * 2) 0 * 256 = omega (arith, word) in
    high ∙ rw at (sym (last_word s (λ even. omega arith)))

pub symbol_at-requires : goal.symbol_at-requires
unfolding word_count
symbol_at-requires c = omega arith

pub returns : goal.returns
unfolding word_count
returns c = c.symbol_at.ensures ∙ sym (word_at c.args.s.now c.args.i (omega arith))
