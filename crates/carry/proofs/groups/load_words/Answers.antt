-- `load_words` meets its contract. Invariant: the words below i are listed, and those from i on are to come.
use mathlib.Core.List.{append-nil, append_assoc}
use mathlib.Core.Path.{refl, sym, ◌∙◌}
use Prim.Native.Nat.{◌≤◌, ◌<◌}
use native.Mathlib.Omega.{arith}
use lib.ListN.{length, drop_of_length-le}
use Rattle.lists.proofs.Front.{drop_next}
use Rattle.carrying.specs.Carrying.{word_count, words_of}
use Rattle.carrying.proofs.Bytes.{length_words}
use Rattle.carry.proofs.groups.load_words.Goals as goal

pub loop-i-init : goal.loop-i-init
loop-i-init c = rw c.new-words.ensures record { few = refl; listed = refl }

pub word_at-requires : goal.word_at-requires
unfolding word_count
word_at-requires c = omega (arith, c.div_ceil-i-end.ensures)

pub push-requires : goal.push-requires
unfolding word_count
push-requires c = omega (arith, c.div_ceil-i-end.ensures, c.loop-i.invariant.few, c.requires)

pub loop-i-preserved : goal.loop-i-preserved
unfolding word_count
loop-i-preserved c =
    let bytes = c.args.s.now in
    let l = c.loop-i in
    let inside : l.i < length (words_of bytes) = omega (arith, c.div_ceil-i-end.ensures, length_words bytes) in
    record {
      few = omega (arith, c.push.ensures.len, l.invariant.few);
      listed = rw (c.push.ensures.items, append_assoc, c.word_at.ensures) (rw (drop_next _ l.i 0 inside) at l.invariant.listed);
    }

pub returns : goal.returns
unfolding word_count
returns c =
    let bytes = c.args.s.now in
    let l = c.loop-i in
    let end : length (words_of bytes) ≤ l.i = omega (arith, c.div_ceil-i-end.ensures, length_words bytes) in
    sym (append-nil _) ∙ rw (drop_of_length-le _ end) at l.invariant.listed
