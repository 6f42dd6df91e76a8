-- `WordPrime::open_groups` meets its contract. The loop's invariant: the groups before the rest are read.
use Rattle.std.specs.Iterator.Adapters.{enumerate_source, enumerate_count}
use Rattle.std.specs.Slice.Iter.{chunks_rest, chunks_size}
use mathlib.Core.Path.{◌≡◌}
use Prim.Native.Nat.{◌+◌, ◌*◌}
use lib.ListN.{length}
use Rattle.carrying.specs.Carrying.{group_words, word_bytes_back}
use Rattle.carry.proofs.Parts.{Opening}
use Rattle.carry.proofs.prime.WordPrime.open_groups.Given as goal

abbrev pub invariant-loop-i : goal.invariant-loop-i
invariant-loop-i l =
    goal.iterator-loop-i.can_next l.i-iterator
    × goal.iterator-loop-i.is_finite l.i-iterator
    × (chunks_size (enumerate_source l.i-iterator) ≡ group_words l.fn.self.p * 2 + 2)
    × Opening l.fn.self.p l.initial.out l.out (word_bytes_back l.fn.self.p (length l.initial.out) l.symbols) (chunks_rest (enumerate_source l.i-iterator)) (enumerate_count l.i-iterator)
