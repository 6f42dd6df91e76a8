-- `WordPrime::close_groups` meets its contract. The loop's invariant: the groups before the rest are written.
use Prim.Native.Nat.{◌*◌}
use Rattle.std.specs.Iterator.Adapters.{enumerate_source, enumerate_count}
use Rattle.std.specs.Slice.Iter.{chunks_rest, chunks_size}
use mathlib.Core.Path.{◌≡◌}
use Rattle.carrying.specs.Carrying.{group_words, carried_words}
use Rattle.carry.proofs.Parts.{Closing}
use Rattle.carry.proofs.prime.WordPrime.close_groups.Given as goal

abbrev pub invariant-loop-i : goal.invariant-loop-i
invariant-loop-i l =
    goal.iterator-loop-i.can_next l.i-iterator
    × goal.iterator-loop-i.is_finite l.i-iterator
    × (chunks_size (enumerate_source l.i-iterator) ≡ group_words l.self.p * 2)
    × Closing l.self.p l.initial.out l.out (carried_words l.self.p l.s) (chunks_rest (enumerate_source l.i-iterator)) (enumerate_count l.i-iterator)
