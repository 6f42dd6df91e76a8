use Rattle.std.proofs.Common.{◌≤◌}
use Rattle.arrayvec.specs.ArrayVec.{array_vec_len}
use Rattle.test_words.proofs.bare_words.BareWords.numbers.Given as goal

abbrev pub invariant-loop : goal.invariant-loop
invariant-loop g l = array_vec_len l.numbers ≤ l.counter
