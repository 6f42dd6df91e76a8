use Rattle.std.proofs.Common.{◌≤◌, ◌*◌}
use Rattle.arrayvec.specs.ArrayVec.{array_vec_len}
use Rattle.test_calls.proofs.plans.bytes_of.Given as goal

abbrev pub invariant-loop-x : goal.invariant-loop-x
invariant-loop-x l = array_vec_len l.bytes ≤ l.x-index * 2
