use Rattle.std.proofs.Common.{◌≤◌}
use Rattle.arrayvec.specs.ArrayVec.{array_vec_len}
use Rattle.test_calls.proofs.bare_buffers.bare_buffer.Given as goal

abbrev pub invariant-loop : goal.invariant-loop
invariant-loop g l = array_vec_len l.buffer ≤ l.counter
