-- `base_inverses` meets its contract. The loop's invariant: the inverses from c on are written.
use Rattle.lane_message.proofs.BaseInverses.{Written}
use Rattle.lane_message.proofs.rows.GeneratorRows.base_inverses.Given as goal

abbrev pub invariant-loop-c : goal.invariant-loop-c
invariant-loop-c l =
    Written l.fn.self.transform.powers.codec.code.header l.c l.value l.out
