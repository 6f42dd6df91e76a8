-- `fault` meets its contract: a list of at most n nodes has at most 255.
use native.Mathlib.Omega.{arith}
use Rattle.std.proofs.Common.{sym, ◌∙◌}
use Rattle.refusals.proofs.NotMet.{length_good}
use Rattle.correct_listed.proofs.Accepts.{count_good}
use Rattle.correct_listed.proofs.Listed.fault.Goals as goal

pub overflow_cast-rows : goal.overflow_cast-rows
overflow_cast-rows c =
    let v = c.args.self in
    omega (arith, (count_good _ _ (sym c.count_bad.ensures ∙ c.in_ok-when-2.ensures)).1, v.code.sound.byte)

pub shares_bad-requires : goal.shares_bad-requires
shares_bad-requires c = (c.args.self.code.sound.usable_field, length_good _ _ (sym c.buffer_bad.ensures ∙ c.in_ok-when-3.ensures))
