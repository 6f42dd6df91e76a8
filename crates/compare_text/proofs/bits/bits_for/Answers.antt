-- `bits_for` meets its contract.
use mathlib.Core.Path.{refl}
use native.Mathlib.Omega.{arith}
use borrow.Author.Tests.{le-leb, lt-leb}
use Rattle.traces.specs.Repairs.{bits_for}
use Rattle.compare_text.proofs.bits.bits_for.Goals as goal

pub returns-in-128-to-max : goal.returns-in-128-to-max
unfolding bits_for
returns-in-128-to-max c = rw (le-leb 128 c.args.checks (omega arith)) (refl, omega arith, omega arith)

pub returns-in-64-to-127 : goal.returns-in-64-to-127
unfolding bits_for
returns-in-64-to-127 c = rw (lt-leb 128 c.args.checks (omega arith), le-leb 64 c.args.checks (omega arith)) (refl, omega arith, omega arith)

pub returns-in-16-to-63 : goal.returns-in-16-to-63
unfolding bits_for
returns-in-16-to-63 c = rw (lt-leb 128 c.args.checks (omega arith), lt-leb 64 c.args.checks (omega arith), le-leb 16 c.args.checks (omega arith)) (refl, omega arith, omega arith)

pub returns-in_default : goal.returns-in_default
unfolding bits_for
returns-in_default c = rw (lt-leb 128 c.args.checks (omega arith), lt-leb 64 c.args.checks (omega arith), lt-leb 16 c.args.checks (omega arith))
