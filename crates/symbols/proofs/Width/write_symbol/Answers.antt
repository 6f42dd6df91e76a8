-- `write_symbol` meets its contract: one byte, or the high and the low byte.
use Prim.Native.Nat.{◌/◌, ◌%◌}
use mathlib.Core.Path.{◌≡◌}
use native.Mathlib.Omega.{arith}
use Rattle.layout.specs.Width.{symbol_bytes}
use Rattle.symbols.proofs.Sizes.{is_two}
use Rattle.symbols.proofs.Written.{one_written}
use Rattle.symbols.proofs.Width.write_symbol.Goals as goal
use Rattle.symbols.proofs.Width.write_symbol.Goals.{Else-self-eq1}

-- where the width is not 1
two : (c : Else-self-eq1) → c.args.self.bytes ≡ 2
two c = is_two c.args.self.bytes c.args.self.some c.args.self.most c.if-self-eq1.false

pub returns-then-self-eq1 : goal.returns-then-self-eq1
returns-then-self-eq1 c = one_written _ _ c.args.out.now c.if-self-eq1.true c.requires.1

pub returns : goal.returns
unfolding symbol_bytes
returns c =
    let high : c.args.x / 256 % 256 ≡ c.args.x / 256 = omega (arith, c.ranges.x) in
    rw (two (goal.at.returns c).Else-self-eq1, c.copy_from_slice.ensures.after, c.to_be_bytes.ensures, high)
