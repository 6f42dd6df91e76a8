-- `symbol_at` meets its contract: a symbol of one byte is the byte, one of two bytes has the high byte first.
use mathlib.Core.Path.{◌≡◌, sym}
use Rattle.symbols.proofs.Sizes.{is_two, byte_is, pair_is}
use Rattle.symbols.proofs.Width.symbol_at.Goals as goal
use Rattle.symbols.proofs.Width.symbol_at.Goals.{Else-self-eq1}

-- where the width is not 1
two : (c : Else-self-eq1) → c.args.self.bytes ≡ 2
two c = is_two c.args.self.bytes c.args.self.some c.args.self.most c.if-self-eq1.false

pub returns-then-self-eq1 : goal.returns-then-self-eq1
returns-then-self-eq1 c = sym (byte_is _ _ _ c.requires c.if-self-eq1.true)

pub returns : goal.returns
returns c = sym (pair_is _ _ _ c.requires (two (goal.at.returns c).Else-self-eq1))
