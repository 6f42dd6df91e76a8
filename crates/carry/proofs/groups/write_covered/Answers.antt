-- `write_covered` meets its contract: the mask's bytes, then those of the words under it.
use Rattle.layout.specs.Width.{symbol_bytes, bytes_of}
use Rattle.layout.proofs.Widths.{length_symbol}
use Rattle.carrying.specs.Masks.{masked, covered}
use Rattle.carry.proofs.Words.{written_behind}
use Rattle.carry.proofs.groups.write_covered.Goals as goal

pub returns : goal.returns
unfolding covered bytes_of
returns c =
    let x = c.args.c in rw (c.write_symbol.ensures, c.write_masked.ensures) (written_behind (symbol_bytes 2 x) (bytes_of 2 (masked x c.args.words.now)) c.args.out.now (length_symbol 2 x))
