-- `read16` meets its contract: 16 bytes, or all that are left.
use Rattle.std.proofs.Common.{arith}
use Rattle.tiles.proofs.Gathered.{read_chunk}
use Rattle.tiles.proofs.gathering.read16.Goals as goal

pub returns-then-left-ge16 : goal.returns-then-left-ge16
returns-then-left-ge16 c =
    let a = c.args in
    read_chunk a.part.now a.block.now a.at a.to (omega arith) (omega arith)
