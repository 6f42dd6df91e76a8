-- `write_symbols` meets its contract. The loop's invariant: the bytes of the symbols below i are written.
use Prim.Native.Nat.{◌+◌, ◌*◌, ◌≤◌}
use native.Mathlib.Nat.{mul-le-mul, le_refl, add-sub_cancel_left}
use native.Mathlib.Omega.{arith}
use lib.ListN.{length, get_or}
use Rattle.lists.proofs.Fill.{fills_part, fills_all}
use Rattle.lists.proofs.Numbers.{below_at}
use Rattle.lists.proofs.Rows.{row_after, row_inside, part_length}
use Rattle.layout.specs.Width.{symbol_bytes}
use Rattle.layout.proofs.Widths.{length_symbol}
use Rattle.symbols.proofs.Written.{bytes_next, bytes_none}
use Rattle.symbols.proofs.Width.write_symbols.Goals as goal
use Rattle.symbols.proofs.Width.write_symbols.Goals.{In-loop-i}

-- a symbol's bytes lie within the buffer
symbol_in : (c : In-loop-i) → let a = c.args in c.loop-i.i * a.self.bytes + a.self.bytes ≤ length a.out.now
symbol_in c =
    rw c.requires.1 (row_inside (length c.args.symbols.now) c.loop-i.i c.args.self.bytes c.loop-i-test.true)

pub write_symbol-requires : goal.write_symbol-requires
write_symbol-requires c =
    let now = c.loop-i in
    let w = c.args.self.bytes in (
      below_at _ c.args.symbols.now c.requires.0 now.i c.loop-i-test.true,
      part_length (now.i * w) w now.out (omega (arith, now.invariant.long, symbol_in (goal.at.write_symbol-requires c).In-loop-i)),
    )

pub loop-i-preserved : goal.loop-i-preserved
loop-i-preserved c =
    let a = c.args in
    let x = get_or a.symbols.now c.loop-i.i 0 in rw (row_after, add-sub_cancel_left, c.write_symbol.ensures)
    (fills_part (symbol_bytes a.self.bytes x) a.self.bytes
    (rw (bytes_next _ _ _ c.loop-i-test.true) at c.loop-i.invariant)
    (length_symbol a.self.bytes x)
    (symbol_in (goal.at.loop-i-preserved c).In-loop-i))

pub returns : goal.returns
returns c =
    fills_all (rw (bytes_none _ _ _ c.loop-i-test.false) at c.loop-i.invariant)
    (rw c.requires.1 (mul-le-mul c.loop-i-test.false (le_refl _)))
