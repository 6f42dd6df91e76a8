-- `Field::width` meets its contract.
use mathlib.Core.Path.{sym}
use Prim.Native.Nat.{◌≤◌, ◌<◌}
use native.Mathlib.Omega.{arith}
use Rattle.field.specs.Fields.{size_of}
use Rattle.field.specs.Kinds.{modulus}
use Rattle.field.proofs.Bounds.{one_below}
use Rattle.field.proofs.KindLaws.{usable_field, size_fits}
use Rattle.field.proofs.Widths.{one_byte, two_bytes}
use Rattle.field.proofs.Field.width.Goals as goal

pub overflow_sub-top : goal.overflow_sub-top
overflow_sub-top c = omega (arith, c.size-top.ensures, one_below _ (usable_field _ c.requires))

pub returns-then-top-eq0 : goal.returns-then-top-eq0
returns-then-top-eq0 c =
    let few : size_of (modulus c.args.self) ≤ 256 = omega (arith, c.size-top.ensures, size_fits _ c.requires) in
    sym (one_byte _ few)

pub returns-else-top-eq0 : goal.returns-else-top-eq0
returns-else-top-eq0 c =
    let many : 256 < size_of (modulus c.args.self) = omega (arith, c.size-top.ensures) in
    sym (two_bytes _ many)
