-- `symbols_bad` meets its contract, by the width of a symbol.
use mathlib.Core.Path.{◌≡◌, sym, ap, ◌∙◌}
use mathlib.Core.Bool.{not}
use Prim.Native.Nat.{ℕ}
use native.Mathlib.Omega.{arith}
use Rattle.lists.specs.Numbers.{all_below}
use Rattle.layout.specs.Width.{symbols_of}
use Rattle.field.proofs.FieldOf.{size_pos}
use Rattle.field.proofs.KindLaws.{usable_field}
use Rattle.generator.specs.Records.{modulus_of, size, width}
use Rattle.generator.proofs.Widths.{width_range}
use Rattle.refusals.specs.Conditions.{symbols_bad}
use Rattle.refusals.proofs.OneByte.{symbols_test}
use Rattle.refusals.proofs.field_symbols.symbols_bad.Goals as goal

pub returns-then-width-eq1 : goal.returns-then-width-eq1
unfolding width
returns-then-width-eq1 c =
    let h = c.args.h in
    let one : width h ≡ 1 = sym c.width.ensures ∙ c.if-width-eq1.true in
    ap not c.all_below.ensures ∙ rw (symbols_test h one, c.size-size.ensures)

pub pairs_below-requires : goal.pairs_below-requires
pairs_below-requires c =
    rw c.size-size.ensures (size_pos (modulus_of c.args.h) (usable_field c.args.h.field c.requires))

pub returns : goal.returns
unfolding width symbols_bad
returns c =
    let h = c.args.h in
    let two : width h ≡ 2 = omega (arith, width_range h, c.width.ensures) in
    ap not c.pairs_below.ensures ∙ rw c.size-size.ensures (ap (λ (w : ℕ). not (all_below (size h) (symbols_of w c.args.s.now))) (sym two))
