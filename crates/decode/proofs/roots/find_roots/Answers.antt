-- `find_roots` meets its contract. Invariant: x is the point of node j, a symbol, the roots below j are listed, and those from j on are to come.
use mathlib.Core.Path.{◌≡◌, refl, sym, ap, ◌∙◌}
use mathlib.Core.List.{append-nil, append_assoc}
use native.Mathlib.Nat.{sub-zero}
use native.Mathlib.Omega.{arith}
use borrow.Author.Tests.{eq-eqb, ne_eqb}
use Rattle.lists.proofs.Passing.{passing_next, passing_end}
use Rattle.field.specs.Fields.{mul, power}
use Rattle.field.specs.Kinds.{modulus}
use Rattle.field.proofs.Bounds.{one_below}
use Rattle.field.proofs.KindLaws.{usable_field}
use Rattle.field.proofs.Powers.{power_next}
use Rattle.generator.specs.Codewords.{poly_at}
use Rattle.decode.specs.Inner.Errors.{roots_of}
use Rattle.decode.proofs.roots.find_roots.Goals as goal
use Rattle.decode.proofs.roots.find_roots.Goals.{After-mul-x, else-y-eq-ZERO, then-y-eq-ZERO}

-- what the value says of node j
value_is : (c : After-mul-x) → c.value-y.result ≡ poly_at (modulus c.args.polynomial.field.field) c.args.polynomial.coefficients.now (power (modulus c.args.polynomial.field.field) c.args.code.header.root c.loop-j.j)
value_is c = c.value-y.ensures.is ∙ ap (poly_at _ c.args.polynomial.coefficients.now) c.loop-j.invariant.point

pub loop-j-init : goal.loop-j-init
unfolding power
loop-j-init c = rw (c.new-nodes.ensures, sub-zero) record { few = omega arith; symbol = one_below _ (usable_field _ c.args.polynomial.field.usable); point = refl; listed = refl }

pub loop-j-preserved : goal.loop-j-preserved
loop-j-preserved c =
    let l = c.loop-j in
    let todo = rw (passing_next _ _ _ c.loop-j-test.true) at l.invariant.listed in
    let value = sym (value_is (goal.at.loop-j-preserved c).After-mul-x) in
    let point = c.mul-x.ensures.is ∙ ap (mul _ _) l.invariant.point ∙ sym (power_next _ _ l.j) in
    elim c.if-y-eq-ZERO.branch [
      | then-y-eq-ZERO w ↦ record {
        few = rw w.nodes-is (omega (arith, w.push.ensures.len));
        symbol = c.mul-x.ensures.symbol;
        point = point;
        listed = rw (w.nodes-is, w.push.ensures.items, append_assoc) (rw (eq-eqb _ 0 (value ∙ w.if-y-eq-ZERO.true)) at todo);
      }
      | else-y-eq-ZERO w ↦ rw w.nodes-is record {
        few = omega arith;
        symbol = c.mul-x.ensures.symbol;
        point = point;
        listed = rw (ne_eqb _ 0 (λ z. w.if-y-eq-ZERO.false (sym value ∙ z))) at todo;
      }
    ]

pub returns : goal.returns
unfolding roots_of
returns c = sym (append-nil _) ∙ rw (c.requires, passing_end _ _ _ c.loop-j-test.false) at c.loop-j.invariant.listed
